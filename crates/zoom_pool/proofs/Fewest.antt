-- Ranges with gaps between them are known by their positions, and one event of the plan at most is next.
use Rattle.std.proofs.Common.{◌≡◌, inl, inr, ℕ, zero, suc, ◌+◌, ◌<◌, ◌≤◌, List, [], ◌∷◌, ◌++◌, map, true, Some, refl, sym, ap, subst, ◌∙◌, arith}
use Rattle.std.specs.Prelude.{ℤ, pos, negsuc}
use Rattle.std.specs.List.{range_with_len}
use Rattle.zplan.specs.declared.range.Range.{Range}
use Rattle.zplan.specs.declared.span.Span.{Span}
use Rattle.zplan.specs.Positions.{IsFrom, IsIn, IsWanted, first_of}
use Rattle.zplan.specs.Ranges.{natural, positions, positions_of, places, places_of, span_of, range_of, IsApart}
use Rattle.zplan.specs.Plan.{Operation, Init, Search, Present, Reply, InitReply, Replies, PlanEvent, RequestSent, ReplyAccepted, CloseSent, IsPlanned, first, search, cut, rest, IsDue, IsDriven, IsNextEvent, replies_in, asked_in, start_of, number}
use Rattle.zplan.specs.Laws.{NumberLaw}
use Rattle.zplan.proofs.Cuts.{places_ascend}
use Rattle.zplan.proofs.Order.{answered_sent}

-- ---- runs

-- a run with a gap behind it is as long as any other that begins the same positions
same_run : (start n m : ℕ) (xs ys : List ℕ) → IsFrom (start + n + 1) xs → IsFrom (start + m + 1) ys
    → range_with_len start n ++ xs ≡ range_with_len start m ++ ys → (n ≡ m) × (xs ≡ ys)
same_run start zero zero xs ys a b e = (refl, e)
same_run start zero (suc m) [] ys a b e = absurd (cc)
same_run start zero (suc m) (x ∷ xs) ys a b e =
    let is : x ≡ start = cc in let lo = a.0 in absurd (omega (arith, is, lo))
same_run start (suc n) zero xs [] a b e = absurd (cc)
same_run start (suc n) zero xs (y ∷ ys) a b e =
    let is : start ≡ y = cc in let lo = b.0 in absurd (omega (arith, is, lo))
same_run start (suc n) (suc m) xs ys a b e =
    let rest : range_with_len (start + 1) n ++ xs ≡ range_with_len (start + 1) m ++ ys = cc in
    let at_n : start + suc n + 1 ≡ start + 1 + n + 1 = omega arith in
    let at_m : start + suc m + 1 ≡ start + 1 + m + 1 = omega arith in
    let r = same_run (start + 1) n m xs ys (subst (λ z. IsFrom z xs) at_n a) (subst (λ z. IsFrom z ys) at_m b) rest in
    (ap suc r.0, r.1)

-- ---- spans

same_spans : (low more : ℕ) (xs ys : List Span) → IsApart low xs → IsApart more ys → places xs ≡ places ys → xs ≡ ys
same_spans low more [] [] a b e = refl
same_spans low more [] (y ∷ ys) a b e = absurd (none y.n b.1 e)
  where
    none : (n : ℕ) → 0 < n → [] ≡ range_with_len y.start n ++ places ys → ⊥
    none zero lt e = absurd (omega (arith, lt))
    none (suc n) lt e = cc
same_spans low more (x ∷ xs) [] a b e = absurd (none x.n a.1 e)
  where
    none : (n : ℕ) → 0 < n → range_with_len x.start n ++ places xs ≡ [] → ⊥
    none zero lt e = absurd (omega (arith, lt))
    none (suc n) lt e = cc
same_spans low more (x ∷ xs) (y ∷ ys) a b e =
    let start : x.start ≡ y.start = heads x.start y.start x.n y.n a.1 b.1 (places xs) (places ys) e in
    let rest = same_run y.start x.n y.n (places xs) (places ys)
    (subst (λ z. IsFrom (z + x.n + 1) (places xs)) start (places_ascend (x.start + x.n + 1) xs a.2).0)
    (places_ascend (y.start + y.n + 1) ys b.2).0
    (ap (λ z. range_with_len z x.n ++ places xs) (sym start) ∙ e) in
    let more = same_spans (x.start + x.n + 1) (y.start + y.n + 1) xs ys a.2 b.2 rest.1 in
    λ i. record { start = start i; n = rest.0 i } ∷ more i
  where
    heads : (s t n m : ℕ) → 0 < n → 0 < m → (us vs : List ℕ) → range_with_len s n ++ us ≡ range_with_len t m ++ vs
        → s ≡ t
    heads s t zero m lo hi us vs e = absurd (omega (arith, lo))
    heads s t (suc n) zero lo hi us vs e = absurd (omega (arith, hi))
    heads s t (suc n) (suc m) lo hi us vs e = cc

-- ---- ranges

places_spans : (ranges : List Range) → places (map span_of ranges) ≡ positions ranges
places_spans [] = refl
places_spans (r ∷ rs) = ap (λ l. positions_of r ++ l) (places_spans rs)

natural_back : (z : ℤ) → 0 < natural z → pos (natural z) ≡ z
natural_back (pos n) lt = refl
natural_back (negsuc n) lt = absurd (omega (arith, lt))

-- ranges are known by their spans
ranges_back : (low : ℕ) (ranges : List Range) → 0 < low → IsApart low (map span_of ranges)
    → map range_of (map span_of ranges) ≡ ranges
ranges_back low [] some a = refl
ranges_back low (r ∷ rs) some a =
    let start : 0 < natural r.start = let le = a.0 in omega (arith, some, le) in
    let later : 0 < natural r.start + natural r.n + 1 = omega arith in
    let rest = ranges_back (natural r.start + natural r.n + 1) rs later a.2 in
    λ i. record { start = natural_back r.start start i; n = natural_back r.n a.1 i } ∷ rest i

-- ranges with gaps between them are known by their positions
pub same_ranges : (one other : List Range) → IsApart 1 (map span_of one) → IsApart 1 (map span_of other)
    → positions one ≡ positions other → one ≡ other
same_ranges one other a b e =
    let spans = same_spans 1 1 (map span_of one) (map span_of other) a b
    (places_spans one ∙ e ∙ sym (places_spans other)) in
    let some : 0 < 1 = omega arith in
    sym (ranges_back 1 one some a) ∙ ap (map range_of) spans ∙ ranges_back 1 other some b

-- ---- one event

module _ (numbers : NumberLaw) (wanted : List ℕ) (step window : ℕ) (events : List PlanEvent) (w : IsWanted wanted)
    (lo : 0 < step) (driven : IsDriven wanted step events) where
  -- the search was planned before a Present
  search_planned : (l : List ℕ) → IsPlanned wanted step (replies_in events) (Present l)
      → IsPlanned wanted step (replies_in events) Search
  search_planned l (cut three count i m a o f lt x) = a
  search_planned l (rest m k a f lo hi) = search_planned m a

  -- a Present asks for a position
  unstarted : (l : List ℕ) → IsPlanned wanted step (replies_in events) (Present l) → first_of l ≤ 0 → ⊥
  unstarted l a le =
      let n : number (Present l) ≡ number Search = omega (arith, le) in
      let e = numbers wanted step (replies_in events) w lo (Present l) Search a (search_planned l a) n in cc

  -- Init was sent before the search is due
  unsent : IsDue wanted step events Init → IsPlanned wanted step (replies_in events) Search → ⊥
  unsent d (search three a e) = d.1 (answered_sent wanted step events driven Init (InitReply true three) e)

  same_operation : (a b : Operation) → IsDue wanted step events a → IsDue wanted step events b
      → start_of a ≤ start_of b → start_of b ≤ start_of a → a ≡ b
  same_operation Init Init d f x y = refl
  same_operation Init Search d f x y = absurd (unsent d f.0)
  same_operation Init (Present l) d f x y = absurd (unstarted l f.0 y)
  same_operation Search Init d f x y = absurd (unsent f d.0)
  same_operation Search Search d f x y = refl
  same_operation Search (Present l) d f x y = absurd (unstarted l f.0 y)
  same_operation (Present l) Init d f x y = absurd (unstarted l d.0 x)
  same_operation (Present l) Search d f x y = absurd (unstarted l d.0 x)
  same_operation (Present l) (Present m) d f x y =
      let n : first_of l + 1 ≡ first_of m + 1 = omega (arith, x, y) in
      numbers wanted step (replies_in events) w lo (Present l) (Present m) d.0 f.0 n

  pub one_event : (one other : PlanEvent) → IsNextEvent wanted step window events one
      → IsNextEvent wanted step window events other → one ≡ other
  one_event (RequestSent a) (RequestSent b) m n =
      ap RequestSent (same_operation a b m.0 n.0 (m.2 b n.0) (n.2 a m.0))
  one_event (RequestSent a) CloseSent m n = absurd (n.0 a m.0)
  one_event CloseSent (RequestSent b) m n = absurd (m.0 b n.0)
  one_event CloseSent CloseSent m n = refl
  one_event (ReplyAccepted a r) other m n = absurd m
  one_event (RequestSent a) (ReplyAccepted b r) m n = absurd n
  one_event CloseSent (ReplyAccepted b r) m n = absurd n
