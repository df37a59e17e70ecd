-- A first position has one list, what is left of an answer was not asked yet, how much is asked, and what is shown.
use Rattle.std.proofs.Common.{◌≡◌, ◌⊎◌, inl, inr, ℕ, zero, suc, ◌+◌, ◌-◌, ◌*◌, ◌<◌, ◌≤◌, Bool, true, false, List, [], ◌∷◌, ◌++◌, length, take, drop, Option, None, Some, refl, sym, ap, subst, ◌∙◌, arith, length-drop, length-append}
use Rattle.std.proofs.lemmas.List.{take-append-drop}
use Rattle.std.specs.Prelude.{map}
use Rattle.std.specs.List.{concat}
use Rattle.zplan.specs.Positions.{up_to, cut_of, presents, first_of, IsIn, AreAscending, IsWanted}
use Rattle.zplan.specs.Plan.{Operation, Init, Search, Present, Reply, InitReply, SearchReply, PresentReply, number, Replies, IsPlanned, search, cut, rest, IsMadeDue, new_search, new_cut, new_rest, PlanEvent, RequestSent, ReplyAccepted, CloseSent, replies_in, asked_in, firsts, count_of_reply, count_in, IsDriven, HasRecordsForEach, IsShownPosition}
use Rattle.zplan.specs.Cutting.{deal}
use Rattle.zplan.proofs.Cuts.{concat_deal, cut_dealt, dealt_cut, some_deal, wanted_ascend, in_left, in_right, in_either}
use Rattle.zplan.proofs.Ends.{IsEnd, IsTail, from_in, tail_has, tail_self, tail_end, own_end, end_size, end_same, tail_one, whole_end, tails_meet}
use Rattle.zplan.proofs.Order.{sent_asked}

abbrev pub opened : Option Reply → Bool
opened None = false
opened (Some (InitReply b t)) = t
opened (Some (SearchReply c)) = false
opened (Some (PresentReply k)) = false

abbrev pub pieces : List ℕ → ℕ → Replies → List (List ℕ)
pieces wanted last replies = deal (opened (replies Init)) last last (up_to (count_in replies) wanted)

tail_size : (l : List ℕ) (ls : List (List ℕ)) → IsTail l ls → length l ≤ length (concat ls)
tail_size l [] h = absurd h
tail_size l (q ∷ qs) (inl h) = let b = end_size l q h in let n : length (q ++ concat qs) ≡ length q + length (concat qs) = length-append q (concat qs) in omega (arith, b.1, n)
tail_size l (q ∷ qs) (inr h) = let b = tail_size l qs h in let n : length (q ++ concat qs) ≡ length q + length (concat qs) = length-append q (concat qs) in omega (arith, b, n)

end_in : (x : ℕ) (l q : List ℕ) → IsEnd l q → IsIn x l → IsIn x q
end_in x l [] h i = absurd h
end_in x l (p ∷ ps) (inl e) i = subst (IsIn x) e i
end_in x l (p ∷ ps) (inr h) i = inr (end_in x l ps h i)

pub tail_in : (x : ℕ) (l : List ℕ) (ls : List (List ℕ)) → IsTail l ls → IsIn x l → IsIn x (concat ls)
tail_in x l [] h i = absurd h
tail_in x l (q ∷ qs) (inl h) i = in_left x q (concat qs) (end_in x l q h i)
tail_in x l (q ∷ qs) (inr h) i = in_right x q (concat qs) (tail_in x l qs h i)

pub in_concat : (x : ℕ) (ls : List (List ℕ)) → IsIn x (concat ls) → (q : List ℕ) × IsIn q ls × IsIn x q
in_concat x [] i = absurd i
in_concat x (q ∷ qs) i =
    let later = in_concat x qs in
    elim (in_either x q (concat qs) i) [
      | inl j ↦ (q, inl refl, j)
      | inr j ↦ let r = later j in (r.0, inr r.1, r.2)
    ]

module _ (wanted : List ℕ) (last : ℕ) (replies : Replies) where
  -- a list of the cut is one of the pieces
  pub cut_piece : (t : Bool) (count i : ℕ) (l : List ℕ) → replies Init ≡ Some (InitReply true t) → replies Search ≡ Some (SearchReply (Some count))
      → i * suc last < length (up_to count wanted) → IsIn l (presents t (cut_of (suc last) (up_to count wanted) i)) → IsIn l (pieces wanted last replies)
  cut_piece t count i l o h lt x =
      let e : t ≡ opened (replies Init) = sym (ap opened o) in
      let f : count ≡ count_in replies = sym (ap count_of_reply h) in
      subst (λ b. IsIn l (deal b last last (up_to (count_in replies) wanted))) e (subst (λ n. IsIn l (deal t last last (up_to n wanted))) f (cut_dealt t last i (up_to count wanted) l lt x))

  pub asked_tail : (l : List ℕ) → IsPlanned wanted (suc last) replies (Present l) → IsTail l (pieces wanted last replies)
  asked_tail l (cut t count i m a o h lt x) = tail_self l (pieces wanted last replies) (some_deal _ last last _) (cut_piece t count i l o h lt x)
  asked_tail l (rest m k a h lo hi) = tail_end (drop k m) m (pieces wanted last replies) (own_end k m hi) (asked_tail m a)

  joined : concat (pieces wanted last replies) ≡ up_to (count_in replies) wanted
  joined = concat_deal (opened (replies Init)) last last (up_to (count_in replies) wanted)

  pub ascends : IsWanted wanted → AreAscending (concat (pieces wanted last replies))
  ascends w = subst AreAscending (sym joined) (wanted_ascend (count_in replies) wanted w).1

  pub above_none : IsWanted wanted → (x : ℕ) → IsIn x (concat (pieces wanted last replies)) → 1 ≤ x
  above_none w x i = from_in 1 (up_to (count_in replies) wanted) x (wanted_ascend (count_in replies) wanted w).0 (subst (IsIn x) joined i)

  pub first_wanted : (l : List ℕ) → IsPlanned wanted (suc last) replies (Present l) → IsIn (first_of l) (up_to (count_in replies) wanted)
  first_wanted l a = subst (IsIn (first_of l)) joined (tail_has l (pieces wanted last replies) (asked_tail l a))

  pub in_wanted : (l : List ℕ) (p : ℕ) → IsPlanned wanted (suc last) replies (Present l) → IsIn p l → IsIn p (up_to (count_in replies) wanted)
  in_wanted l p a i = subst (IsIn p) joined (tail_in p l (pieces wanted last replies) (asked_tail l a) i)

  -- a number names one operation
  some_first : IsWanted wanted → (l : List ℕ) → IsPlanned wanted (suc last) replies (Present l) → 1 ≤ first_of l
  some_first w l a = from_in 1 (up_to (count_in replies) wanted) (first_of l) (wanted_ascend (count_in replies) wanted w).0 (first_wanted l a)

  pub number_one : IsWanted wanted → (a b : Operation) → IsPlanned wanted (suc last) replies a → IsPlanned wanted (suc last) replies b → number a ≡ number b → a ≡ b
  number_one w Init Init a b e = refl
  number_one w Init Search a b e = absurd (omega arith)
  number_one w Init (Present m) a b e = absurd (omega arith)
  number_one w Search Init a b e = absurd (omega arith)
  number_one w Search Search a b e = refl
  number_one w Search (Present m) a b e = let s = some_first w m b in absurd (omega (arith, s))
  number_one w (Present l) Init a b e = absurd (omega arith)
  number_one w (Present l) Search a b e = let s = some_first w l a in absurd (omega (arith, s))
  number_one w (Present l) (Present m) a b e =
      ap Present (tail_one l m (pieces wanted last replies) (ascends w) (asked_tail l a) (asked_tail m b) (let f : first_of l ≡ first_of m = omega arith in f))

  -- of two lists asked, one of them an end of the other: that end was left by the other's answer, or by a later one
  within : IsWanted wanted → (fuel : ℕ) (l m : List ℕ) → IsPlanned wanted (suc last) replies (Present l) → IsPlanned wanted (suc last) replies (Present m) → IsEnd m l
      → length (concat (pieces wanted last replies)) + length (concat (pieces wanted last replies)) ≤ fuel + length l + length m
      → (m ≡ l) ⊎ ((k : ℕ) × (replies (Present l) ≡ Some (PresentReply k)) × (length m + k ≤ length l))
  within w fuel l m a (cut t count i x b o h lt y) e n = inl (whole_end l m (pieces wanted last replies) (some_deal _ last last _) (ascends w) (cut_piece t count i m o h lt y) (asked_tail l a) e)
  within w zero l m a (rest x k b h lo hi) e n =
      let sl = tail_size l (pieces wanted last replies) (asked_tail l a) in
      let sx = tail_size x (pieces wanted last replies) (asked_tail x b) in
      let d : length (drop k x) ≡ length x - k = length-drop k x in
      absurd (omega (arith, sl, sx, d))
  within w (suc fuel) l m a (rest x k b h lo hi) e n =
      let d : length (drop k x) ≡ length x - k = length-drop k x in
      let one = λ (i : IsEnd l x). within w fuel x l b a i (omega (arith, d)) in
      let two = λ (i : IsEnd x l). within w fuel l x a b i (omega (arith, d)) in
      let at : x ≡ l → (j : ℕ) × (replies (Present l) ≡ Some (PresentReply j)) × (length (drop k x) + j ≤ length l) = λ f. (k, ap (λ z. replies (Present z)) (sym f) ∙ h, let s : length x ≡ length l = ap length f in omega (arith, d, s)) in
      elim (tails_meet l x (drop k x) (pieces wanted last replies) (ascends w) (asked_tail l a) (asked_tail x b) e (own_end k x hi)) [
        | inl i ↦ elim (one i) [
          | inl f ↦ inr (at (sym f))
          | inr r ↦ let q : r.0 ≡ k = let y : Some (PresentReply r.0) ≡ Some (PresentReply k) = sym r.1 ∙ h in cc in inl (end_same (drop k x) l e (omega (arith, d, r.2, q)))
        ]
        | inr i ↦ elim (two i) [
          | inl f ↦ inr (at f)
          | inr r ↦ inr (r.0, r.1, omega (arith, d, r.2))
        ]
      ]

-- what an answer leaves was not in Asked before that answer
pub rest_unasked : (wanted : List ℕ) (last : ℕ) (replies : Replies) → IsWanted wanted → (l : List ℕ) (k : ℕ) → IsPlanned wanted (suc last) replies (Present l)
    → replies (Present l) ≡ None → 0 < k → k < length l → IsPlanned wanted (suc last) replies (Present (drop k l)) → ⊥
rest_unasked wanted last replies w l k a none lo hi b =
    let n : length (drop k l) ≡ length l - k = length-drop k l in
    let all : ℕ = length (concat (pieces wanted last replies)) in
    elim (within wanted last replies w (all + all) l (drop k l) a b (own_end k l hi) (omega arith)) [
      | inl e ↦ let f : length (drop k l) ≡ length l = ap length e in absurd (omega (arith, n, f))
      | inr r ↦ absurd (let y : None ≡ Some (PresentReply r.0) = sym none ∙ r.1 in cc)
    ]

-- no Present is asked before the count is known
pub present_found : (wanted : List ℕ) (step : ℕ) (replies : Replies) (l : List ℕ) → IsPlanned wanted step replies (Present l) → (count : ℕ) × (replies Search ≡ Some (SearchReply (Some count)))
present_found wanted step replies l (cut t count i m a o h lt x) = (count, h)
present_found wanted step replies l (rest m k a h lo hi) = present_found wanted step replies m a

pub search_opened : (wanted : List ℕ) (step : ℕ) (replies : Replies) → IsPlanned wanted step replies Search → (t : Bool) × (replies Init ≡ Some (InitReply true t))
search_opened wanted step replies (search t i h) = (t, h)

-- what an answer makes due was not in Asked before it
pub new_unasked : (wanted : List ℕ) (last : ℕ) (replies : Replies) → IsWanted wanted → (a : Operation) (r : Reply) (b : Operation) → IsPlanned wanted (suc last) replies a → replies a ≡ None
    → IsMadeDue wanted (suc last) replies a r b → IsPlanned wanted (suc last) replies b → ⊥
new_unasked wanted last replies w a r b i none (new_search t) h = let o = search_opened wanted (suc last) replies h in absurd (let y : None ≡ Some (InitReply true o.0) = sym none ∙ o.1 in cc)
new_unasked wanted last replies w a r b i none (new_cut t count j m o lt y) h = let f = present_found wanted (suc last) replies m h in absurd (let z : None ≡ Some (SearchReply (Some f.0)) = sym none ∙ f.1 in cc)
new_unasked wanted last replies w a r b i none (new_rest l k lo hi) h = rest_unasked wanted last replies w l k i none lo hi h

-- How much is asked: numbers that differ, each of them one of as many as may be.
abbrev pub AllDiffer : List ℕ → Type 0
AllDiffer [] = Unit {0}
AllDiffer (x ∷ xs) = (IsIn x xs → ⊥) × AllDiffer xs

without : (x : ℕ) (ys : List ℕ) → IsIn x ys → (zs : List ℕ) × (length ys ≡ suc (length zs)) × ((q : ℕ) → IsIn q ys → (q ≡ x → ⊥) → IsIn q zs)
without x [] i = absurd i
without x (y ∷ ys) (inl e) = (ys, refl, λ q j n. elim j [ inl f ↦ absurd (n (f ∙ sym e)) | inr k ↦ k ])
without x (y ∷ ys) (inr i) =
    let r = without x ys i in
    (y ∷ r.0, ap suc r.1, λ q j n. elim j [ inl f ↦ inl f | inr k ↦ inr (r.2 q k n) ])

pub no_more : (xs ys : List ℕ) → AllDiffer xs → ((q : ℕ) → IsIn q xs → IsIn q ys) → length xs ≤ length ys
no_more [] ys d h = omega arith
no_more (x ∷ xs) ys d h =
    let r = without x ys (h x (inl refl)) in
    let b = no_more xs r.0 d.1 (λ q i. r.2 q (h q (inr i)) (λ e. d.0 (subst (λ z. IsIn z xs) e i))) in
    omega (arith, r.1, b)

in_map : (q : ℕ) (all : List Operation) → IsIn q (map number all) → (a : Operation) × IsIn a all × (q ≡ number a)
in_map q [] i = absurd i
in_map q (a ∷ all) (inl e) = (a, inl refl, e)
in_map q (a ∷ all) (inr i) = let r = in_map q all i in (r.0, inr r.1, r.2)

map_in : (p : ℕ) (ps : List ℕ) → IsIn p ps → IsIn (p + 1) (map (λ x. x + 1) ps)
map_in p [] i = absurd i
map_in p (x ∷ ps) (inl e) = inl (ap (λ z. z + 1) e)
map_in p (x ∷ ps) (inr i) = inr (map_in p ps i)

length_map : {X : Type 0} (f : X → ℕ) (xs : List X) → length (map f xs) ≡ length xs
length_map f [] = refl
length_map f (x ∷ xs) = ap suc (length_map f xs)

module _ (wanted : List ℕ) (last : ℕ) (w : IsWanted wanted) where
  pub numbers_differ : (events : List PlanEvent) → IsDriven wanted (suc last) events → AllDiffer (map number (asked_in events))
  numbers_differ [] d = tt
  numbers_differ (RequestSent a ∷ events) d = (
    λ i. let r = in_map (number a) (asked_in events) i in
        d.0.1 (subst (λ z. IsIn z (asked_in events)) (sym (number_one wanted last (replies_in events) w a r.0 d.0.0 (sent_asked wanted (suc last) events d.1 r.0 r.1) r.2)) r.1),
    numbers_differ events d.1,
  )
  numbers_differ (ReplyAccepted a r ∷ events) d = numbers_differ events d.2
  numbers_differ (CloseSent ∷ events) d = numbers_differ events d.1

  number_among : (replies : Replies) (a : Operation) → IsPlanned wanted (suc last) replies a → IsIn (number a) (0 ∷ 1 ∷ map (λ p. p + 1) (up_to (count_in replies) wanted))
  number_among replies Init a = inl refl
  number_among replies Search a = inr (inl refl)
  number_among replies (Present l) a = inr (inr (map_in (first_of l) (up_to (count_in replies) wanted) (first_wanted wanted last replies l a)))

  pub bounded : (events : List PlanEvent) → IsDriven wanted (suc last) events → length (asked_in events) ≤ 2 + length (up_to (count_in (replies_in events)) wanted)
  bounded events d =
      let b = no_more (map number (asked_in events)) (0 ∷ 1 ∷ map (λ p. p + 1) (up_to (count_in (replies_in events)) wanted)) (numbers_differ events d)
      (λ q i. let r = in_map q (asked_in events) i in
      subst (λ z. IsIn z (0 ∷ 1 ∷ map (λ p. p + 1) (up_to (count_in (replies_in events)) wanted))) (sym r.2) (number_among (replies_in events) r.0 (sent_asked wanted (suc last) events d r.0 r.1))) in
      let n : length (map number (asked_in events)) ≡ length (asked_in events) = length_map number (asked_in events) in
      let m : length (map (λ p. p + 1) (up_to (count_in (replies_in events)) wanted)) ≡ length (up_to (count_in (replies_in events)) wanted) = length_map (λ p. p + 1) (up_to (count_in (replies_in events)) wanted) in
      omega (arith, b, n, m)

in_firsts : (q : ℕ) (all : List Operation) → IsIn q (firsts all) → (l : List ℕ) × IsIn (Present l) all × (q ≡ first_of l)
in_firsts q [] i = absurd i
in_firsts q (Init ∷ all) i = let r = in_firsts q all i in (r.0, inr r.1, r.2)
in_firsts q (Search ∷ all) i = let r = in_firsts q all i in (r.0, inr r.1, r.2)
in_firsts q (Present l ∷ all) (inl e) = (l, inl refl, e)
in_firsts q (Present l ∷ all) (inr i) = let r = in_firsts q all i in (r.0, inr r.1, r.2)

module _ (wanted : List ℕ) (last : ℕ) (w : IsWanted wanted) where
  firsts_differ : (events : List PlanEvent) → IsDriven wanted (suc last) events → AllDiffer (firsts (asked_in events))
  firsts_differ [] d = tt
  firsts_differ (RequestSent Init ∷ events) d = firsts_differ events d.1
  firsts_differ (RequestSent Search ∷ events) d = firsts_differ events d.1
  firsts_differ (RequestSent (Present l) ∷ events) d = (
    λ i. let r = in_firsts (first_of l) (asked_in events) i in
        d.0.1 (subst (λ z. IsIn z (asked_in events)) (sym (number_one wanted last (replies_in events) w (Present l) (Present r.0) d.0.0 (sent_asked wanted (suc last) events d.1 (Present r.0) r.1) (ap (λ z. z + 1) r.2))) r.1),
    firsts_differ events d.1,
  )
  firsts_differ (ReplyAccepted a r ∷ events) d = firsts_differ events d.2
  firsts_differ (CloseSent ∷ events) d = firsts_differ events d.1

  pub few_presents : (events : List PlanEvent) → IsDriven wanted (suc last) events → length (firsts (asked_in events)) ≤ length (up_to (count_in (replies_in events)) wanted)
  few_presents events d = no_more (firsts (asked_in events)) (up_to (count_in (replies_in events)) wanted) (firsts_differ events d)
      (λ q i. let r = in_firsts q (asked_in events) i in
      subst (λ z. IsIn z (up_to (count_in (replies_in events)) wanted)) (sym r.2) (first_wanted wanted last (replies_in events) r.0 (sent_asked wanted (suc last) events d (Present r.0) r.1)))

-- what is asked and served shows each wanted position, and no other
some_length : (x : ℕ) (xs : List ℕ) → IsIn x xs → 0 < length xs
some_length x [] i = absurd i
some_length x (y ∷ xs) i = omega arith

module _ (wanted : List ℕ) (last : ℕ) (replies : Replies) (served : HasRecordsForEach wanted (suc last) replies) where
  list_shown : (fuel : ℕ) (l : List ℕ) (p : ℕ) → length l ≤ fuel → IsPlanned wanted (suc last) replies (Present l) → IsIn p l → IsShownPosition wanted (suc last) replies p
  list_shown zero [] p f a i = absurd i
  list_shown zero (x ∷ l) p f a i = absurd (omega arith)
  list_shown (suc fuel) l p f a i =
      let s = served l a in
      let n : length (drop s.0 l) ≡ length l - s.0 = length-drop s.0 l in
      let here = λ (h : IsIn p (take s.0 l)). let r : IsShownPosition wanted (suc last) replies p = record { list = l; shows = s.0; asked = a; answered = s.1; among = h } in r in
      let later = λ (h : IsIn p (drop s.0 l)) (lt : s.0 < length l). list_shown fuel (drop s.0 l) p (omega (arith, s.2, n)) (rest l s.0 a s.1 s.2 lt) h in
      elim (in_either p (take s.0 l) (drop s.0 l) (subst (IsIn p) (sym (take-append-drop s.0 l)) i)) [
        | inl h ↦ here h
        | inr h ↦ later h (let z = some_length p (drop s.0 l) h in omega (arith, z, n))
      ]

  pub all_shown : (count p : ℕ) → IsPlanned wanted (suc last) replies Search → replies Search ≡ Some (SearchReply (Some count)) → IsIn p (up_to count wanted) → IsShownPosition wanted (suc last) replies p
  all_shown count p (search t a o) h i =
      let q = in_concat p (deal t last last (up_to count wanted)) (subst (IsIn p) (sym (concat_deal t last last (up_to count wanted))) i) in
      let c = dealt_cut t last (length (up_to count wanted)) (up_to count wanted) q.0 (omega arith) q.1 in
      list_shown (length q.0) q.0 p (omega arith) (cut t count c.0 q.0 (search t a o) o h c.1 c.2) q.2

module _ (wanted : List ℕ) (last : ℕ) (replies : Replies) where
  pub shown_wanted : (p : ℕ) → IsShownPosition wanted (suc last) replies p → IsIn p (up_to (count_in replies) wanted)
  shown_wanted p s =
      let t = asked_tail wanted last replies s.list s.asked in
      let i : IsIn p s.list = subst (IsIn p) (take-append-drop s.shows s.list) (in_left p (take s.shows s.list) (drop s.shows s.list) s.among) in
      subst (IsIn p) (concat_deal (opened (replies Init)) last last (up_to (count_in replies) wanted)) (tail_in p s.list (pieces wanted last replies) t i)
