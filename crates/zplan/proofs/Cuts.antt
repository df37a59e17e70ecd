-- The lists that positions are cut into, all at once: they join to the positions, and each position begins one end of one list.
use Rattle.std.proofs.Common.{◌≡◌, ◌⊎◌, inl, inr, ℕ, zero, suc, ◌+◌, ◌-◌, ◌*◌, ◌<◌, ◌≤◌, Bool, true, false, cond, ◌==◌, List, [], ◌∷◌, ◌++◌, length, take, drop, refl, sym, ap, subst, ◌∙◌, arith, length-drop}
use Rattle.std.proofs.Math.Seq.{drop-nil}
use Rattle.std.specs.Prelude.{◌||◌, nat_le, filter}
use Rattle.std.specs.List.{concat, range_with_len}
use Rattle.zplan.specs.Cutting.{deal}
use Rattle.zplan.specs.declared.span.Span.{Span}
use Rattle.zplan.specs.Positions.{up_to, cut_of, join_or_start, is_followed, runs, presents, IsIn, IsFrom, AreAscending, IsWanted}
use Rattle.zplan.specs.Ranges.{places, IsApart}

concat_put : (b : Bool) (p : ℕ) (ls : List (List ℕ)) → concat (join_or_start b p ls) ≡ p ∷ concat ls
concat_put b p [] = refl
concat_put false p (l ∷ ls) = refl
concat_put true p (l ∷ ls) = refl

pub concat_deal : (three : Bool) (last m : ℕ) (ps : List ℕ) → concat (deal three last m ps) ≡ ps
concat_deal three last m [] = refl
concat_deal three last zero (p ∷ ps) = concat_put false p (deal three last last ps) ∙ ap (λ l. p ∷ l) (concat_deal three last last ps)
concat_deal three last (suc m) (p ∷ ps) = concat_put (three || is_followed p ps) p (deal three last m ps) ∙ ap (λ l. p ∷ l) (concat_deal three last m ps)

pub put_false : (p : ℕ) (ls : List (List ℕ)) → join_or_start false p ls ≡ (p ∷ []) ∷ ls
put_false p [] = refl
put_false p (l ∷ ls) = refl

put_append : (b c : Bool) (p q : ℕ) (ls ms : List (List ℕ)) → join_or_start b p (join_or_start c q ls ++ ms) ≡ join_or_start b p (join_or_start c q ls) ++ ms
put_append false c p q [] ms = refl
put_append true c p q [] ms = refl
put_append false false p q (l ∷ ls) ms = refl
put_append false true p q (l ∷ ls) ms = refl
put_append true false p q (l ∷ ls) ms = refl
put_append true true p q (l ∷ ls) ms = refl

deal_is : (three : Bool) (last m p : ℕ) (ps : List ℕ) → deal three last m (p ∷ ps) ≡ presents three (take (suc m) (p ∷ ps)) ++ deal three last last (drop (suc m) (p ∷ ps))
deal_is true last zero p ps = put_false p (deal true last last ps)
deal_is false last zero p ps = put_false p (deal false last last ps)
deal_is true last (suc m) p [] = refl
deal_is false last (suc m) p [] = refl
deal_is true last (suc m) p (q ∷ qs) = ap (join_or_start true p) (deal_is true last m q qs)
deal_is false last (suc m) p (q ∷ qs) =
    ap (join_or_start (q == p + 1) p) (deal_is false last m q qs)
    ∙ put_append (q == p + 1) (is_followed q (take m qs)) p q (runs (take m qs)) (deal false last last (drop (suc m) (q ∷ qs)))

pub in_left : {X : Type 0} (x : X) (xs ys : List X) → IsIn x xs → IsIn x (xs ++ ys)
in_left x [] ys i = absurd i
in_left x (y ∷ xs) ys (inl e) = inl e
in_left x (y ∷ xs) ys (inr i) = inr (in_left x xs ys i)

pub in_right : {X : Type 0} (x : X) (xs ys : List X) → IsIn x ys → IsIn x (xs ++ ys)
in_right x [] ys i = i
in_right x (y ∷ xs) ys i = inr (in_right x xs ys i)

pub in_either : {X : Type 0} (x : X) (xs ys : List X) → IsIn x (xs ++ ys) → IsIn x xs ⊎ IsIn x ys
in_either x [] ys i = inr i
in_either x (y ∷ xs) ys (inl e) = inl (inl e)
in_either x (y ∷ xs) ys (inr i) = elim (in_either x xs ys i) [ inl j ↦ inl (inr j) | inr j ↦ inr j ]

drop_more : {X : Type 0} (n m : ℕ) (xs : List X) → drop (n + m) xs ≡ drop m (drop n xs)
drop_more zero m xs = ap (λ k. drop k xs) (let e : 0 + m ≡ m = omega arith in e)
drop_more (suc n) m [] = drop-nil (suc n + m) ∙ sym (drop-nil m)
drop_more (suc n) m (x ∷ xs) = ap (λ k. drop k (x ∷ xs)) (let e : suc n + m ≡ suc (n + m) = omega arith in e) ∙ drop_more n m xs

-- a list of the cut is one of them
pub cut_dealt : (three : Bool) (last i : ℕ) (ps l : List ℕ) → i * suc last < length ps → IsIn l (presents three (cut_of (suc last) ps i)) → IsIn l (deal three last last ps)
cut_dealt three last zero [] l lt h = absurd (omega arith)
cut_dealt three last (suc i) [] l lt h = absurd (omega arith)
cut_dealt three last zero (p ∷ ps) l lt h =
    let e : 0 * suc last ≡ 0 = omega arith in
    let g = subst (λ k. IsIn l (presents three (take (suc last) (drop k (p ∷ ps))))) e h in
    subst (IsIn l) (sym (deal_is three last last p ps)) (in_left l _ _ g)
cut_dealt three last (suc i) (p ∷ ps) l lt h =
    let e : suc i * suc last ≡ suc last + i * suc last = grind arith in
    let g = subst (λ x. IsIn l (presents three (take (suc last) x))) (ap (λ k. drop k (p ∷ ps)) e ∙ drop_more (suc last) (i * suc last) (p ∷ ps)) h in
    let n : length (drop last ps) ≡ length ps - last = length-drop last ps in
    subst (IsIn l) (sym (deal_is three last last p ps)) (in_right l (presents three (take (suc last) (p ∷ ps))) _ (cut_dealt three last i (drop last ps) l (omega (arith, n, e)) g))

pub dealt_cut : (three : Bool) (last fuel : ℕ) (ps l : List ℕ) → length ps ≤ fuel → IsIn l (deal three last last ps)
    → (i : ℕ) × (i * suc last < length ps) × IsIn l (presents three (cut_of (suc last) ps i))
dealt_cut three last fuel [] l f h = absurd h
dealt_cut three last zero (p ∷ ps) l f h = absurd (omega arith)
dealt_cut three last (suc fuel) (p ∷ ps) l f h =
    let n : length (drop last ps) ≡ length ps - last = length-drop last ps in
    let e : 0 * suc last ≡ 0 = omega arith in
    let later = dealt_cut three last fuel (drop last ps) l (omega (arith, n)) in
    elim (in_either l (presents three (take (suc last) (p ∷ ps))) (deal three last last (drop last ps)) (subst (IsIn l) (deal_is three last last p ps) h)) [
      | inl g ↦ (0, omega arith, subst (λ k. IsIn l (presents three (take (suc last) (drop k (p ∷ ps))))) (sym e) g)
      | inr g ↦
          let r = later g in
          let s : suc r.0 * suc last ≡ suc last + r.0 * suc last = grind arith in (
            suc r.0,
            omega (arith, n, s, r.1),
            subst (λ x. IsIn l (presents three (take (suc last) x))) (sym (ap (λ k. drop k (p ∷ ps)) s ∙ drop_more (suc last) (r.0 * suc last) (p ∷ ps))) r.2,
          )
    ]

abbrev pub AllSome : List (List ℕ) → Type 0
AllSome [] = Unit {0}
AllSome (l ∷ ls) = (0 < length l) × AllSome ls

some_put : (b : Bool) (p : ℕ) (ls : List (List ℕ)) → AllSome ls → AllSome (join_or_start b p ls)
some_put b p [] h = (omega arith, tt)
some_put false p (l ∷ ls) h = (omega arith, h)
some_put true p (l ∷ ls) h = (omega arith, h.1)

pub some_deal : (three : Bool) (last m : ℕ) (ps : List ℕ) → AllSome (deal three last m ps)
some_deal three last m [] = tt
some_deal three last zero (p ∷ ps) = some_put false p _ (some_deal three last last ps)
some_deal three last (suc m) (p ∷ ps) = some_put (three || is_followed p ps) p _ (some_deal three last m ps)

-- the wanted positions ascend
from_filter : (low : ℕ) (t : ℕ → Bool) (ps : List ℕ) → IsFrom low ps → IsFrom low (filter t ps)
from_filter low t [] h = tt
from_filter low t (p ∷ ps) h =
    let r = from_filter low t ps h.1 in
    elim (t p) as (λ b. IsFrom low (cond b (p ∷ filter t ps) (filter t ps))) [ true ↦ (h.0, r) | false ↦ r ]

ascends_filter : (t : ℕ → Bool) (ps : List ℕ) → AreAscending ps → AreAscending (filter t ps)
ascends_filter t [] h = tt
ascends_filter t (p ∷ ps) h =
    let r = ascends_filter t ps h.1 in
    elim (t p) as (λ b. AreAscending (cond b (p ∷ filter t ps) (filter t ps))) [ true ↦ (from_filter (p + 1) t ps h.0, r) | false ↦ r ]

pub from_less : (low more : ℕ) (ps : List ℕ) → low ≤ more → IsFrom more ps → IsFrom low ps
from_less low more [] l h = tt
from_less low more (p ∷ ps) l h = (omega (arith, h.0), from_less low more ps l h.1)

range_ascends : (n s : ℕ) (ps : List ℕ) → IsFrom (s + n) ps → AreAscending ps → IsFrom s (range_with_len s n ++ ps) × AreAscending (range_with_len s n ++ ps)
range_ascends zero s ps h a = (from_less s (s + 0) ps (omega arith) h, a)
range_ascends (suc n) s ps h a =
    let r = range_ascends n (s + 1) ps (from_less (s + 1 + n) (s + suc n) ps (omega arith) h) a in
    ((omega arith, from_less s (s + 1) _ (omega arith) r.0), (r.0, r.1))

pub places_ascend : (low : ℕ) (rs : List Span) → IsApart low rs → IsFrom low (places rs) × AreAscending (places rs)
places_ascend low [] h = (tt, tt)
places_ascend low (r ∷ rs) h =
    let t = places_ascend (r.start + r.n + 1) rs h.2 in
    let u = range_ascends r.n r.start (places rs) (from_less (r.start + r.n) (r.start + r.n + 1) (places rs) (omega arith) t.0) t.1 in
    (from_less low r.start _ h.0 u.0, u.1)

pub wanted_ascend : (count : ℕ) (ps : List ℕ) → IsWanted ps → IsFrom 1 (up_to count ps) × AreAscending (up_to count ps)
wanted_ascend count ps h = (from_filter 1 (λ p. nat_le p count) ps h.0, ascends_filter (λ p. nat_le p count) ps h.1)
