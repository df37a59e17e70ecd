-- Where an attribute is put.
use Rattle.std.proofs.Common.{◌≡◌, refl, ◌∙◌, ap, ℕ, suc, zero, ◌+◌, ◌<◌, ◌≤◌, List, [], ◌∷◌, ◌++◌, length, get_or, Bool, true, false, not, cond, Some, None, nat_lt, arith, if◌then◌else◌}
use Rattle.std.proofs.Math.ListN.{set}
use Rattle.std.specs.List.{position, position_or_len}
use Rattle.std.proofs.lemmas.Bool.{cond-true, cond-false, ltb-true, ltb-false}
use Rattle.std.proofs.lemmas.List.Quantifiers.{position-Some}
use Rattle.zquery_rpn.specs.declared.query.Attr.{Attr}
use Rattle.zquery.specs.InForce.{alike}
use Rattle.zquery.specs.Notation.Reading.{put_in}

-- what holds at a position that was found
by-test : {X : Type 0} (p : X → Bool) (xs : List X) (i : ℕ) (b : Bool) → nat_lt (position_or_len p xs) (length xs) ≡ b → cond b (Some (position_or_len p xs)) None ≡ Some i → (position_or_len p xs ≡ i) × (i < length xs)
by-test p xs i true l h = let same : position_or_len p xs ≡ i = cc in (same, omega (arith, ltb-true (position_or_len p xs) (length xs) l))
by-test p xs i false l h = absurd (Prim.cc h)

pub position-is : {X : Type 0} (p : X → Bool) (xs : List X) (i : ℕ) → position p xs ≡ Some i → (position_or_len p xs ≡ i) × (i < length xs)
position-is p xs i h = by-test p xs i (nat_lt (position_or_len p xs) (length xs)) refl h

by-none : {X : Type 0} (p : X → Bool) (xs : List X) (b : Bool) → nat_lt (position_or_len p xs) (length xs) ≡ b → cond b (Some (position_or_len p xs)) None ≡ None → length xs ≤ position_or_len p xs
by-none p xs true l h = absurd (Prim.cc h)
by-none p xs false l h = ltb-false (position_or_len p xs) (length xs) l

pub position-none : {X : Type 0} (p : X → Bool) (xs : List X) → position p xs ≡ None → length xs ≤ position_or_len p xs
position-none p xs h = by-none p xs (nat_lt (position_or_len p xs) (length xs)) refl h

abbrev pub valued : Attr → Attr → Attr
valued b a = record b { value = a.value }

put-at : (a : Attr) (xs : List Attr) (i : ℕ) (d : Attr) → i < length xs → alike (get_or xs i d) a ≡ true → ((k : ℕ) → k < i → alike (get_or xs k d) a ≡ false) → put_in xs a ≡ set xs i (valued (get_or xs i d) a)
put-at a [] i d h e f = absurd (omega arith)
put-at a (x ∷ xs) zero d h e f = cond-true _ _ _ e
put-at a (x ∷ xs) (suc i) d h e f = cond-false _ _ _ (f 0 (omega arith)) ∙ ap (λ (zs : List Attr). x ∷ zs) (put-at a xs i d (omega arith) e (λ k l. f (suc k) (omega arith)))

pub put-found : (a : Attr) (xs : List Attr) (i : ℕ) (d : Attr) → position (λ b. alike b a) xs ≡ Some i → put_in xs a ≡ set xs i (valued (get_or xs i d) a)
put-found a xs i d h = let p = position-Some (λ b. alike b a) xs i d h in put-at a xs i d p.0 p.1 p.2

put-behind : (a : Attr) (xs : List Attr) → length xs ≤ position_or_len (λ b. alike b a) xs → put_in xs a ≡ xs ++ a ∷ []
put-behind a [] h = refl
put-behind a (x ∷ xs) h =
    let either : (v : Bool) → length (x ∷ xs) ≤ cond (not v) (1 + position_or_len (λ b. alike b a) xs) 0 → (if v then valued x a ∷ xs else x ∷ put_in xs a) ≡ x ∷ (xs ++ a ∷ []) =
    λ v. elim v as (λ v. length (x ∷ xs) ≤ cond (not v) (1 + position_or_len (λ b. alike b a) xs) 0 → (if v then valued x a ∷ xs else x ∷ put_in xs a) ≡ x ∷ (xs ++ a ∷ [])) [
      | true ↦ (λ l. absurd (omega arith))
      | false ↦ (λ l. ap (λ (zs : List Attr). x ∷ zs) (put-behind a xs (omega arith)))
    ] in
    either (alike x a) h

pub put-new : (a : Attr) (xs : List Attr) → position (λ b. alike b a) xs ≡ None → put_in xs a ≡ xs ++ a ∷ []
put-new a xs h = put-behind a xs (position-none (λ b. alike b a) xs h)
