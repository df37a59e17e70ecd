-- The sizes of lists, and the least size of a text with tokens.
use Rattle.std.proofs.Common.{◌≡◌, ◌∙◌, sym, ap, subst, ℕ, suc, ◌+◌, ◌<◌, ◌≤◌, Bool, true, false, cond, List, [], ◌∷◌, ◌++◌, length, Option, Some, arith, length-append}
use Rattle.std.specs.List.{slice_split, onto_first}
use Rattle.zquery.specs.declared.notation.token.Token.{Token}
use Rattle.zquery.specs.Notation.Tokens.{AreTokens, IsTokenText, IsNextToken}
use Rattle.zmeta_world.specs.Worlds.{in_last}
use Rattle.zmeta_world.proofs.WorldParsing.{none_some}
use Rattle.zmeta_world.proofs.FitWants.{mapped}

-- the sum of the sizes of the items
abbrev pub held : {A : Type 0} → (A → ℕ) → List A → ℕ
held size [] = 0
held size (x ∷ xs) = size x + held size xs

pub held_append : {A : Type 0} (size : A → ℕ) (xs ys : List A) → held size (xs ++ ys) ≡ held size xs + held size ys
held_append size [] ys = omega arith
held_append size (x ∷ xs) ys = omega (arith, held_append size xs ys)

abbrev pub Grows : {A : Type 0} → (A → ℕ) → ℕ → (A → Option A) → Type 0
Grows {A = A} size k change = (x y : A) → change x ≡ Some y → size y ≤ size x + k

-- the last item grows
pub last_held : {A : Type 0} (size : A → ℕ) (k : ℕ) (change : A → Option A) (xs ys : List A) → Grows size k change → in_last change xs ≡ Some ys → held size ys ≤ held size xs + k
last_held size k change [] ys g e = absurd (none_some e)
last_held size k change (x ∷ []) ys g e =
    let m = mapped (λ y. y ∷ []) (change x) ys e in
    let less : size m.from ≤ size x + k = g x m.from m.is in
    subst (λ z. held size z ≤ held size (x ∷ []) + k) m.gives (omega (arith, less))
last_held size k change (x ∷ y ∷ xs) ys g e =
    let m = mapped (λ zs. x ∷ zs) (in_last change (y ∷ xs)) ys e in
    let less : held size m.from ≤ held size (y ∷ xs) + k = last_held size k change (y ∷ xs) m.from g m.is in
    subst (λ z. held size z ≤ held size (x ∷ y ∷ xs) + k) m.gives (omega (arith, less))

-- the number of items is unchanged
pub last_length : {A : Type 0} (change : A → Option A) (xs ys : List A) → in_last change xs ≡ Some ys → length ys ≡ length xs
last_length change [] ys e = absurd (none_some e)
last_length change (x ∷ []) ys e =
    let m = mapped (λ y. y ∷ []) (change x) ys e in
    sym (ap length m.gives)
last_length change (x ∷ y ∷ xs) ys e =
    let m = mapped (λ zs. x ∷ zs) (in_last change (y ∷ xs)) ys e in
    let same : length m.from ≡ length (y ∷ xs) = last_length change (y ∷ xs) m.from m.is in
    sym (ap length m.gives) ∙ ap (λ n. suc n) same

onto_held : (x : ℕ) (parts : List (List ℕ)) → held length (onto_first x parts) ≤ held length parts + 1
onto_held x [] = omega arith
onto_held x (part ∷ parts) = omega arith

-- the pieces of a text are together no longer than the text
pub cut_held : (p : ℕ → Bool) (xs : List ℕ) → held length (slice_split p xs) ≤ length xs
cut_held p [] = omega arith
cut_held p (x ∷ xs) =
    let rest : held length (slice_split p xs) ≤ length xs = cut_held p xs in
    let onto : held length (onto_first x (slice_split p xs)) ≤ held length (slice_split p xs) + 1 = onto_held x (slice_split p xs) in
    elim (p x) as (λ b. held length (cond b ([] ∷ slice_split p xs) (onto_first x (slice_split p xs))) ≤ length (x ∷ xs)) [
      | true ↦ omega (arith, rest)
      | false ↦ omega (arith, rest, onto)
    ]

-- a text with a token has an octet
written_some : (quoted : Bool) (text lead after : List ℕ) → IsTokenText quoted text lead after → 0 < length lead
written_some true text lead after w = rw w.whole (omega arith)
written_some false [] lead after w = absurd w.1
written_some false (b ∷ bs) lead after w = rw w.0 (omega arith)

pub some_octet : (t : Token) (ts : List Token) (text : List ℕ) → AreTokens (t ∷ ts) text → 0 < length text
some_octet t ts text h =
    let next : IsNextToken t 0 text h.0 h.1.0 h.1.1.0 = h.1.1.1 in
    let some : 0 < length h.1.0 = written_some t.quoted t.text h.1.0 h.1.1.0 next.written in
    rw next.whole (simp length-append (omega (arith, some)))
