-- The elements within one, read as a production.
use Rattle.std.proofs.Common.{◌≡◌, ◌≤◌, ℕ, ◌-◌, List, [], ◌∷◌, ◌++◌, length, length-append, drop, Option, None, Result, Ok, Err, refl, sym, ap, ◌∙◌, subst, arith}
use Rattle.std.proofs.lemmas.List.{drop_at}
use Rattle.zber.specs.AsnTags.{AsnTag}
use Rattle.zber.specs.Elements.{Element, cons}
use Rattle.zasn_tables.specs.Table.{Elements}
use Rattle.zasn_tables.specs.Within.{value_read, sequence_of, any_at, all_meanings, list_meaning}
use Rattle.zber.proofs.Runs.{elements-forest}
use Rattle.zasn.specs.declared.error.PartError.{PartError}
use Rattle.zasn.specs.declared.error.PartError.TheVariants.{Misfit, Memory}
use Rattle.zasn.specs.Results.{ReadingResult, OwnReadingResult, MeaningResult, counted_reading}

pub found_means : {A : Type 0} (r : Result A (List Element)) (a : Result A PartError) (left : List Element) → ReadingResult r a left → MeaningResult (value_read r) a
found_means r (Ok x) left h = rw h refl
found_means r (Err Misfit) left h = rw h refl
found_means r (Err Memory) left h = tt

pub within_means : {A : Type 0} (at : List Element → Result A (List Element)) (e : Element) (t : AsnTag) (es xs : List Element) (a : Result A PartError) (left : List Element)
    → e ≡ cons t es → xs ≡ es → ReadingResult (at xs) a left → MeaningResult (sequence_of at e) a
within_means at e t es xs a left is same h =
    let inside : ReadingResult (at es) a left = subst (λ (ys : List Element). ReadingResult (at ys) a left) same h in
    rw (is, elements-forest es) (found_means (at es) a left inside)

pub list_means : {A : Type 0} (meaning : Element → Option A) (e : Element) (t : AsnTag) (es xs : List Element) (a : Result (List A) PartError) → e ≡ cons t es → xs ≡ es → MeaningResult (all_meanings meaning xs) a → MeaningResult (list_meaning meaning e) a
list_means meaning e t es xs a is same h =
    let inside : MeaningResult (all_meanings meaning es) a = subst (λ (ys : List Element). MeaningResult (all_meanings meaning ys) a) same h in
    rw (is, elements-forest es) inside

-- more than one element is not one alone
many : (es : List Element) → 2 ≤ length es → (n : Element) × (m : Element) × (more : List Element) × (es ≡ n ∷ m ∷ more)
many [] h = absurd (omega arith)
many (n ∷ []) h = absurd (omega arith)
many (n ∷ m ∷ more) h = (n, m, more, refl)

pub not_one : (e : Element) (t : AsnTag) (es xs : List Element) → e ≡ cons t es → xs ≡ es → 2 ≤ length xs → sequence_of any_at e ≡ None
not_one e t es xs is same h =
    let more = many es (subst (λ (ys : List Element). 2 ≤ length ys) same h) in
    rw (is, elements-forest es, more.3) refl

-- a value is not where reading stops
pub value_is_no_misfit : {A : Type 0} (x : A) (n : ℕ) → counted_reading {A = A} (Ok x) ≡ Err n → ⊥
value_is_no_misfit x n e = cc

-- the same of elements that are given away
pub counted_means : {A : Type 0} (r : Result A (List Element)) (a : Result A PartError) (left : List Element) → OwnReadingResult r a left → MeaningResult (value_read r) a
counted_means r (Ok x) left h = rw h refl
counted_means (Ok y) (Err Misfit) left h = absurd (value_is_no_misfit y (length left) h)
counted_means (Err r) (Err Misfit) left h = refl
counted_means r (Err Memory) left h = tt

pub taken_means : {A : Type 0} (at : List Element → Result A (List Element)) (e : Element) (t : AsnTag) (es xs : List Element) (a : Result A PartError) (left : List Element)
    → e ≡ cons t es → xs ≡ es → OwnReadingResult (at xs) a left → MeaningResult (sequence_of at e) a
taken_means at e t es xs a left is same h =
    let inside : OwnReadingResult (at es) a left = subst (λ (ys : List Element). OwnReadingResult (at ys) a left) same h in
    rw (is, elements-forest es) (counted_means (at es) a left inside)

-- the elements behind a front are the last so many
behind_front : (ns front r : List Element) (k : ℕ) → ns ≡ front ++ r → length r ≡ k → drop (length ns - k) ns ≡ r
behind_front ns front r k parts many =
    ap (λ (x : List Element). drop (length x - k) x) parts ∙ drop_at front r (length (front ++ r) - k) (omega (arith, length-append front r, many))

abbrev pub stopped : {A : Type 0} → ℕ → Result A ℕ
stopped n = Err n

pub err_is : {A : Type 0} (m n : ℕ) → stopped {A = A} m ≡ stopped n → m ≡ n
err_is m n e = cc

pub more_than_one : (e : Element) (t : AsnTag) (es xs rest : List Element) (n : Element) (k : ℕ) → e ≡ cons t es → xs ≡ es → xs ≡ n ∷ rest → k ≡ length rest → (k ≡ 0 → ⊥) → sequence_of any_at e ≡ None
more_than_one e t es xs [] n k is same next len other = absurd (other len)
more_than_one e t es xs (m ∷ rest) n k is same next len other =
    let more : es ≡ n ∷ m ∷ rest = sym same ∙ next in
    rw (is, elements-forest es, more) refl

-- where reading stops is told by how many elements are left
pub left_at : {X : Type 0} (e : Elements X) (ns : List Element) (k : ℕ) → counted_reading (e.at ns) ≡ Err k → e.at ns ≡ Err (drop (length ns - k) ns)
left_at {X = X} e ns k h = by_reading (e.at ns) refl h
  where
    by_reading : (r : Result X (List Element)) → e.at ns ≡ r → counted_reading r ≡ Err k → e.at ns ≡ Err (drop (length ns - k) ns)
    by_reading (Ok x) is h = absurd (value_is_no_misfit x k h)
    by_reading (Err r) is h =
        let m = e.read.fails ns r is in
        let many : length r ≡ k = err_is (length r) k h in
        is ∙ ap (λ (xs : List Element). Err xs) (sym (behind_front ns m.front r k m.parts many))

-- what was read of equal elements, with so many of them left
pub found_of_copies : {X : Type 0} (e : Elements X) (ns copies own left : List Element) (k : ℕ) (a : Result X PartError) → copies ≡ ns → OwnReadingResult (e.at copies) a own → k ≡ length own → left ≡ drop (length ns - k) ns → ReadingResult (e.at ns) a left
found_of_copies e ns copies own left k (Ok x) same h len back = subst (λ (xs : List Element). e.at xs ≡ Ok x) same h
found_of_copies e ns copies own left k (Err Misfit) same h len back =
    let stops : counted_reading (e.at ns) ≡ Err k = subst (λ (xs : List Element). counted_reading (e.at xs) ≡ Err (length own)) same h ∙ ap (λ (n : ℕ). Err n) (sym len) in
    left_at e ns k stops ∙ ap (λ (xs : List Element). Err xs) (sym back)
found_of_copies e ns copies own left k (Err Memory) same h len back = tt
