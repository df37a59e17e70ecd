-- Places counted from another first one.
use Rattle.std.proofs.Common.{◌≡◌, refl, sym, ◌∙◌, ap, ℕ, ◌+◌, ◌<◌, List, [], ◌∷◌, length, map, Bool, true, false, arith, if◌then◌else◌}
use Rattle.std.specs.List.{AllByRecursion}
use Rattle.std.proofs.lemmas.List.{length-append}
use Rattle.ztarget.specs.declared.database.Database.{Database}
use Rattle.ztarget.specs.Searching.{places_from, entries_in}

module _ {X : Type 0} (p : X → Bool) (first : ℕ) where
  shifted_from : (n m : ℕ) (xs : List X) → m ≡ first + n → map (λ i. first + i) (places_from p n xs) ≡ places_from p m xs
  shifted_from n m [] is = refl
  shifted_from n m (x ∷ xs) is =
      let next : m + 1 ≡ first + (n + 1) = omega (arith, is) in
      elim (p x) as (λ b. map (λ i. first + i) (if b then n ∷ places_from p (n + 1) xs else places_from p (n + 1) xs) ≡ (if b then m ∷ places_from p (m + 1) xs else places_from p (m + 1) xs)) [
        | true ↦ ap (λ i. i ∷ map (λ i. first + i) (places_from p (n + 1) xs)) (sym is) ∙ ap (λ l. m ∷ l) (shifted_from (n + 1) (m + 1) xs next)
        | false ↦ shifted_from (n + 1) (m + 1) xs next
      ]

  pub shifted : (xs : List X) → map (λ i. first + i) (places_from p 0 xs) ≡ places_from p first xs
  shifted xs = let same : first ≡ first + 0 = omega arith in shifted_from 0 first xs same

  low_from : (limit n : ℕ) (xs : List X) → first + (n + length xs) < limit → AllByRecursion (λ i. first + i < limit) (places_from p n xs)
  low_from limit n [] lt = tt
  low_from limit n (x ∷ xs) lt =
      let here : first + n < limit = omega (arith, lt) in
      let later : first + ((n + 1) + length xs) < limit = omega (arith, lt) in
      elim (p x) as (λ b. AllByRecursion (λ i. first + i < limit) (if b then n ∷ places_from p (n + 1) xs else places_from p (n + 1) xs)) [
        | true ↦ (here, low_from limit (n + 1) xs later)
        | false ↦ low_from limit (n + 1) xs later
      ]

  pub low : (limit : ℕ) (xs : List X) → first + length xs < limit → AllByRecursion (λ i. first + i < limit) (places_from p 0 xs)
  low limit xs lt = low_from limit 0 xs (omega (arith, lt))

-- the entries of one of databases, and of the others, are not more than those of all
pub few_first : (limit : ℕ) (d : Database) (ds : List Database) → length (entries_in (d ∷ ds)) < limit → (length d.entries < limit) × (length (entries_in ds) < limit)
few_first limit d ds lt = let sum = length-append d.entries (entries_in ds) in (omega (arith, lt, sum), omega (arith, lt, sum))
