-- A reference id and the number that it spells.
use Rattle.std.proofs.Common.{◌≡◌, ℕ, ◌+◌, ◌*◌, ◌/◌, ◌%◌, ◌<◌, Bool, true, false, cond, ltb, ◌&&◌, List, [], ◌∷◌, None, Some, refl, ap, ◌∙◌, arith}
use Rattle.std.proofs.lemmas.Bool.Decides.{nat_tests}
use Rattle.zorigin.specs.References.{reference_id, operation_number}

abbrev number : ℕ → ℕ → ℕ → ℕ → ℕ
number a b c d = 16777216 * a + 65536 * b + 256 * c + d

abbrev fits : ℕ → ℕ → ℕ → Bool
fits b c d = ltb b 256 && ltb c 256 && ltb d 256

in_octets : (op : ℕ) → fits (op / 65536 % 256) (op / 256 % 256) (op % 256) ≡ true
in_octets op =
    let b : op / 65536 % 256 < 256 = omega arith in
    let c : op / 256 % 256 < 256 = omega arith in
    let d : op % 256 < 256 = omega arith in
    grind (arith, nat_tests)

places : (op : ℕ) → number (op / 16777216) (op / 65536 % 256) (op / 256 % 256) (op % 256) ≡ op
places op = omega arith

pub spelled_number : (op : ℕ) → operation_number (reference_id op) ≡ Some op
spelled_number op = ap (λ b. cond b (Some (number (op / 16777216) (op / 65536 % 256) (op / 256 % 256) (op % 256))) None) (in_octets op) ∙ ap (λ n. Some n) (places op)

same_places : (a b c d : ℕ) → b < 256 → c < 256 → d < 256 → a ∷ b ∷ c ∷ d ∷ [] ≡ reference_id (number a b c d)
same_places a b c d hb hc hd =
    let n = number a b c d in
    let ea : a ≡ n / 16777216 = omega arith in
    let eb : b ≡ n / 65536 % 256 = omega arith in
    let ec : c ≡ n / 256 % 256 = omega arith in
    let ed : d ≡ n % 256 = omega arith in
    λ i. ea i ∷ eb i ∷ ec i ∷ ed i ∷ []

pub number_spelled : (id : List ℕ) (op : ℕ) → operation_number id ≡ Some op → id ≡ reference_id op
number_spelled [] op h = absurd (cc)
number_spelled (a ∷ []) op h = absurd (cc)
number_spelled (a ∷ b ∷ []) op h = absurd (cc)
number_spelled (a ∷ b ∷ c ∷ []) op h = absurd (cc)
number_spelled (a ∷ b ∷ c ∷ d ∷ []) op h = by (fits b c d) refl h
  where
    by : (t : Bool) → fits b c d ≡ t → cond t (Some (number a b c d)) None ≡ Some op → a ∷ b ∷ c ∷ d ∷ [] ≡ reference_id op
    by true e g =
        let hb : b < 256 = grind (arith, nat_tests) in
        let hc : c < 256 = grind (arith, nat_tests) in
        let hd : d < 256 = grind (arith, nat_tests) in
        let same : number a b c d ≡ op = cc in
        same_places a b c d hb hc hd ∙ ap reference_id same
    by false e g = absurd (cc)
number_spelled (a ∷ b ∷ c ∷ d ∷ e ∷ more) op h = absurd (cc)
