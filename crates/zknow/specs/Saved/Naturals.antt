-- Numbers of 32 bits as INTEGERs (X.690, 8.3).
use Rattle.std.specs.Prelude.{◌≡◌, ℕ, ℤ, pos, negsuc, ◌^◌, ◌<◌, nat_lt, Bool, true, false, List, [], ◌∷◌, Option, Some, None, if◌then◌else◌}
use Rattle.std.proofs.Common.{refl, ap, subst, ◌∙◌, cond, arith}
use Rattle.std.proofs.lemmas.Bool.{ltb-true, lt-ltb}
use Rattle.zber.specs.AsnTags.{AsnTag}
use Rattle.zber.specs.Elements.{Element, Primitive}
use Rattle.zber.specs.Integers.{integer_octets}
use Rattle.zasn.specs.Standing.{tagged}
use Rattle.zasn.specs.Laws.{IsLawfulPlace, IsSpelled}
use Rattle.zasn.specs.Meanings.{int_meaning, is_i64}
use Rattle.zasn.specs.Building.{◌>>=◌}
use Rattle.zasn.specs.Place.{Place}
use Rattle.zasn_tables.proofs.Meanings.{int_spelled}
use Rattle.zasn_tables.proofs.Readings.{tagged_place}
use Rattle.zasn_tables.proofs.Builds.{fitting_spelled}
use Rattle.zasn.specs.Places.{lawful_place}
use Rattle.zknow.specs.declared.saved.natural.Natural.{Natural}

-- the number has 32 bits at most
abbrev pub is_natural : ℕ → Bool
is_natural n = nat_lt n (2 ^ 32)

-- the integer as a number, if it is from 0 to 4,294,967,295
abbrev pub natural_in : ℤ → Option Natural
natural_in (pos n) = if is_natural n then Some (record { number = n }) else None
natural_in (negsuc n) = None

-- the number in an INTEGER of 32 bits
abbrev pub natural_of : Element → Option Natural
natural_of e = int_meaning e >>= natural_in

-- the contents octets of a number
abbrev pub natural_octets : Natural → List ℕ
natural_octets v = integer_octets (pos v.number)

-- the number is at most 4,294,967,295; no other has an element
abbrev pub fits : Natural → Bool
fits v = is_natural v.number

-- the element of a number, with this tag
abbrev pub natural_spelling : AsnTag → Natural → Option Element
natural_spelling tag v = if fits v then Some (Primitive tag (natural_octets v)) else None

-- ---- the laws of its place

as_integer : (tag : AsnTag) (v : Natural) → fits v ≡ true
    → int_meaning (Primitive tag (natural_octets v)) ≡ Some (pos v.number)
as_integer tag v is =
    let below : v.number < 2 ^ 32 = ltb-true v.number (2 ^ 32) is in
    let within : is_i64 (pos v.number) ≡ true = lt-ltb v.number (2 ^ 63) (omega arith) in
    ((int_spelled tag).makes (pos v.number) (Primitive tag (natural_octets v))
    (ap (λ (b : Bool). cond b (Some (Primitive tag (natural_octets v))) None) within)).1

natural_back : (tag : AsnTag) (v : Natural) → fits v ≡ true → natural_of (Primitive tag (natural_octets v)) ≡ Some v
natural_back tag v is =
    ap (λ (o : Option ℤ). o >>= natural_in) (as_integer tag v is) ∙ ap (λ (b : Bool). cond b (Some v) None) is

by_test : (n : ℕ) (v : Natural) (b : Bool) → is_natural n ≡ b → cond b (Some (record { number = n })) None ≡ Some v
    → fits v ≡ true
by_test n v true is e = let same : record { number = n } ≡ v = cc in subst (λ (w : Natural). fits w ≡ true) same is
by_test n v false is e = absurd cc

found_fits : (v : Natural) (o : Option ℤ) → (o >>= natural_in) ≡ Some v → fits v ≡ true
found_fits v None e = absurd cc
found_fits v (Some (pos n)) e = by_test n v (is_natural n) refl e
found_fits v (Some (negsuc n)) e = absurd cc

pub natural_place : (tag : AsnTag) → IsLawfulPlace (tagged tag natural_of) (tag ∷ []) natural_of
natural_place tag = tagged_place tag natural_of (record { number = 0 }) (Primitive tag (0 ∷ [])) refl refl

pub natural_spelled : (tag : AsnTag) → IsSpelled (tagged tag natural_of) (natural_spelling tag)
natural_spelled tag =
    fitting_spelled tag natural_of natural_octets fits (natural_back tag) (λ v n e. found_fits v (int_meaning n) e)

-- INTEGER, from 0 to 4,294,967,295
abbrev pub natural : AsnTag → Place Natural
natural tag =
    lawful_place {P = tagged tag natural_of} {tags = tag ∷ []} {meaning = natural_of} {spelling = natural_spelling tag}
    (natural_place tag) (natural_spelled tag)
