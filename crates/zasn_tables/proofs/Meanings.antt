-- Values are read as they are spelled, under whatever tag.
use Rattle.std.proofs.Common.{◌≡◌, ℕ, ℤ, pos, negsuc, FitsSigned, List, [], ◌∷◌, Bool, true, false, Some, Result, Ok, Err, refl, ap}
use Rattle.zber.specs.declared.value.ValueError.{ValueError}
use Rattle.zber.specs.AsnTags.{AsnTag}
use Rattle.zber.specs.Elements.{Element, Primitive, Constructed}
use Rattle.std.specs.Int.{w64}
use Rattle.std.proofs.lemmas.Bool.{ltb-true, lt-ltb}
use Rattle.zber.specs.Values.{bool_octets}
use Rattle.zber.specs.Integers.{as_int, integer_octets}
use Rattle.zber.specs.Oids.{as_oid, is_oid, oid_octets}
use Rattle.zber.specs.Bits.{bit_octets}
use Rattle.zasn_tables.specs.Standing.{tagged}
use Rattle.zasn_tables.specs.Meanings.{meant, octets_meaning, octets_spelling, oid_meaning, oid_spelling, bits_meaning, bits_spelling, is_i64, int_meaning, int_spelling, bool_meaning, bool_spelling}
use Rattle.zasn_tables.specs.Laws.{IsLawfulPlace, IsSpelled}
use Rattle.zber.proofs.OidMeaning.{oid_is, oid_spelled as oid_is_spelled}
use Rattle.zber.proofs.OidSpelling.{oid_written, oid_arcs}
use Rattle.zber.proofs.OidTest.{is_oid_pass, is_oid_from_pass}
use Rattle.zber.proofs.BitLemmas.{bits_read_back}
use Rattle.zber.proofs.IntegerLaws.{int_back, read_fits}
use Rattle.zasn_tables.proofs.Readings.{tagged_place}
use Rattle.zasn_tables.proofs.Builds.{contents_spelled, fitting_spelled}

pub meant_ok : {A : Type 0} (r : Result A ValueError) (x : A) → meant r ≡ Some x → r ≡ Ok x
meant_ok (Ok y) x e = let same : y ≡ x = cc in ap (λ (z : _). Ok z) same
meant_ok (Err v) x e = absurd cc

pub octets_place : (tag : AsnTag) → IsLawfulPlace (tagged tag octets_meaning) (tag ∷ []) octets_meaning
octets_place tag = tagged_place tag octets_meaning [] (Primitive tag []) refl refl

pub octets_spelled : (tag : AsnTag) → IsSpelled (tagged tag octets_meaning) (octets_spelling tag)
octets_spelled tag = contents_spelled tag octets_meaning (λ xs. xs) (λ xs. refl)

pub oid_place : (tag : AsnTag) → IsLawfulPlace (tagged tag oid_meaning) (tag ∷ []) oid_meaning
oid_place tag = tagged_place tag oid_meaning (1 ∷ 2 ∷ []) (Primitive tag (42 ∷ [])) refl refl

oid_back : (tag : AsnTag) (arcs : List ℕ) → is_oid arcs ≡ true → oid_meaning (Primitive tag (oid_octets arcs)) ≡ Some arcs
oid_back tag arcs e = ap (λ (r : Result (List ℕ) ValueError). meant r) (oid_is (oid_written arcs (is_oid_from_pass arcs e)))

oid_found : (arcs : List ℕ) (n : Element) → oid_meaning n ≡ Some arcs → is_oid arcs ≡ true
oid_found arcs (Primitive t xs) e = is_oid_pass arcs (oid_arcs (oid_is_spelled xs arcs (meant_ok (as_oid (Primitive t xs)) arcs e)))
oid_found arcs (Constructed t f) e = absurd cc

pub oid_spelled : (tag : AsnTag) → IsSpelled (tagged tag oid_meaning) (oid_spelling tag)
oid_spelled tag = fitting_spelled tag oid_meaning oid_octets is_oid (oid_back tag) oid_found

pub bits_place : (tag : AsnTag) → IsLawfulPlace (tagged tag bits_meaning) (tag ∷ []) bits_meaning
bits_place tag = tagged_place tag bits_meaning [] (Primitive tag (0 ∷ [])) refl refl

pub bits_spelled : (tag : AsnTag) → IsSpelled (tagged tag bits_meaning) (bits_spelling tag)
bits_spelled tag = contents_spelled tag bits_meaning bit_octets (λ bits. ap (λ (r : Result (List Bool) ValueError). meant r) (bits_read_back bits))

i64_fits : (z : ℤ) → is_i64 z ≡ true → FitsSigned w64 z
i64_fits (pos n) e = record { sfits = ltb-true _ _ e }
i64_fits (negsuc n) e = record { sfits = ltb-true _ _ e }

pub fits_i64 : (z : ℤ) → FitsSigned w64 z → is_i64 z ≡ true
fits_i64 (pos n) h = lt-ltb _ _ h.sfits
fits_i64 (negsuc n) h = lt-ltb _ _ h.sfits

pub int_place : (tag : AsnTag) → IsLawfulPlace (tagged tag int_meaning) (tag ∷ []) int_meaning
int_place tag = tagged_place tag int_meaning (pos 0) (Primitive tag (0 ∷ [])) refl refl

int_written : (tag : AsnTag) (z : ℤ) → is_i64 z ≡ true → int_meaning (Primitive tag (integer_octets z)) ≡ Some z
int_written tag z e = ap (λ (r : Result ℤ ValueError). meant r) (int_back z (i64_fits z e))

int_found : (z : ℤ) (n : Element) → int_meaning n ≡ Some z → is_i64 z ≡ true
int_found z (Primitive t xs) e = fits_i64 z (read_fits xs z (meant_ok (as_int (Primitive t xs)) z e))
int_found z (Constructed t f) e = absurd cc

pub int_spelled : (tag : AsnTag) → IsSpelled (tagged tag int_meaning) (int_spelling tag)
int_spelled tag = fitting_spelled tag int_meaning integer_octets is_i64 (int_written tag) int_found

pub bool_place : (tag : AsnTag) → IsLawfulPlace (tagged tag bool_meaning) (tag ∷ []) bool_meaning
bool_place tag = tagged_place tag bool_meaning false (Primitive tag (0 ∷ [])) refl refl

bool_written : (tag : AsnTag) (b : Bool) → bool_meaning (Primitive tag (bool_octets b)) ≡ Some b
bool_written tag true = refl
bool_written tag false = refl

pub bool_spelled : (tag : AsnTag) → IsSpelled (tagged tag bool_meaning) (bool_spelling tag)
bool_spelled tag = contents_spelled tag bool_meaning bool_octets (bool_written tag)
