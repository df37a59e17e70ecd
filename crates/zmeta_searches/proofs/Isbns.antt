-- ISBNs without their hyphens.
use Rattle.std.proofs.Common.{◌≡◌, refl, ap, ℕ, Bool, true, false, not, if◌then◌else◌, List, [], ◌∷◌, ◌++◌, filter}
use Rattle.std.specs.List.{flat_map}
use Rattle.zmeta_searches.specs.Terms.{is_hyphen}
use Rattle.zmeta_searches.specs.Texts.{isbn_text, escaped}

one_more : (b : Bool) (octet : ℕ) (kept rest : List ℕ) → rest ≡ flat_map escaped kept
    → (if b then [] else escaped octet) ++ rest ≡ flat_map escaped (if not b then octet ∷ kept else kept)
one_more true octet kept rest h = h
one_more false octet kept rest h = ap (λ z. escaped octet ++ z) h

-- the octets between quotes are those of the ISBN without its hyphens
pub isbn_text_of : (octets : List ℕ)
    → isbn_text octets ≡ flat_map escaped (filter (λ octet. not (is_hyphen octet)) octets)
isbn_text_of [] = refl
isbn_text_of (octet ∷ octets) = one_more (is_hyphen octet) octet
    (filter (λ octet. not (is_hyphen octet)) octets) (isbn_text octets) (isbn_text_of octets)
