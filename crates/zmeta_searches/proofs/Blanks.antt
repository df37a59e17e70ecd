-- Terms of which nothing is left.
use Rattle.std.proofs.Common.{◌≡◌, refl, sym, ap, ℕ, ◌||◌, ◌&&◌, ◌==◌, Bool, true, false, not, if◌then◌else◌, List, [], ◌∷◌, length, filter, arith}
use Rattle.std.specs.List.{list_all}
use Rattle.std.proofs.lemmas.Bool.{ne_eqb}
use Rattle.zmeta_searches.specs.declared.terms.SearchTerm.{SearchTerm}
use Rattle.zmeta_searches.specs.Terms.{terms_shown, is_hyphen, is_blank}
use Rattle.zmeta_searches.specs.Texts.{any_blank, has_blank}

one_more : (b rest : Bool) (octet : ℕ) (kept : List ℕ) → rest ≡ (length kept == 0)
    → (b && rest) ≡ (length (if not b then octet ∷ kept else kept) == 0)
one_more true rest octet kept h = h
one_more false rest octet kept h = sym (ne_eqb (length (octet ∷ kept)) 0 (λ same. omega arith))

-- without its hyphens nothing is left of a text of hyphens alone
pub all_hyphens : (octets : List ℕ)
    → list_all is_hyphen octets ≡ (length (filter (λ octet. not (is_hyphen octet)) octets) == 0)
all_hyphens [] = refl
all_hyphens (octet ∷ octets) = one_more (is_hyphen octet) (list_all is_hyphen octets) octet
    (filter (λ octet. not (is_hyphen octet)) octets) (all_hyphens octets)

-- the terms and their texts
pub any_blank_shown : (terms : List SearchTerm) → has_blank terms ≡ any_blank (terms_shown terms)
any_blank_shown [] = refl
any_blank_shown (t ∷ ts) = ap (λ z. is_blank t.access t.text.now || z) (any_blank_shown ts)
