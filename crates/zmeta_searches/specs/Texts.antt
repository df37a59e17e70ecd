-- The terms of a search in the prefix notation.
use Rattle.std.specs.Prelude.{ℕ, zero, suc, ◌-◌, ◌==◌, ◌||◌, Bool, if◌then◌else◌, List, [], ◌∷◌, ◌++◌, length, codes, Option, Some, None}
use Rattle.std.specs.List.{flat_map, list_any}
use Rattle.std.specs.Fmt.{decimal}
use Rattle.zmeta_searches.specs.declared.terms.SearchTerm.{SearchTerm}
use Rattle.zmeta_searches.specs.Terms.{AskedTerm, attributes_of, asked_octets, is_blank, is_hyphen}

-- an attribute, a type and a value, and a space
abbrev pub attr_text : ℕ × ℕ → List ℕ
attr_text attribute = codes "@attr " ++ (decimal attribute.0 ++ (codes "=" ++ (decimal attribute.1 ++ codes " ")))

-- an octet between quotes: a quote and a backslash have a backslash before them
abbrev pub escaped : ℕ → List ℕ
escaped octet = if (octet == 34) || (octet == 92) then 92 ∷ octet ∷ [] else octet ∷ []

-- a term, behind its attributes, and a space
abbrev pub term_text : AskedTerm → List ℕ
term_text t = flat_map attr_text (attributes_of t.access t.text)
    ++ (codes "\"" ++ (flat_map escaped (asked_octets t.access t.text) ++ codes "\" "))

-- this many operators
abbrev pub ands : ℕ → List ℕ
ands zero = []
ands (suc n) = ands n ++ codes "@and "

-- the terms joined by `@and`, in order
abbrev pub joined_terms : List AskedTerm → List ℕ
joined_terms terms = ands (length terms - 1) ++ flat_map term_text terms

-- nothing is left of one of the terms
abbrev pub any_blank : List AskedTerm → Bool
any_blank terms = list_any (λ t. is_blank t.access t.text) terms

-- the terms joined; where nothing is left of one of them, the empty text, which is no query
unfoldable pub terms_text : List AskedTerm → List ℕ
terms_text terms = if any_blank terms then [] else joined_terms terms

-- the query of the terms, if there are any
abbrev pub terms_query : List AskedTerm → Option (List ℕ)
terms_query [] = None
terms_query (t ∷ ts) = Some (terms_text (t ∷ ts))

-- ---- the parts, as they are written

-- nothing is left of one of the terms
abbrev pub has_blank : List SearchTerm → Bool
has_blank terms = list_any (λ t. is_blank t.access t.text.now) terms

-- an octet of an ISBN between quotes: none of a hyphen
abbrev pub isbn_octet : ℕ → List ℕ
isbn_octet octet = if is_hyphen octet then [] else escaped octet

-- the octets of an ISBN between quotes
abbrev pub isbn_text : List ℕ → List ℕ
isbn_text octets = flat_map isbn_octet octets
