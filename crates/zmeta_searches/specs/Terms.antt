-- The terms of a search, and what each asks of a catalogue.
use Rattle.std.specs.Prelude.{ℕ, ◌-◌, ◌==◌, ◌&&◌, nat_lt, not, Bool, true, false, if◌then◌else◌, List, [], ◌∷◌, length, map, take, slice_index, filter, Option, Some, None}
use Rattle.zmeta_searches.specs.declared.terms.Access.{Access}
use Rattle.zmeta_searches.specs.declared.terms.Access.TheVariants.{Title, Author, Subject, Isbn, Issn, Year, Since, Until, Any}
use Rattle.zmeta_searches.specs.declared.terms.SearchTerm.{SearchTerm}

-- a term: what it is looked for in, and its text
pub record AskedTerm : Type 0 where
  pub access : Access
  pub text : List ℕ

-- the term of this access point and text
abbrev pub asked : Access → List ℕ → AskedTerm
asked access text = record { access = access; text = text }

-- the terms with their texts
abbrev pub terms_shown : List SearchTerm → List AskedTerm
terms_shown terms = map (λ term. asked term.access term.text.now) terms

-- ---- attributes of bib-1 (Z39.50-2003, ATR.1)

-- the Use attribute
abbrev pub use_of : Access → ℕ
use_of Title = 4
use_of Author = 1003
use_of Subject = 21
use_of Isbn = 7
use_of Issn = 8
use_of Year = 31
use_of Since = 31
use_of Until = 31
use_of Any = 1016

-- the Relation attribute, its type and value, if there is one: greater or equal for the years since one, less or equal
-- for those until one
abbrev pub relation_of : Access → Option (ℕ × ℕ)
relation_of Since = Some (2, 4)
relation_of Until = Some (2, 2)
relation_of _ = None

-- an asterisk at the end of a term of this access point truncates
abbrev pub may_be_cut : Access → Bool
may_be_cut Title = true
may_be_cut Author = true
may_be_cut Subject = true
may_be_cut Any = true
may_be_cut _ = false

-- the octets end with an asterisk
abbrev pub ends_starred : List ℕ → Bool
ends_starred octets = nat_lt 0 (length octets) && (slice_index octets (length octets - 1) == 42)

-- the term is truncated: all is asked for that begins with it
abbrev pub is_cut : Access → List ℕ → Bool
is_cut access octets = may_be_cut access && ends_starred octets

-- the attribute beside Use, if there is one: right truncation, or the Relation attribute
abbrev pub more_of : Access → List ℕ → Option (ℕ × ℕ)
more_of access octets = if is_cut access octets then Some (5, 1) else relation_of access

-- the attribute, if there is one
abbrev pub listed : Option (ℕ × ℕ) → List (ℕ × ℕ)
listed None = []
listed (Some attribute) = attribute ∷ []

-- the attributes of a term, each a type and a value: Use, and what more is asked
abbrev pub attributes_of : Access → List ℕ → List (ℕ × ℕ)
attributes_of access octets = (1, use_of access) ∷ listed (more_of access octets)

-- ---- what is asked for

-- the octet is a hyphen
abbrev pub is_hyphen : ℕ → Bool
is_hyphen octet = octet == 45

-- the access point is that of an ISBN
abbrev pub is_isbn : Access → Bool
is_isbn Isbn = true
is_isbn _ = false

-- the octets without the asterisk that truncates, if there is one
abbrev pub uncut : Access → List ℕ → List ℕ
uncut access octets = if is_cut access octets then take (length octets - 1) octets else octets

-- the octets that are asked for: an ISBN loses its hyphens, and a truncated term its asterisk
abbrev pub asked_octets : Access → List ℕ → List ℕ
asked_octets access octets =
    if is_isbn access then filter (λ octet. not (is_hyphen octet)) octets else uncut access octets

-- nothing is left of the term
abbrev pub is_blank : Access → List ℕ → Bool
is_blank access octets = length (asked_octets access octets) == 0
