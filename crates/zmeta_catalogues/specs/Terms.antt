-- What a term of a search asks of a catalogue.
use Rattle.std.specs.Prelude.{◌≡◌, ℕ, pos, ◌-◌, ◌==◌, ◌&&◌, nat_lt, not, Bool, true, false, if◌then◌else◌, List, [], ◌∷◌, ◌++◌, length, take, slice_index, filter, codes, Option, Some, None}
use Rattle.std.specs.List.{list_all}
use Rattle.std.specs.Option.{unwrap_or}
use Rattle.std.specs.Ordering.{int_eq}
use Rattle.zquery.specs.Trees.{Tree, OfTerm, Of}
use Rattle.zquery_rpn.specs.declared.operator.Operator.TheVariants.{And}
use Rattle.zquery_rpn.specs.declared.query.Attr.{Attr}
use Rattle.zquery_rpn.specs.declared.query.AttrValue.TheVariants.{Number}
use Rattle.zquery_rpn.specs.declared.query.TermValue.TheVariants.{General}
use Rattle.zmeta_catalogues.specs.declared.catalogue.Catalogue.{Catalogue}
use Rattle.zmeta_catalogues.specs.declared.fault.Key.{Key}
use Rattle.zmeta_catalogues.specs.declared.fault.Key.TheVariants as keys
use Rattle.zmeta_catalogues.specs.declared.search.Access.{Access}
use Rattle.zmeta_catalogues.specs.declared.search.Access.TheVariants as access
use Rattle.zmeta_catalogues.specs.declared.search.Term.{Term}
use Rattle.zmeta_catalogues.specs.Charsets.{octets_in}
use Rattle.zmeta_catalogues.specs.Operands.{IsPrefix, term_of}

-- ---- attributes

-- the key that says how a catalogue is asked for an access point
abbrev pub key_of : Access → Key
key_of access.Title = keys.Title
key_of access.Author = keys.Author
key_of access.Subject = keys.Subject
key_of access.Any = keys.Any
key_of access.Isbn = keys.Isbn
key_of access.Issn = keys.Issn
key_of access.Year = keys.Year
key_of access.Since = keys.Year
key_of access.Until = keys.Year

-- the attributes where a catalogue says none: the Use attribute of bib-1 (Z39.50-2003, ATR.1)
abbrev pub default_prefix : Access → List ℕ
default_prefix access.Title = codes "@attr 1=4"
default_prefix access.Author = codes "@attr 1=1003"
default_prefix access.Subject = codes "@attr 1=21"
default_prefix access.Any = codes "@attr 1=1016"
default_prefix access.Isbn = codes "@attr 1=7"
default_prefix access.Issn = codes "@attr 1=8"
default_prefix access.Year = codes "@attr 1=31"
default_prefix access.Since = codes "@attr 1=31"
default_prefix access.Until = codes "@attr 1=31"

-- the text of the attributes: the catalogue's own, or else the default
abbrev pub prefix_for : Catalogue → Access → List ℕ
prefix_for c a = unwrap_or (term_of (key_of a) c.terms) (default_prefix a)

-- an attribute of the query's set
abbrev pub attr_of : ℕ → ℕ → Attr
attr_of kind value = record { attr_set = None; kind = pos kind; value = Number (pos value) }

-- ---- octets

-- an asterisk at the end of a term of this access point truncates
abbrev pub may_be_cut : Access → Bool
may_be_cut access.Title = true
may_be_cut access.Author = true
may_be_cut access.Subject = true
may_be_cut access.Any = true
may_be_cut _ = false

-- the octets end with an asterisk
abbrev pub ends_starred : List ℕ → Bool
ends_starred octets = nat_lt 0 (length octets) && (slice_index octets (length octets - 1) == 42)

-- the term is truncated
abbrev pub is_cut : Access → List ℕ → Bool
is_cut a octets = may_be_cut a && ends_starred octets

-- the octet is a hyphen
abbrev pub is_hyphen : ℕ → Bool
is_hyphen b = b == 45

-- the access point is that of an ISBN
abbrev pub is_isbn : Access → Bool
is_isbn access.Isbn = true
is_isbn _ = false

-- the octets that are asked for: an ISBN loses its hyphens, and a truncated term its asterisk
abbrev pub asked_octets : Access → List ℕ → List ℕ
asked_octets a octets =
    if is_isbn a then filter (λ b. not (is_hyphen b)) octets
    else if is_cut a octets then take (length octets - 1) octets
    else octets

-- the octet is blank
abbrev pub is_blank : ℕ → Bool
is_blank b = b == 32

-- the octets are none, or blank
abbrev pub are_blank : List ℕ → Bool
are_blank octets = list_all is_blank octets

-- the relation that an access point asks for: from this year on, or up to it (Z39.50-2003, ATR.1, relation)
abbrev pub relation_of : Access → Option Attr
relation_of access.Since = Some (attr_of 2 4)
relation_of access.Until = Some (attr_of 2 2)
relation_of _ = None

-- what is asked beside the prefix: the relation, or right truncation (Z39.50-2003, ATR.1, truncation)
abbrev pub more_of : Access → List ℕ → Option Attr
more_of a octets = if is_cut a octets then Some (attr_of 5 1) else relation_of a

-- the attributes of another type than this one
abbrev pub others : Attr → List Attr → List Attr
others more attrs = filter (λ a. not (int_eq a.kind more.kind)) attrs

-- the attributes with one more, which takes the place of those of its type
abbrev pub with_more : Option Attr → List Attr → List Attr
with_more None attrs = attrs
with_more (Some more) attrs = others more attrs ++ more ∷ []

-- ---- trees

-- The operand of a term: its attributes are those of the catalogue's prefix, or of the default, with what more is
-- asked. Its octets are those of the text in the catalogue's character set. No octet of them is read as notation.
pub record IsTermTree (c : Catalogue) (t : Term) (tree : Tree) : Type 0 where
  pub octets : List ℕ
  pub attrs : List Attr
  pub converted : octets_in c.settings.charset t.text.now ≡ Some octets
  pub some : are_blank (asked_octets t.access octets) ≡ false
  pub prefix : IsPrefix (prefix_for c t.access) attrs
  pub is : tree ≡ OfTerm (with_more (more_of t.access octets) attrs) (General (asked_octets t.access octets))

-- two trees, both of which a record has to match
pub record IsBoth (Is Rest : Tree → Type 0) (tree : Tree) : Type 0 where
  pub first : Tree
  pub rest : Tree
  pub is : Is first
  pub others : Rest rest
  pub both : tree ≡ Of And first rest

-- the tree of terms, all of which a record has to match
abbrev pub IsTermsTree : Catalogue → List Term → Tree → Type 0
IsTermsTree c [] tree = ⊥
IsTermsTree c (t ∷ []) tree = IsTermTree c t tree
IsTermsTree c (t ∷ u ∷ ts) tree = IsBoth (IsTermTree c t) (IsTermsTree c (u ∷ ts)) tree
