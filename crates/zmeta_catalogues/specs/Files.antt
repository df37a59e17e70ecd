-- The catalogues of a file.
use Rattle.std.specs.Prelude.{◌≡◌, ℕ, ◌==◌, Bool, true, false, List, [], ◌∷◌, length, take, Option, None, Some, Ok, IsPermutation}
use Rattle.std.specs.List.Sorted.{IsNonDecreasingBy}
use Rattle.std.specs.Str.{bytes_eq}
use Rattle.toml.specs.Data.{Data, Members, no_members, member, as_table}
use Rattle.toml.specs.Parse.{parse_document}
use Rattle.zmeta_catalogues.specs.declared.catalogue.Catalogue.{Catalogue}
use Rattle.zmeta_catalogues.specs.declared.catalogue.Settings.{Settings}
use Rattle.zmeta_catalogues.specs.declared.words.TableKind.TheVariants as kinds
use Rattle.zmeta_catalogues.specs.Keys.{is_known}
use Rattle.zmeta_catalogues.specs.Words.{unknown_key}
use Rattle.zmeta_catalogues.specs.Lines.{line_of}
use Rattle.zmeta_catalogues.specs.Catalogues.{settings_of, catalogue_of}
use Rattle.zmeta_catalogues.specs.Operands.{AreQueries}

-- ---- a catalogue of a file

-- the catalogue of this table, each of whose terms is a prefix, and whose query is a query
pub record IsAskedCatalogue (top : Members) (name : List ℕ) (line : ℕ) (own : Members) (c : Catalogue) : Type 0 where
  pub is : catalogue_of name line own top ≡ Ok c
  pub queries : AreQueries c.terms c.query

-- the catalogue of this table, all of whose keys are known, on the first line that begins with its name
pub record IsCatalogueOf (text : List ℕ) (top : Members) (name : List ℕ) (own : Members) (c : Catalogue) : Type 0 where
  pub named : (length name == 0) ≡ false
  pub known : unknown_key own ≡ None
  pub asked : IsAskedCatalogue top name (line_of text name) own c

-- the catalogue of this value, if it is a table
abbrev pub IsCatalogueIn : List ℕ → Members → List ℕ → Option Members → Catalogue → Type 0
IsCatalogueIn text top name None c = ⊥
IsCatalogueIn text top name (Some own) c = IsCatalogueOf text top name own c

-- the catalogue of this member of the top
abbrev pub IsCatalogueAt : List ℕ → Members → List ℕ → Data → Catalogue → Type 0
IsCatalogueAt text top name value c = IsCatalogueIn text top name (as_table value) c

-- this catalogue and those behind it; or, of a setting for all, those behind it alone
abbrev pub AreNext : Bool → (Catalogue → Type 0) → (List Catalogue → Type 0) → List Catalogue → Type 0
AreNext true Is Rest cs = Rest cs
AreNext false Is Rest [] = ⊥
AreNext false Is Rest (c ∷ cs) = Is c × Rest cs

-- the catalogues of these members of the top, in order
abbrev pub AreCatalogues : List ℕ → Members → Members → List Catalogue → Type 0
AreCatalogues text top no_members [] = Unit {0}
AreCatalogues text top no_members (c ∷ cs) = ⊥
AreCatalogues text top (member name value ms) cs =
    AreNext (is_known kinds.Top name) (λ c. IsCatalogueAt text top name value c) (λ r. AreCatalogues text top ms r) cs

-- ---- the file

-- the octets of a byte order mark, in UTF-8
abbrev pub byte_order_mark : List ℕ
byte_order_mark = 239 ∷ 187 ∷ 191 ∷ []

-- the file begins with a byte order mark
abbrev pub is_marked : List ℕ → Bool
is_marked text = bytes_eq (take 3 text) byte_order_mark

-- these catalogues in the order of their lines
pub record IsInLineOrder (read list : List Catalogue) : Type 0 where
  pub same : IsPermutation read list
  pub order : IsNonDecreasingBy (λ (c : Catalogue). c.line) list

-- the catalogues of a file, which is TOML with sound settings for all, in the order of their lines
pub record AreCataloguesOf (text : List ℕ) (list : List Catalogue) : Type 0 where
  pub top : Members
  pub for_all : Settings
  pub read : List Catalogue
  pub unmarked : is_marked text ≡ false
  pub parsed : parse_document text ≡ Some top
  pub sound : settings_of top top ≡ Ok for_all
  pub are : AreCatalogues text top top read
  pub order : IsInLineOrder read list

-- some catalogues are those of the file
abbrev pub IsReadable : List ℕ → Type 0
IsReadable text = (list : List Catalogue) × AreCataloguesOf text list
