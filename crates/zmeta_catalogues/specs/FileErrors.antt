-- Why a file of catalogues is refused.
use Rattle.std.specs.Prelude.{◌≡◌, ◌≢◌, ◌⊎◌, ◌≤◌, ◌^◌, ℕ, ◌==◌, true, false, List, length, Option, None, Some, Ok, Err, string_bytes}
use Rattle.std.specs.Str.{IsUtf8}
use Rattle.toml.specs.Data.{Data, Members, no_members, member, as_table}
use Rattle.toml.specs.Parse.{parse_document}
use Rattle.zmeta_catalogues.specs.declared.catalogue.Catalogue.{Catalogue}
use Rattle.zmeta_catalogues.specs.declared.error.CatalogueError.{CatalogueError}
use Rattle.zmeta_catalogues.specs.declared.error.CatalogueError.TheVariants as errors
use Rattle.zmeta_catalogues.specs.declared.fault.SettingFault.{SettingFault}
use Rattle.zmeta_catalogues.specs.declared.fault.Stop.{Stop}
use Rattle.zmeta_catalogues.specs.declared.fault.Stop.TheVariants as stops
use Rattle.zmeta_catalogues.specs.declared.fault.Key.{Key}
use Rattle.zmeta_catalogues.specs.declared.words.TableKind.{TableKind}
use Rattle.zmeta_catalogues.specs.declared.words.TableKind.TheVariants as kinds
use Rattle.zmeta_catalogues.specs.Keys.{name_of, is_known}
use Rattle.zmeta_catalogues.specs.Words.{unknown_key, nearest}
use Rattle.zmeta_catalogues.specs.Lines.{line_of}
use Rattle.zmeta_catalogues.specs.Catalogues.{settings_of, catalogue_of}
use Rattle.zmeta_catalogues.specs.Operands.{IsTextFaultOf}
use Rattle.zmeta_catalogues.specs.Files.{AreCatalogues, is_marked}

-- the error for a setting of a catalogue at fault; no memory may be found
abbrev pub IsSettingError : List ℕ → SettingFault → CatalogueError → Type 0
IsSettingError name fault (errors.Setting line catalogue f) = (catalogue ≡ name) × (f ≡ fault)
IsSettingError name fault errors.Memory = Unit {0}
IsSettingError name fault _ = ⊥

-- the error for a key of a catalogue that is not known; no memory may be found
abbrev pub IsUnknownError : List ℕ → List ℕ → TableKind → CatalogueError → Type 0
IsUnknownError name word kind (errors.UnknownKey line catalogue key near) =
    (catalogue ≡ name) × (string_bytes key ≡ word) × (near ≡ nearest kind word)
IsUnknownError name word kind errors.Memory = Unit {0}
IsUnknownError name word kind _ = ⊥

-- the error for a key at the top that is no setting for all and no table; no memory may be found
abbrev pub IsTopError : List ℕ → List ℕ → CatalogueError → Type 0
IsTopError text word (errors.UnknownAtTop line key near) =
    (line ≡ line_of text word) × (string_bytes key ≡ word) × (near ≡ nearest kinds.Top word)
IsTopError text word errors.Memory = Unit {0}
IsTopError text word _ = ⊥

-- the error for a reading of a catalogue that stopped
abbrev pub IsStopError : List ℕ → Stop → CatalogueError → Type 0
IsStopError name (stops.Fault fault) e = IsSettingError name fault e
IsStopError name stops.Memory e = e ≡ errors.Memory

-- the first key of the catalogue that is not known is this one
abbrev pub HasUnknown : Members → List ℕ → Option Key → Type 0
HasUnknown own word near = (kind : TableKind) × (unknown_key own ≡ Some (word, kind)) × (near ≡ nearest kind word)

-- the first key of the catalogue that is not known; no memory may be found
abbrev pub IsKeysError : List ℕ → Members → CatalogueError → Type 0
IsKeysError name own (errors.UnknownKey line catalogue key near) =
    (catalogue ≡ name) × HasUnknown own (string_bytes key) near
IsKeysError name own errors.Memory = Unit {0}
IsKeysError name own _ = ⊥

-- a setting of the catalogue at fault: the first that its table has; or, of a sound table, a term or the query
pub data IsSettingFault (top : Members) (name : List ℕ) (line : ℕ) (own : Members) (f : SettingFault) : Type 0 where
  of_setting : catalogue_of name line own top ≡ Err f → IsSettingFault top name line own f
  of_text : (c : Catalogue) → catalogue_of name line own top ≡ Ok c → IsTextFaultOf c.terms c.query f
      → IsSettingFault top name line own f

-- why the reading of a catalogue stops; no memory may be found
abbrev pub IsCatalogueStop : Members → List ℕ → ℕ → Members → Stop → Type 0
IsCatalogueStop top name line own (stops.Fault f) = IsSettingFault top name line own f
IsCatalogueStop top name line own stops.Memory = Unit {0}

-- the error for the table of a catalogue
abbrev pub IsTableError : List ℕ → Members → List ℕ → Members → CatalogueError → Type 0
IsTableError text top name own errors.EmptyName = (length name == 0) ≡ true
IsTableError text top name own (errors.UnknownKey line catalogue key near) =
    (catalogue ≡ name) × HasUnknown own (string_bytes key) near
IsTableError text top name own (errors.Setting line catalogue fault) =
    (catalogue ≡ name) × IsSettingFault top name (line_of text name) own fault
IsTableError text top name own errors.Memory = Unit {0}
IsTableError text top name own _ = ⊥

-- the error for a value at the top, which has to be a table
abbrev pub IsMemberErrorIn : List ℕ → Members → List ℕ → Option Members → CatalogueError → Type 0
IsMemberErrorIn text top name None e = IsTopError text name e
IsMemberErrorIn text top name (Some own) e = IsTableError text top name own e

-- the error for a member of the top
abbrev pub IsMemberError : List ℕ → Members → List ℕ → Data → CatalogueError → Type 0
IsMemberError text top name value e = IsMemberErrorIn text top name (as_table value) e

-- ---- the file

-- this is one of the members
abbrev pub HasMember : List ℕ → Data → Members → Type 0
HasMember name value no_members = ⊥
HasMember name value (member word other ms) = ((word ≡ name) × (other ≡ value)) ⊎ HasMember name value ms

-- the error for a member of the top that is no setting for all
pub record HasMemberError (text : List ℕ) (top : Members) (e : CatalogueError) : Type 0 where
  pub name : List ℕ
  pub value : Data
  pub among : HasMember name value top
  pub alone : is_known kinds.Top name ≡ false
  pub error : IsMemberError text top name value e

-- there are this many catalogues or more
pub record HasMany (text : List ℕ) (top : Members) : Type 0 where
  pub read : List Catalogue
  pub are : AreCatalogues text top top read
  pub many : 2 ^ 32 ≤ length read

-- the error for a document with this top
abbrev pub IsDocumentError : List ℕ → Members → CatalogueError → Type 0
IsDocumentError text top (errors.ForAll line fault) =
    (line ≡ line_of text (name_of fault.key)) × (settings_of top top ≡ Err fault)
IsDocumentError text top errors.TooMany = HasMany text top
IsDocumentError text top errors.Memory = Unit {0}
IsDocumentError text top e = HasMemberError text top e

-- the error for octets that are no document
abbrev pub IsTomlError : List ℕ → CatalogueError → Type 0
IsTomlError text errors.ByteOrderMark = is_marked text ≡ true
IsTomlError text (errors.NotUtf8 line column) = ¬ IsUtf8 text
IsTomlError text (errors.Toml line column reason) = parse_document text ≡ None
IsTomlError text errors.Memory = Unit {0}
IsTomlError text _ = ⊥

-- the file is a document with this error
pub record HasDocumentError (text : List ℕ) (e : CatalogueError) : Type 0 where
  pub top : Members
  pub parsed : parse_document text ≡ Some top
  pub error : IsDocumentError text top e

-- the error for a file of catalogues: the first that is met
abbrev pub IsFileError : List ℕ → CatalogueError → Type 0
IsFileError text errors.ByteOrderMark = is_marked text ≡ true
IsFileError text (errors.NotUtf8 line column) = ¬ IsUtf8 text
IsFileError text (errors.Toml line column reason) = parse_document text ≡ None
IsFileError text errors.Memory = Unit {0}
IsFileError text e = HasDocumentError text e

-- the file is refused for an error of its own, and not for want of memory
pub record IsRefused (text : List ℕ) : Type 0 where
  pub error : CatalogueError
  pub own : error ≢ errors.Memory
  pub is : IsFileError text error
