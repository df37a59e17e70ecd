-- The union of the catalogues of a file, as a search by options asks it; and what is refused.
use Rattle.std.specs.Prelude.{◌≡◌, ◌⊎◌, ℕ, List, map, Option, Result, Ok, Err}
use Rattle.std.specs.Borrow.{Bor}
use Rattle.std.specs.Option.{option_map}
use Rattle.zmarc.specs.declared.charset.Charset as sets
use Rattle.zmarc.specs.declared.charset.Charset.TheVariants as known
use Rattle.zmeta_args.specs.declared.arguments.SearchOptions.{SearchOptions}
use Rattle.zmeta_catalogues.specs.declared.catalogue.Catalogue.{Catalogue}
use Rattle.zmeta_catalogues.specs.declared.charset.Charset.{Charset}
use Rattle.zmeta_catalogues.specs.declared.charset.Charset.TheVariants as charsets
use Rattle.zmeta_catalogues.specs.declared.error.CatalogueError.{CatalogueError}
use Rattle.zmeta_catalogues.specs.declared.error.CatalogueError.TheVariants as errors
use Rattle.zmeta_catalogues.specs.declared.search.AskError.{AskError}
use Rattle.zmeta_catalogues.specs.declared.search.AskError.TheVariants as asks
use Rattle.zmeta_catalogues.specs.Files.{AreCataloguesOf}
use Rattle.zmeta_catalogues.specs.FileErrors.{IsFileError}
use Rattle.zmeta_catalogues.specs.Asked.{AskedSearch, IsAskedWorld}
use Rattle.zmeta_catalogues.specs.AskErrors.{AreAskErrors}
use Rattle.zmeta_world.specs.declared.world.World.{World}
use Rattle.zmeta_devices.specs.declared.fault.Fault.TheVariants.{Read, Query, Wanted, Syntax, Memory}
use Rattle.zmeta_catalogue_files.specs.declared.refusal.UnionFault.{UnionFault}
use Rattle.zmeta_catalogue_files.specs.declared.refusal.UnionFault.TheVariants as faults
use Rattle.zmeta_catalogue_files.specs.declared.unions.CatalogueWaits.{CatalogueWaits}
use Rattle.zmeta_catalogue_files.specs.declared.unions.Union.{Union}
use Rattle.zmeta_catalogue_files.specs.Options.{IsSearchOf}

-- ---- the union

-- how long a catalogue is waited for
abbrev pub waits_of : Catalogue → CatalogueWaits
waits_of c = record { connect = c.settings.connect; patience = c.settings.patience }

-- the set of characters that records in this charset are read in
abbrev pub set_of : Charset → sets.Charset
set_of charsets.Utf8 = known.Utf8
set_of charsets.Latin1 = known.Latin1

-- the set of characters that the records of a catalogue are read in, if its file gives one
abbrev pub charset_of : Catalogue → Option sets.Charset
charset_of c = option_map set_of c.settings.charset

-- the world is the one that the search of the options asks of the catalogues
pub record IsWorldOf (options : SearchOptions) (cs : List Catalogue) (w : World) : Type 0 where
  pub search : AskedSearch
  pub of : IsSearchOf options search
  pub world : IsAskedWorld search cs w

-- the union of the catalogues of a file: the world that the search of the options asks of them, their waits, and the
-- sets of characters of their records, in the order of the lines of the file
pub record IsUnion (octets : List ℕ) (options : SearchOptions) (u : Union) : Type 0 where
  pub list : List Catalogue
  pub are : AreCataloguesOf octets list
  pub asked : IsWorldOf options list u.world
  pub waits : u.waits.items ≡ map waits_of list
  pub charsets : u.charsets.items ≡ map charset_of list

-- why the search of the options cannot be put to the catalogues
pub record IsAskingError (options : SearchOptions) (cs : List Catalogue) (e : AskError) : Type 0 where
  pub search : AskedSearch
  pub of : IsSearchOf options search
  pub error : AreAskErrors search cs e

-- the same; no memory may be found
abbrev pub AreAskingErrors : SearchOptions → List Catalogue → AskError → Type 0
AreAskingErrors options cs asks.Memory = Unit {0}
AreAskingErrors options cs e = IsAskingError options cs e

-- ---- what is refused

-- the fault for a file that is refused
abbrev pub of_file : CatalogueError → UnionFault
of_file errors.Memory = faults.Fault Memory
of_file e = faults.Refused e

-- the fault for a search that cannot be put to the catalogues: it tells the text of the option that is at fault
abbrev pub of_asking : SearchOptions → AskError → UnionFault
of_asking options (asks.Query kind at) = faults.Fault (Query kind at options.query)
of_asking options asks.Records = faults.Fault (Wanted options.records)
of_asking options asks.Syntax = faults.Fault (Syntax options.syntax)
of_asking options asks.Memory = faults.Fault Memory
of_asking options e = faults.Unasked e

-- the world that the search of the options asks of the catalogues, or why it cannot be put to them
abbrev pub AskedResult : SearchOptions → List Catalogue → Result World UnionFault → Type 0
AskedResult options cs (Ok w) = IsWorldOf options cs w
AskedResult options cs (Err f) = (e : AskError) × AreAskingErrors options cs e × (f ≡ of_asking options e)

-- the same with the waits of the catalogues and the sets of characters of their records
abbrev pub UnionOfResult : SearchOptions → List Catalogue → Result Union UnionFault → Type 0
UnionOfResult options cs (Ok u) =
    IsWorldOf options cs u.world × (u.waits.items ≡ map waits_of cs) × (u.charsets.items ≡ map charset_of cs)
UnionOfResult options cs (Err f) = (e : AskError) × AreAskingErrors options cs e × (f ≡ of_asking options e)

-- the file is refused for an error of its own
pub record IsFileFault (octets : List ℕ) (f : UnionFault) : Type 0 where
  pub error : CatalogueError
  pub of : IsFileError octets error
  pub is : f ≡ of_file error

-- the search of the options cannot be put to the catalogues of the file
pub record IsAskingFault (octets : List ℕ) (options : SearchOptions) (f : UnionFault) : Type 0 where
  pub list : List Catalogue
  pub are : AreCataloguesOf octets list
  pub error : AskError
  pub of : AreAskingErrors options list error
  pub is : f ≡ of_asking options error

-- the file is refused, or the search cannot be put to its catalogues
abbrev pub IsTextFault : List ℕ → SearchOptions → UnionFault → Type 0
IsTextFault octets options f = IsFileFault octets f ⊎ IsAskingFault octets options f

-- the union of the catalogues of a file with these octets, or what is refused
abbrev pub UnionInResult : List ℕ → SearchOptions → Result Union UnionFault → Type 0
UnionInResult octets options (Ok u) = IsUnion octets options u
UnionInResult octets options (Err f) = IsTextFault octets options f

-- the file could not be read
abbrev pub IsUnread : UnionFault → Type 0
IsUnread f = (path : Bor (List ℕ)) × (f ≡ faults.Fault (Read path))

-- the same for a file that is read first, which may fail
abbrev pub UnionResult : List ℕ → SearchOptions → Result Union UnionFault → Type 0
UnionResult octets options (Ok u) = IsUnion octets options u
UnionResult octets options (Err f) = IsUnread f ⊎ IsTextFault octets options f

-- a fault of the file at this path, or of a search: if the file cannot be read, it is this one
abbrev pub IsOfUnion : List ℕ → UnionFault → Type 0
IsOfUnion path (faults.Fault (Read failed)) = failed.now ≡ path
IsOfUnion path (faults.Fault (Query kind at text)) = Unit {0}
IsOfUnion path (faults.Fault (Wanted text)) = Unit {0}
IsOfUnion path (faults.Fault (Syntax text)) = Unit {0}
IsOfUnion path (faults.Fault Memory) = Unit {0}
IsOfUnion path (faults.Fault _) = ⊥
IsOfUnion path (faults.Refused e) = Unit {0}
IsOfUnion path (faults.Unasked e) = Unit {0}
