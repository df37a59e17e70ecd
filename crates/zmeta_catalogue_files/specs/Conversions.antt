-- What `catalogues` prints and reports of a file that it converts.
use Rattle.std.specs.Prelude.{◌≡◌, ◌⊎◌, ℕ, List, ◌++◌, codes, Option, Some, None, Result, Ok, Err, IfSome}
use Rattle.std.specs.Fmt.{decimal}
use Rattle.zapdu.specs.Text.{quoted}
use Rattle.zmeta_args.specs.declared.arguments.SearchOptions.{SearchOptions}
use Rattle.zmeta_conversions.specs.declared.worlds.Unsaid.{Unsaid}
use Rattle.zmeta_conversions.specs.declared.worlds.Unsaid.TheVariants as unsaid_reasons
use Rattle.zmeta_conversions.specs.declared.catalogues.NoTable.{NoTable}
use Rattle.zmeta_conversions.specs.declared.catalogues.NoTable.TheVariants as table_reasons
use Rattle.zmeta_conversions.specs.Worlds.{world_text, unsaid}
use Rattle.zmeta_conversions.specs.Catalogues.{catalogues_text, first_untabled}
use Rattle.zmeta_devices.specs.Devices.{Device, Outputs, AfterEnd}
use Rattle.zmeta_devices.specs.declared.fault.Fault.{Fault}
use Rattle.zmeta_devices.specs.declared.fault.Fault.TheVariants.{Read, Line, Memory}
use Rattle.zmeta_devices.specs.declared.fault.Status.{Status}
use Rattle.zmeta_world.specs.declared.world.World.{World}
use Rattle.zmeta_world.specs.Worlds.{IsWorld, IsRefused}
use Rattle.zmeta_catalogue_files.specs.declared.conversions.ConversionFault.{ConversionFault}
use Rattle.zmeta_catalogue_files.specs.declared.conversions.ConversionFault.TheVariants as conversions
use Rattle.zmeta_catalogue_files.specs.declared.refusal.UnionFault.TheVariants as faults
use Rattle.zmeta_catalogue_files.specs.declared.unions.Union.{Union}
use Rattle.zmeta_catalogue_files.specs.Listing.{PutTextResult}
use Rattle.zmeta_catalogue_files.specs.Refusals.{catalogue_text, AfterLine, AfterUnionFault}
use Rattle.zmeta_catalogue_files.specs.Unions.{IsUnion, UnionResult}

-- ---- texts

-- why a world file cannot say a catalogue, in words
abbrev pub unsaid_words : Unsaid → List ℕ
unsaid_words unsaid_reasons.Databases = codes "a world file asks one database of each"
unsaid_words unsaid_reasons.Elements = codes "a world file has no element set names"
unsaid_words unsaid_reasons.Query = codes "its query has no text"
unsaid_words unsaid_reasons.LineFeed = codes "a world file has no line feeds in its texts"

-- why a question has no table, in words
abbrev pub no_table_words : NoTable → List ℕ
no_table_words table_reasons.Target = codes "a target in memory; a file of catalogues has hosts"
no_table_words table_reasons.Name = codes "no catalogue can have this name"
no_table_words table_reasons.Address = codes "the address is empty, or no UTF-8"
no_table_words table_reasons.Database = codes "the name of the database is empty, or no UTF-8"
no_table_words table_reasons.Elements = codes "an element set name"
no_table_words table_reasons.Query = codes "the query is no UTF-8"

-- why a world file cannot say the catalogue of this name
abbrev pub unsaid_text : List ℕ → Unsaid → List ℕ
unsaid_text name reason = catalogue_text name ++ codes ": " ++ unsaid_words reason

-- why the question of this name, on this line, has no table
abbrev pub no_table_text : ℕ → List ℕ → NoTable → List ℕ
no_table_text line name reason =
    codes "line " ++ decimal line ++ codes ": " ++ quoted name ++ codes ": " ++ no_table_words reason

-- ---- what is converted

-- the result, with the octets of its text
abbrev pub made_text : {A : Type 0} → (A → List ℕ) → Result A ConversionFault → Result (List ℕ) ConversionFault
made_text items (Ok text) = Ok (items text)
made_text items (Err fault) = Err fault

-- the world file of a world, or why there is none; no memory may be found
abbrev pub TextOfWorldResult : World → Result (List ℕ) ConversionFault → Type 0
TextOfWorldResult world (Ok text) = (unsaid world ≡ None) × (text ≡ world_text world)
TextOfWorldResult world (Err (conversions.Unsaid name reason)) = unsaid world ≡ Some (name, reason)
TextOfWorldResult world (Err (conversions.Union (faults.Fault Memory))) = Unit {0}
TextOfWorldResult world (Err _) = ⊥

-- the text is the world file of what the search of the options asks of the catalogues of the file
pub record IsWorldText (octets : List ℕ) (options : SearchOptions) (text : List ℕ) : Type 0 where
  pub union : Union
  pub of : IsUnion octets options union
  pub said : unsaid union.world ≡ None
  pub is : text ≡ world_text union.world

-- a world file cannot say what the search of the options asks of the catalogues of the file
pub record IsUnsaidUnion (octets : List ℕ) (options : SearchOptions) (name : List ℕ) (reason : Unsaid) : Type 0 where
  pub union : Union
  pub of : IsUnion octets options union
  pub unsaid_is : unsaid union.world ≡ Some (name, reason)

-- that world file, or why there is none
abbrev pub WorldTextResult : List ℕ → SearchOptions → Result (List ℕ) ConversionFault → Type 0
WorldTextResult octets options (Ok text) = IsWorldText octets options text
WorldTextResult octets options (Err (conversions.Union (faults.Fault Memory))) = Unit {0}
WorldTextResult octets options (Err (conversions.Union fault)) = UnionResult octets options (Err fault)
WorldTextResult octets options (Err (conversions.Unsaid name reason)) = IsUnsaidUnion octets options name reason
WorldTextResult octets options (Err (conversions.NoTable line name reason)) = ⊥

-- the text is the file of catalogues of the world file
pub record IsTableText (octets text : List ℕ) : Type 0 where
  pub world : World
  pub of : IsWorld octets world
  pub said : first_untabled world ≡ None
  pub is : text ≡ catalogues_text world

-- a question of the world file has no table
pub record HasNoTable (octets : List ℕ) (line : ℕ) (name : List ℕ) (reason : NoTable) : Type 0 where
  pub world : World
  pub of : IsWorld octets world
  pub is : first_untabled world ≡ Some (line, name, reason)

-- that file of catalogues, or why there is none
abbrev pub TableTextResult : List ℕ → Result (List ℕ) ConversionFault → Type 0
TableTextResult octets (Ok text) = IsTableText octets text
TableTextResult octets (Err (conversions.Union (faults.Fault Memory))) = Unit {0}
TableTextResult octets (Err (conversions.Union (faults.Fault (Read path)))) = Unit {0}
TableTextResult octets (Err (conversions.Union (faults.Fault (Line line)))) = IsRefused octets line
TableTextResult octets (Err (conversions.Union fault)) = ⊥
TableTextResult octets (Err (conversions.Unsaid name reason)) = ⊥
TableTextResult octets (Err (conversions.NoTable line name reason)) = HasNoTable octets line name reason

-- ---- what is printed and reported

-- standard error and the status after a fault was reported, by the path of the file
abbrev pub AfterConversionFault : List ℕ → ConversionFault → Device → Device → Status → Type 0
AfterConversionFault path (conversions.Union fault) old new status = AfterUnionFault path fault old new status
AfterConversionFault path (conversions.Unsaid name reason) old new status =
    AfterLine path (λ text. text ≡ unsaid_text name reason) old new status
AfterConversionFault path (conversions.NoTable line name reason) old new status =
    AfterLine path (λ text. text ≡ no_table_text line name reason) old new status

-- the streams and the status after the text was printed, or the fault was reported
abbrev pub AfterConversion : List ℕ → Result (List ℕ) ConversionFault → Outputs → Outputs → Status → Type 0
AfterConversion path (Ok text) before after status = (put : Result Status Fault)
    × PutTextResult text before.output after.output put × AfterEnd put before.errors after.errors status
AfterConversion path (Err fault) before after status =
    (after.output ≡ before.output) × AfterConversionFault path fault before.errors after.errors status

-- the streams and the status after `catalogues --world`, by the octets of the file, if they are known
abbrev pub AfterWorldOf : List ℕ → Option (List ℕ) → SearchOptions → Outputs → Outputs → Status → Type 0
AfterWorldOf path octets options before after status = (text : Result (List ℕ) ConversionFault)
    × IfSome octets (λ octets. WorldTextResult octets options text) × AfterConversion path text before after status

-- the streams and the status after `catalogues --toml`, by the octets of the file, if they are known
abbrev pub AfterCataloguesOf : List ℕ → Option (List ℕ) → Outputs → Outputs → Status → Type 0
AfterCataloguesOf path octets before after status = (text : Result (List ℕ) ConversionFault)
    × IfSome octets (λ octets. TableTextResult octets text) × AfterConversion path text before after status
