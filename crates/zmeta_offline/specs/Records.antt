-- What `records` writes and reports for saved files, and how it ends.
use Rattle.std.specs.Prelude.{◌≡◌, ◌≢◌, ℕ, Bool, List, [], ◌++◌, Option, Some, None, Result, Ok, Err, codes, nat_lt, if◌then◌else◌}
use Rattle.std.specs.Fmt.{decimal}
use Rattle.std.specs.Option.{option_map}
use Rattle.zber.specs.declared.oid.OidError.{OidError}
use Rattle.zber.specs.declared.oid.OidError.TheVariants as oids
use Rattle.zber.specs.OidResults.{DottedResult}
use Rattle.zknow.specs.declared.fact.Fact.{Fact}
use Rattle.zknow_records.specs.declared.left_out.LeftOut.{LeftOut}
use Rattle.zknow_records.specs.Records.{records_octets, left_out}
use Rattle.zmeta_args.specs.Texts.{texts_of}
use Rattle.zmeta_world.specs.Search.{dotted_syntax}
use Rattle.zmeta_offline.specs.Catalogues.{IsOfCatalogues}
use Rattle.zmeta_offline.specs.Names.{AreAllKnown, IsFirstUnknown}
use Rattle.zmeta_devices.specs.Devices.{Outputs, HasGained, HasStopped, AreUnwritten, AfterTellLines}
use Rattle.zmeta_offline.specs.Join.{AreJoined, IsRefusedAmong, IsKnownStatus}
use Rattle.zmeta_offline.specs.declared.records.Extract.{Extract}
use Rattle.zmeta_devices.specs.declared.fault.Fault.{Fault}
use Rattle.zmeta_devices.specs.declared.fault.Fault.TheVariants.{Write, NoCatalogue, NotOid, Memory}
use Rattle.zmeta_devices.specs.declared.fault.Status.{Status}

-- ---- the record syntax that is asked for

-- the object identifier that the text is, or that it names, if there is a text
abbrev pub IsChosenSyntax : Option (List ℕ) → Option (List ℕ) → Type 0
IsChosenSyntax None None = Unit {0}
IsChosenSyntax (Some text) (Some oid) = DottedResult (dotted_syntax text) (Ok oid)
IsChosenSyntax _ _ = ⊥

-- the text is no object identifier, and names none
abbrev pub IsNoOid : Option (List ℕ) → List ℕ → Type 0
IsNoOid None syntax = ⊥
IsNoOid (Some text) syntax =
    (syntax ≡ text) × (e : OidError) × (e ≢ oids.Memory) × DottedResult (dotted_syntax text) (Err e)

-- the object identifier of the text, or why it is refused
abbrev pub SyntaxResult : Option (List ℕ) → Result (Option (List ℕ)) Fault → Type 0
SyntaxResult text (Ok oid) = IsChosenSyntax text oid
SyntaxResult text (Err (NotOid syntax)) = IsNoOid text syntax.now
SyntaxResult text (Err Memory) = Unit {0}
SyntaxResult text (Err _) = ⊥

-- ---- what is reported

-- the line for the things of one kind that were left out, if there are any
abbrev pub left_line : List ℕ → ℕ → List ℕ
left_line kind n =
    if nat_lt 0 n then codes "zmeta: " ++ kind ++ codes " left out: " ++ decimal n ++ codes "\n" else []

-- the lines for what was left out
abbrev pub left_text : LeftOut → List ℕ
left_text left =
    left_line (codes "positions with several records") left.conflicts
    ++ left_line (codes "diagnostics") left.diagnostics
    ++ left_line (codes "records of another syntax") left.syntaxes
    ++ left_line (codes "structured records (as OPAC and GRS-1)") left.others

-- ---- the command

-- the path of an earlier file, if just what is new or changed since then is written; the names of the catalogues, or
-- none for all; the record syntax by its text, or any; and whether all records of a position that has several are
-- written
pub record WantedRecords : Type 0 where
  pub since : Option (List ℕ)
  pub only : List (List ℕ)
  pub syntax : Option (List ℕ)
  pub conflicts : Bool

-- the records that are asked for
abbrev pub extract : Extract → WantedRecords
extract e =
    record {
      since = option_map (λ text. text.now) e.since;
      only = texts_of e.only.now;
      syntax = option_map (λ text. text.now) e.syntax;
      conflicts = e.conflicts;
    }

-- the octets were written and the lines reported; or the stream failed
abbrev pub PutRecordsResult : List ℕ → List ℕ → Outputs → Outputs → Result (Unit {0}) Fault → Type 0
PutRecordsResult text lines before after (Ok u) =
    HasGained before.output after.output text × AfterTellLines before.errors after.errors lines
PutRecordsResult text lines before after (Err (Write path)) = (path.now ≡ before.output.path)
    × HasStopped before.output after.output text × (after.errors ≡ before.errors)
PutRecordsResult text lines before after (Err _) = ⊥

-- these are the facts about the chosen catalogues that the files at these paths have together, and this is the record
-- syntax asked for
pub record IsExtract
    (octets : List ℕ → Option (List ℕ)) (paths : List (List ℕ)) (e : WantedRecords) (facts : List Fact)
    (oid : Option (List ℕ))
    : Type 0 where
  pub names : List (List ℕ)
  pub all : List Fact
  pub joined : AreJoined octets names paths all
  pub known : AreAllKnown e.only names
  pub chosen : IsOfCatalogues e.only names all facts
  pub syntax : IsChosenSyntax e.syntax oid

-- the name is the first that no catalogue of the files at these paths has
abbrev pub HasNoCatalogue
    : (List ℕ → Option (List ℕ)) → List (List ℕ) → List (List ℕ) → List ℕ → Type 0
HasNoCatalogue octets paths only name =
    (names : List (List ℕ)) × (facts : List Fact) × AreJoined octets names paths facts × IsFirstUnknown only names name

-- The result of `records` without an earlier file: the octets and what was left out, or a front of the octets if the
-- stream failed. Nothing was written if a file, the record syntax or a name is refused, or no memory was found.
abbrev pub RecordsResult
    : WantedRecords → (List ℕ → Option (List ℕ)) → List (List ℕ) → Outputs → Outputs → Result Status Fault → Type 0
RecordsResult e octets paths before after (Ok status) = (facts : List Fact) × (oid : Option (List ℕ))
    × IsExtract octets paths e facts oid × IsKnownStatus facts status
    × HasGained before.output after.output (records_octets oid e.conflicts facts)
    × AfterTellLines before.errors after.errors (left_text (left_out oid e.conflicts facts))
RecordsResult e octets paths before after (Err (Write path)) =
    (facts : List Fact) × (oid : Option (List ℕ))
    × IsExtract octets paths e facts oid × (path.now ≡ before.output.path)
    × HasStopped before.output after.output (records_octets oid e.conflicts facts) × (after.errors ≡ before.errors)
RecordsResult e octets paths before after (Err (NotOid text)) =
    IsNoOid e.syntax text.now × AreUnwritten before after
RecordsResult e octets paths before after (Err (NoCatalogue name)) =
    HasNoCatalogue octets paths e.only name.now × AreUnwritten before after
RecordsResult e octets paths before after (Err Memory) = AreUnwritten before after
RecordsResult e octets paths before after (Err f) = IsRefusedAmong octets paths f × AreUnwritten before after
