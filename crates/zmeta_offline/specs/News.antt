-- What `records` writes: all records of saved files, or those that are new or changed since an earlier file.
use Rattle.std.specs.Prelude.{◌≡◌, ◌⊎◌, ℕ, List, Option, Some, None, Result, Ok, Err}
use Rattle.zknow.specs.declared.fact.Fact.{Fact}
use Rattle.zknow_changes.specs.declared.between.Change.{Change}
use Rattle.zknow_changes.specs.Changes.{AreChanges}
use Rattle.zknow_changes.specs.Parts.{AreNews}
use Rattle.zknow_records.specs.Records.{records_octets, left_out}
use Rattle.zmeta_devices.specs.Devices.{Device, Outputs, HasGained, HasStopped, AreUnwritten, AfterTellLines, AfterEnd}
use Rattle.zmeta_devices.specs.declared.fault.Fault.{Fault}
use Rattle.zmeta_devices.specs.declared.fault.Fault.TheVariants.{Write, NoCatalogue, NotOid, Memory}
use Rattle.zmeta_devices.specs.declared.fault.Status.{Status}
use Rattle.zmeta_offline.specs.Catalogues.{IsOfCatalogues}
use Rattle.zmeta_offline.specs.Names.{AreAllKnown, IsFirstUnknown}
use Rattle.zmeta_offline.specs.Join.{IsSavedAt, IsFaultAt, AreJoined, IsRefusedAmong}
use Rattle.zmeta_offline.specs.New.{IsStatusOfBoth}
use Rattle.zmeta_offline.specs.Records.{IsChosenSyntax, IsNoOid, left_text, WantedRecords, HasNoCatalogue}
use Rattle.zmeta_offline.specs.Streamed.{StreamedResult}

-- ---- what is new

-- the records are those that are new or changed from one list of facts to another
pub record AreNewsBetween (earlier_names : List (List ℕ)) (old : List Fact) (names : List (List ℕ))
    (new news : List Fact) : Type 0 where
  pub changes : List Change
  pub are : AreChanges earlier_names old names new changes
  pub taken : AreNews changes news

-- the facts about the chosen catalogues of two lists of facts, or the first name that no later catalogue has
abbrev pub ChooseTwoResult
    : List (List ℕ) → List (List ℕ) → List Fact → List (List ℕ) → List Fact
    → Result (List Fact × List Fact) Fault → Type 0
ChooseTwoResult only earlier_names before names after (Ok r) =
    IsOfCatalogues only earlier_names before r.0 × AreAllKnown only names × IsOfCatalogues only names after r.1
ChooseTwoResult only earlier_names before names after (Err (NoCatalogue name)) = IsFirstUnknown only names name.now
ChooseTwoResult only earlier_names before names after (Err Memory) = Unit {0}
ChooseTwoResult only earlier_names before names after (Err _) = ⊥

-- files by their paths, each with its octets if they are known; the earlier file, and the later ones
module _ (octets : List ℕ → Option (List ℕ)) (earlier : List ℕ) (paths : List (List ℕ)) where
  -- the earlier file is refused; or it is a saved file, and a later one is refused
  abbrev pub IsAnyRefused : Fault → Type 0
  IsAnyRefused f = IsFaultAt octets earlier f
      ⊎ ((names : List (List ℕ)) × (facts : List Fact) × IsSavedAt octets earlier names facts
      × IsRefusedAmong octets paths f)

  -- the facts and names of the earlier file and of the later ones together, or why one is refused
  abbrev pub LoadSinceResult
      : Result ((List Fact × List (List ℕ)) × (List Fact × List (List ℕ))) Fault → Type 0
  LoadSinceResult (Ok r) = IsSavedAt octets earlier r.0.1 r.0.0 × AreJoined octets r.1.1 paths r.1.0
  LoadSinceResult (Err f) = IsAnyRefused f

  -- these are the records of the chosen catalogues of the later files that are new or changed since the earlier one
  pub record IsSince (only : List (List ℕ)) (news : List Fact) (status : Status) : Type 0 where
    pub earlier_names : List (List ℕ)
    pub before : List Fact
    pub old : List Fact
    pub names : List (List ℕ)
    pub after : List Fact
    pub new : List Fact
    pub saved : IsSavedAt octets earlier earlier_names before
    pub joined : AreJoined octets names paths after
    pub old_chosen : IsOfCatalogues only earlier_names before old
    pub known : AreAllKnown only names
    pub new_chosen : IsOfCatalogues only names after new
    pub between : AreNewsBetween earlier_names old names new news
    pub status_is : IsStatusOfBoth old new status

  -- those records and the status, or why there are none
  abbrev pub NewsResult : List (List ℕ) → Result (List Fact × Status) Fault → Type 0
  NewsResult only (Ok r) = IsSince only r.0 r.1
  NewsResult only (Err (NoCatalogue name)) = HasNoCatalogue octets paths only name.now
  NewsResult only (Err Memory) = Unit {0}
  NewsResult only (Err f) = IsAnyRefused f

  -- ---- the command

  -- these are the records asked for, and this is the record syntax
  pub record IsNewsExtract (e : WantedRecords) (news : List Fact) (oid : Option (List ℕ)) (status : Status)
      : Type 0 where
    pub since : IsSince e.only news status
    pub syntax : IsChosenSyntax e.syntax oid

  -- The result of `records --new`: the octets and what was left out, or a front of the octets if the stream failed.
  -- Nothing was written if a file, the record syntax or a name is refused, or no memory was found.
  abbrev pub SinceResult : WantedRecords → Outputs → Outputs → Result Status Fault → Type 0
  SinceResult e before after (Ok status) = (news : List Fact) × (oid : Option (List ℕ))
      × IsNewsExtract e news oid status
      × HasGained before.output after.output (records_octets oid e.conflicts news)
      × AfterTellLines before.errors after.errors (left_text (left_out oid e.conflicts news))
  SinceResult e before after (Err (Write path)) =
      (news : List Fact) × (oid : Option (List ℕ)) × (status : Status)
      × IsNewsExtract e news oid status × (path.now ≡ before.output.path)
      × HasStopped before.output after.output (records_octets oid e.conflicts news) × (after.errors ≡ before.errors)
  SinceResult e before after (Err (NotOid text)) = IsNoOid e.syntax text.now × AreUnwritten before after
  SinceResult e before after (Err (NoCatalogue name)) =
      HasNoCatalogue octets paths e.only name.now × AreUnwritten before after
  SinceResult e before after (Err Memory) = AreUnwritten before after
  SinceResult e before after (Err f) = IsAnyRefused f × AreUnwritten before after

-- the result of `records`: all records, or those that are new or changed since an earlier file
abbrev pub RecordsCallResult
    : Option (List ℕ) → WantedRecords → (List ℕ → Option (List ℕ)) → List (List ℕ) → Outputs → Outputs
    → Result Status Fault → Type 0
RecordsCallResult None e octets paths before after result = StreamedResult e octets paths before after result
RecordsCallResult (Some earlier) e octets paths before after result =
    SinceResult octets earlier paths e before after result

-- the streams and the status after `records`; `between` is standard error before a fault is reported
abbrev pub AfterRecords
    : WantedRecords → (List ℕ → Option (List ℕ)) → List (List ℕ) → Outputs → Outputs → Status → Type 0
AfterRecords e octets paths before after status = (result : Result Status Fault) × (between : Device)
    × RecordsCallResult e.since e octets paths before (record after { errors = between }) result
    × AfterEnd result between after.errors status
