-- What `ask` prints and reports for a file of catalogues, and how it ends.
use Rattle.std.specs.Prelude.{◌≡◌, ◌⊎◌, ℕ, Bool, true, false, List, [], ◌∷◌, ◌++◌, codes, Option, Some, None, Result, Ok, Err, IfSome, IfErr}
use Rattle.std.specs.declared.time.Duration.{Duration}
use Rattle.std.specs.Option.{option_or}
use Rattle.zmarc.specs.declared.charset.Charset.{Charset}
use Rattle.zmeta_args.specs.declared.arguments.LimitOptions.{LimitOptions}
use Rattle.zmeta_args.specs.declared.arguments.SearchOptions.{SearchOptions}
use Rattle.zmeta_args.specs.declared.arguments.View.{View}
use Rattle.zmeta_catalogue_files.specs.declared.refusal.UnionFault.{UnionFault}
use Rattle.zmeta_catalogue_files.specs.declared.refusal.UnionFault.TheVariants as unions
use Rattle.zmeta_catalogue_files.specs.declared.unions.CatalogueWaits.{CatalogueWaits}
use Rattle.zmeta_catalogue_files.specs.declared.unions.Union.{Union}
use Rattle.zmeta_catalogue_files.specs.Paths.{is_catalogue_path}
use Rattle.zmeta_catalogue_files.specs.Refusals.{AfterUnionFault}
use Rattle.zmeta_catalogue_files.specs.Unions.{IsUnion, UnionResult, IsOfUnion}
use Rattle.zmeta_devices.specs.Devices.{Device, Outputs, AfterTell, AfterTellLines}
use Rattle.zmeta_devices.specs.Files.{Files}
use Rattle.zmeta_devices.specs.declared.fault.Fault.TheVariants.{NoQuestion, Line, Memory}
use Rattle.zmeta_devices.specs.declared.fault.Status.{Status}
use Rattle.zmeta_devices.specs.declared.fault.Status.TheVariants as statuses
use Rattle.zmeta_offline.specs.Names.{IsFirstUnknown}
use Rattle.zmeta_world.specs.declared.network.NetworkRun.{NetworkRun}
use Rattle.zmeta_world.specs.NetworkRuns.{IsNetworkRun}
use Rattle.zoom.specs.HostWaits.{HostWaits}
use Rattle.zmeta_commands.specs.declared.catalogue_files.UnionRun.{UnionRun}
use Rattle.zmeta_commands.specs.declared.finished.Finished.{Finished}
use Rattle.zmeta_commands.specs.Ask.{IsAskedOf}
use Rattle.zmeta_commands.specs.Begun.{AreApart, begun_in, IsSavingFault, AfterUnbegun}
use Rattle.zmeta_commands.specs.Choice.{ChoiceTexts, IsSeconds}
use Rattle.zmeta_commands.specs.Finished.{asker, Command, AfterFinished}
use Rattle.zmeta_searches.specs.Searches.{search_of}
use Rattle.zmeta_commands.specs.Traced.{AfterTracedAsk}

-- ---- how long a catalogue is waited for

-- the seconds that a catalogue has of its own: none if an option gives them for all
abbrev pub own_seconds : Option ℕ → Option ℕ → Option ℕ
own_seconds (Some given) own = None
own_seconds None own = own

-- a span of so many seconds, or none
abbrev pub IsSpan : Option ℕ → Option Duration → Type 0
IsSpan None span = span ≡ None
IsSpan (Some seconds) None = ⊥
IsSpan (Some seconds) (Some span) = IsSeconds seconds span

-- the patience that a catalogue has of its own
abbrev pub own_patience : LimitOptions → CatalogueWaits → Option ℕ
own_patience given said = own_seconds given.patience said.patience

-- the waiting times that a catalogue has of its own, beside those that the options give for all: without a time for
-- connecting, that is its patience
pub record IsOwnWait (given : LimitOptions) (said : CatalogueWaits) (own : HostWaits) : Type 0 where
  pub connect : IsSpan (own_seconds given.connect (option_or said.connect (own_patience given said))) own.connect
  pub patience : IsSpan (own_patience given said) own.patience

-- those of each catalogue
abbrev pub AreOwnWaits : LimitOptions → List CatalogueWaits → List HostWaits → Type 0
AreOwnWaits given [] [] = Unit {0}
AreOwnWaits given [] (own ∷ waits) = ⊥
AreOwnWaits given (said ∷ all) [] = ⊥
AreOwnWaits given (said ∷ all) (own ∷ waits) = IsOwnWait given said own × AreOwnWaits given all waits

-- ---- the catalogues of a file

-- the union of the catalogues of the file, as the options ask it, has this network plan, its hosts have these waiting
-- times of their own, and their records these character sets, as far as the file gives them
pub record IsUnionPlan (given : LimitOptions) (options : SearchOptions) (file : List ℕ) (e : NetworkRun)
    (waits : List HostWaits) (charsets : List (Option Charset))
    : Type 0 where
  pub union : Union
  pub of : IsUnion file options union
  pub plan : IsNetworkRun asker union.world e
  pub own : AreOwnWaits given union.waits.items waits
  pub sets : charsets ≡ union.charsets.items

-- the same of some plan, waiting times and character sets, of which this holds
abbrev pub HasUnionPlan
    : LimitOptions → SearchOptions → List ℕ → (NetworkRun → List HostWaits → List (Option Charset) → Type 0) → Type 0
HasUnionPlan given options file Holds =
    (e : NetworkRun) × (waits : List HostWaits) × (charsets : List (Option Charset))
    × IsUnionPlan given options file e waits charsets × Holds e waits charsets

-- the network plan of the catalogues of a file, their waiting times and their character sets, or what is refused
abbrev pub PlanUnionResult : LimitOptions → SearchOptions → List ℕ → Result UnionRun UnionFault → Type 0
PlanUnionResult given options file (Ok run) =
    IsUnionPlan given options file run.network run.waits.items run.charsets.items
PlanUnionResult given options file (Err (unions.Fault Memory)) = Unit {0}
PlanUnionResult given options file (Err f) = UnionResult file options (Err f)

-- the catalogues of the file were asked
abbrev pub AreCataloguesAsked
    : ChoiceTexts → LimitOptions → SearchOptions → View → List ℕ → Finished → Type 0
AreCataloguesAsked choice given options view file r =
    HasUnionPlan given options file (λ e waits charsets. IsAskedOf choice waits view charsets e r)

-- the finished connections of the catalogues of a file, or why they were not asked
abbrev pub AskUnionResult
    : ChoiceTexts → LimitOptions → SearchOptions → View → List ℕ → Result Finished UnionFault → Type 0
AskUnionResult choice given options view file (Ok r) = AreCataloguesAsked choice given options view file r
AskUnionResult choice given options view file (Err (unions.Fault (NoQuestion unknown))) =
    HasUnionPlan given options file (λ e waits charsets. IsFirstUnknown choice.only e.names unknown.now)
AskUnionResult choice given options view file (Err (unions.Fault Memory)) = Unit {0}
AskUnionResult choice given options view file (Err f) = UnionResult file options (Err f)

-- a fault that can end planning to ask the catalogues of the file at a path; no line of a file is refused whose octets
-- are known
abbrev pub IsOfUnionPlan : List ℕ → UnionFault → Type 0
IsOfUnionPlan path (unions.Fault (Line number)) = Unit {0}
IsOfUnionPlan path f = IsOfUnion path f

-- a fault that can end asking them
abbrev pub IsOfUnionAsk : List ℕ → UnionFault → Type 0
IsOfUnionAsk path (unions.Fault (NoQuestion unknown)) = Unit {0}
IsOfUnionAsk path f = IsOfUnionPlan path f

-- ---- the command

-- the folder, the streams and the status after the catalogues of the file at a path were asked with this result, behind
-- the draft of the file to be saved: its end, or nothing but the fault
abbrev pub AfterUnionAsked
    : List ℕ → Result Finished UnionFault → Option (List ℕ) → Files → Files → Outputs → Outputs → Status
    → Type 0
AfterUnionAsked path (Ok r) saved old new before after status = AfterFinished r saved old new before after status
AfterUnionAsked path (Err f) saved old new before after status =
    (new ≡ old) × (after.output ≡ before.output) × AfterUnionFault path f before.errors after.errors status

-- the line that refuses a trace of asking the catalogues of the file at a path
abbrev pub trace_line : List ℕ → List ℕ
trace_line path = codes "zmeta: --trace refused: " ++ path ++ codes " is a file of catalogues\n"

-- the line was written, unless a call of the stream failed; or it was told that no memory was found for it
abbrev pub AfterTraceRefused : List ℕ → Device → Device → Status → Type 0
AfterTraceRefused path old new status =
    (AfterTellLines old new (trace_line path) × (status ≡ statuses.Refused))
    ⊎ (AfterTell old new Memory × (status ≡ statuses.Memory))

-- the folder, the streams and the status after the catalogues of a file were asked, behind the draft of the file to be
-- saved
abbrev pub AfterUnionAsking : ChoiceTexts → LimitOptions → SearchOptions → View → Command
AfterUnionAsking choice given options view path saved file old new before after status =
    (asked : Result Finished UnionFault) × IfSome file (λ octets. AskUnionResult choice given options view octets asked)
    × IfErr asked (IsOfUnionAsk path) × AfterUnionAsked path asked saved old new before after status

-- The folder, the streams and the status after `ask` for a file of catalogues. A trace holds a world file, so a path
-- for one is refused, whatever the file is. Else no log is begun. A draft of the file to be saved was begun before, or
-- nothing was asked.
abbrev pub AfterUnionAsk : ChoiceTexts → LimitOptions → SearchOptions → View → Option (List ℕ) → Command
AfterUnionAsk choice given options view (Some trace) path saved file old new before after status =
    (new ≡ old) × (after.output ≡ before.output) × AfterTraceRefused path before.errors after.errors status
AfterUnionAsk choice given options view None path saved file old new before after status =
    AfterUnbegun (IsSavingFault old path saved) old new before after status
    ⊎ (AreApart old path saved
    × AfterUnionAsking choice given options view path saved file (begun_in old saved) new before after status)

-- the same for a file of catalogues, or for a world file
abbrev pub AfterAskOf : Bool → ChoiceTexts → LimitOptions → SearchOptions → View → Option (List ℕ) → Command
AfterAskOf true choice given options view trace = AfterUnionAsk choice given options view trace
AfterAskOf false choice given options view trace = AfterTracedAsk choice (search_of options) view trace

-- the folder, the streams and the status after `ask` for the file at a path
abbrev pub AfterNamedAsk : ChoiceTexts → LimitOptions → SearchOptions → View → Option (List ℕ) → Command
AfterNamedAsk choice given options view trace path =
    AfterAskOf (is_catalogue_path path) choice given options view trace path
