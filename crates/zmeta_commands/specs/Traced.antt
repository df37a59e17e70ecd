-- The trace that `ask` writes.
use Rattle.std.specs.Prelude.{◌≡◌, ◌⊎◌, ℕ, Bool, true, false, List, [], ◌++◌, Option, Some, None, Result, Ok, Err, IfSome, IfErr}
use Rattle.zmeta_args.specs.declared.arguments.View.{View}
use Rattle.zmeta_devices.specs.Devices.{Device, Outputs, AfterTell}
use Rattle.zmeta_devices.specs.Faults.{refused_status}
use Rattle.zmeta_devices.specs.Files.{Files, FileSteps, IsDraft, IsLogged, IsClosed, IsBroken, IsClosedIf, IsBrokenIf}
use Rattle.zmeta_devices.specs.declared.fault.Fault.{Fault}
use Rattle.zmeta_devices.specs.declared.fault.Fault.TheVariants.{Write}
use Rattle.zmeta_devices.specs.declared.fault.Status.{Status}
use Rattle.zmeta_trace.specs.Given.{given_entries}
use Rattle.zmeta_world.specs.Search.{SearchTexts}
use Rattle.zmeta_world.specs.declared.network.NetworkRun.{NetworkRun}
use Rattle.zoom.specs.Asked.{IsAskedBy}
use Rattle.zoom.specs.Asking.{inquiry_of, first_entries}
use Rattle.zoom.specs.Lines.{trace_of, AreWritable}
use Rattle.zoom.specs.Replays.{history_after}
use Rattle.zoom.specs.TraceEntry.{TraceEntry}
use Rattle.zoom.specs.Tracer.{Tracer}
use Rattle.zoom.specs.Tracing.{IsTracedOn}
use Rattle.zmeta_commands.specs.declared.ask.Answered.{Answered}
use Rattle.zmeta_commands.specs.declared.ask.Planned.{Planned}
use Rattle.zmeta_commands.specs.declared.finished.Finished.{Finished}
use Rattle.zmeta_commands.specs.Choice.{ChoiceTexts, IsChosen}
use Rattle.zmeta_commands.specs.Ask.{IsNetworkFile, ReadNetworkResult, AskFileResult, IsOfAsking}
use Rattle.zmeta_commands.specs.Begun.{AreApart, IsTraceApart, IsTraceOver, begun_in, IsSavingFault, AfterUnbegun, IsTraceBegun}
use Rattle.zmeta_commands.specs.Finished.{Command, AfterAsked}

-- ---- while the hosts are asked

-- the tracer is new: of a new log, no line waits, and no call failed
pub record IsNew {W : Type 0} (contents : W → Option (List ℕ)) (steps : FileSteps) (t : Tracer W) : Type 0 where
  pub log : IsDraft steps (contents t.sink)
  pub lines : t.lines.items ≡ []
  pub no_failure : t.has_failed ≡ false

-- a new tracer of a log that was begun at the path; or why not, and nothing happened
abbrev pub BeginLogResult : {A : Type 0} → Files → Files → List ℕ → Result A Fault → Type 0
BeginLogResult old new path (Ok tracer) = IsLogged old new path
BeginLogResult old new path (Err (Write failed)) = (failed.now ≡ path) × (new ≡ old)
BeginLogResult old new path (Err _) = ⊥

-- a trace was begun with these entries, or there is none
abbrev pub IsBegun : {W : Type 0} → (W → Option (List ℕ)) → FileSteps → List TraceEntry → Option (Tracer W) → Type 0
IsBegun contents steps entries None = Unit {0}
IsBegun {W} contents steps entries (Some t) =
    (fresh : Tracer W) × IsNew contents steps fresh × IsTracedOn contents entries fresh t

-- ---- what is left of a trace

-- the log holds these octets, if the steps are known
abbrev pub HoldsIf : FileSteps → Option (List ℕ) → List ℕ → Type 0
HoldsIf None contents octets = Unit {0}
HoldsIf (Some known) contents octets = contents ≡ Some octets

-- the log of the tracer holds a front of the lines of these entries, and all of them if no call failed
pub record HasLines {W : Type 0} (contents : W → Option (List ℕ)) (steps : FileSteps) (entries : List TraceEntry)
    (t : Tracer W) : Type 0 where
  pub front : List ℕ
  pub rest : List ℕ
  pub cut : trace_of entries ≡ front ++ rest
  pub holds : HoldsIf steps (contents t.sink) front
  pub all : t.has_failed ≡ false → rest ≡ []

-- the same, if there is a tracer
abbrev pub HasLogged
    : {W : Type 0} → (W → Option (List ℕ)) → FileSteps → List TraceEntry → Option (Tracer W) → Type 0
HasLogged contents steps entries None = Unit {0}
HasLogged contents steps entries (Some t) = HasLines contents steps entries t

-- a log with these contents, if they are known, was ended at the path; or a front of them, or none was
abbrev pub CloseLogResult : Files → Files → List ℕ → Option (List ℕ) → Bool → Type 0
CloseLogResult old new path contents true = IsClosedIf old new path contents
CloseLogResult old new path contents false = IsBrokenIf old new path contents

-- a log was ended at the path with the lines of these entries; or with a front of them, or none was
abbrev pub CloseResult : Files → Files → List ℕ → List TraceEntry → Bool → Type 0
CloseResult old new path entries true = IsClosed old new path (trace_of entries)
CloseResult old new path entries false = IsBroken old new path (trace_of entries)

-- ---- asking with a trace

-- the finished connections, without their trace
abbrev pub finished_of : {T : Type 0} → Result (Answered T) Fault → Result Finished Fault
finished_of (Ok answered) = Ok answered.finished
finished_of (Err f) = Err f

-- the octets are those of a file, if these are known, and their world has the plan
pub record IsPlannedOf (search : SearchTexts) (file : Option (List ℕ)) (p : Planned) : Type 0 where
  pub world : IfSome file (λ known. p.world ≡ known)
  pub network : IsNetworkFile search p.world p.network

-- the network plan of a file, and the file's octets, or what is refused
abbrev pub PlannedResult : SearchTexts → Option (List ℕ) → Result Planned Fault → Type 0
PlannedResult search file (Ok p) = IsPlannedOf search file p
PlannedResult search file (Err f) = IfSome file (λ octets. ReadNetworkResult search octets (Err f))

-- the entries of a trace: what the search was given, how its hosts are asked, from this time on, and what was reported
abbrev pub trace_entries : ChoiceTexts → SearchTexts → List ℕ → ℕ → List TraceEntry → List TraceEntry
trace_entries choice search file start rest =
    given_entries file search choice.only ++ (first_entries choice.manner choice.limits start ++ rest)

-- After what the entries tell each connection of the plan is over, or was not chosen, and this is known.
pub record IsTraceBy (choice : ChoiceTexts) (search : SearchTexts) (file : List ℕ) (e : NetworkRun) (r : Finished)
    (entries : List TraceEntry) : Type 0 where
  pub chosen : List (Option (List ℕ))
  pub picks : IsChosen choice.only e.names e.addresses chosen
  pub start : ℕ
  pub rest : List TraceEntry
  pub whole : entries ≡ trace_entries choice search file start rest
  pub writable : AreWritable (first_entries choice.manner choice.limits start ++ rest)
  pub asked : IsAskedBy (inquiry_of e.questions e.settings choice.manner choice.limits [] chosen start)
      (history_after rest []) r.meta

-- the same for the plan of a file
abbrev pub IsTraceOf : ChoiceTexts → SearchTexts → List ℕ → Finished → List TraceEntry → Type 0
IsTraceOf choice search file r entries =
    (e : NetworkRun) × IsNetworkFile search file e × IsTraceBy choice search file e r entries

-- the trace that is left has the lines of such entries
pub record IsTracedNetwork {W : Type 0} (contents : W → Option (List ℕ)) (steps : FileSteps) (choice : ChoiceTexts)
    (search : SearchTexts) (p : Planned) (r : Finished) (left : Option (Tracer W)) : Type 0 where
  pub entries : List TraceEntry
  pub are : IsTraceBy choice search p.world p.network r entries
  pub logs : HasLogged contents steps entries left

-- the entries are those of a trace of this search of the file, whose octets are these, if they are known
abbrev pub IsTraceIf : ChoiceTexts → SearchTexts → Option (List ℕ) → Finished → List TraceEntry → Type 0
IsTraceIf choice search file r entries =
    (octets : List ℕ) × IfSome file (λ known. octets ≡ known) × IsTraceOf choice search octets r entries

-- the trace that is left has the lines of such entries
pub record IsTracedFile {W : Type 0} (contents : W → Option (List ℕ)) (steps : FileSteps) (choice : ChoiceTexts)
    (search : SearchTexts) (file : Option (List ℕ)) (r : Finished) (left : Option (Tracer W)) : Type 0 where
  pub entries : List TraceEntry
  pub are : IsTraceIf choice search file r entries
  pub logs : HasLogged contents steps entries left

-- ---- the end of a trace

-- it is told that the file at the path cannot be written
abbrev pub IsUnwritten : List ℕ → Fault → Type 0
IsUnwritten path (Write failed) = failed.now ≡ path
IsUnwritten path _ = ⊥

-- The folder, standard error and the status after the end of a trace, behind a command that would end with the first
-- status: the log holds the lines of all entries; or that it does not is reported, and the status is `Refused`, unless
-- it was `Memory`.
abbrev pub AfterTrace
    : List ℕ → List TraceEntry → Files → Files → Device → Device → Status → Status → Type 0
AfterTrace path entries old new before after first status =
    (CloseResult old new path entries true × (after ≡ before) × (status ≡ first))
    ⊎ (CloseResult old new path entries false × ((f : Fault) × AfterTell before after f × IsUnwritten path f)
    × (status ≡ refused_status first))

-- the same, if there is a path
abbrev pub AfterClosing
    : Option (List ℕ) → List TraceEntry → Files → Files → Device → Device → Status → Status → Type 0
AfterClosing None entries old new before after first status = (new ≡ old) × (after ≡ before) × (status ≡ first)
AfterClosing (Some path) entries old new before after first status =
    AfterTrace path entries old new before after first status

-- ---- the command

-- what became of a trace behind a command that would end with the first status: of a search that was not made none is
-- ended
abbrev pub TraceResult
    : (Finished → List TraceEntry → Type 0) → Option (List ℕ) → Result Finished Fault → Files → Files → Device
    → Device → Status → Status → Type 0
TraceResult Is path (Err f) old new before after first status = AfterClosing None [] old new before after first status
TraceResult Is path (Ok r) old new before after first status =
    (entries : List TraceEntry) × Is r entries × AfterClosing path entries old new before after first status

-- What was printed, saved and traced after hosts were asked with this result, behind what was begun: if the tracer has
-- the lines of entries, the trace is ended with them.
abbrev pub ConcludeResult
    : {W : Type 0} → (W → Option (List ℕ)) → Result (Answered W) Fault → Option (List ℕ) → Option (List ℕ) → Files
    → Files → Outputs → Outputs → Status → Type 0
ConcludeResult contents (Err f) saved trace old new before after status =
    AfterAsked (Err f) saved old new before after status
ConcludeResult contents (Ok answered) saved trace old new before after status =
    (saving : Files) × (between : Device) × (first : Status)
    × AfterAsked (Ok answered.finished) saved old saving before (record after { errors = between }) first
    × ((entries : List TraceEntry) → HasLogged contents old.steps entries answered.trace
    → AfterClosing trace entries saving new between after.errors first status)

-- Hosts were asked with this result, behind the draft of the file to be saved. The log of the trace was begun before:
-- the folder is then `begun`. The trace is ended behind all else: the folder is then `saving`, standard error
-- `between`, and the status `first`.
pub record IsTracedAsked (choice : ChoiceTexts) (search : SearchTexts) (view : View) (trace : Option (List ℕ))
    (world : List ℕ) (saved file : Option (List ℕ)) (old new : Files) (before after : Outputs) (status : Status)
    : Type 0 where
  pub asked : Result Finished Fault
  pub begun : Files
  pub saving : Files
  pub between : Device
  pub first : Status
  pub says : IfSome file (λ octets. AskFileResult choice search view octets asked)
  pub faults : IfErr asked (IsOfAsking trace world)
  pub begins : IsTraceBegun trace (begun_in old saved) begun asked
  pub done : AfterAsked asked saved begun saving before (record after { errors = between }) first
  pub closes : TraceResult (IsTraceIf choice search file) trace asked saving new between after.errors first status

-- why a command with a trace begins nothing
abbrev pub IsUnasked : Files → List ℕ → Option (List ℕ) → Option (List ℕ) → Fault → Type 0
IsUnasked s world saved trace f = IsTraceOver s world saved trace f ⊎ IsSavingFault s world saved f

-- The folder, the streams and the status after `ask`, with a trace at this path, if it is to be written. No file that
-- is written is another that is read or written, and a draft of the file to be saved was begun; or nothing was asked.
abbrev pub AfterTracedAsk : ChoiceTexts → SearchTexts → View → Option (List ℕ) → Command
AfterTracedAsk choice search view trace world saved file old new before after status =
    AfterUnbegun (IsUnasked old world saved trace) old new before after status
    ⊎ (IsTraceApart old world saved trace × AreApart old world saved
    × IsTracedAsked choice search view trace world saved file old new before after status)
