-- What `replay` prints and reports for a trace, and how it ends.
use Rattle.std.specs.Prelude.{◌≡◌, ◌⊎◌, ℕ, ◌≤◌, ◌^◌, ◌||◌, Bool, true, false, not, List, [], length, slice_get, codes, Option, Some, None, Result, Ok, Err, IfSome, IfErr}
use Rattle.std.specs.Duration.{as_nanos}
use Rattle.std.specs.Option.{option_map}
use Rattle.std.specs.Str.{IsUtf8}
use Rattle.zmeta_args.specs.declared.arguments.View.{View}
use Rattle.zmeta_devices.specs.Devices.{Device, AfterTellLines}
use Rattle.zmeta_devices.specs.declared.fault.Fault.{Fault}
use Rattle.zmeta_devices.specs.declared.fault.Fault.TheVariants.{Read, Line, Memory}
use Rattle.zmeta_devices.specs.declared.fault.Status.{Status}
use Rattle.zmeta_devices.specs.declared.fault.Status.TheVariants as statuses
use Rattle.zmeta_trace.specs.declared.head.Begun.{Begun}
use Rattle.zmeta_trace.specs.declared.replaying.Replayed.{Replayed}
use Rattle.zmeta_trace.specs.Heads.{HeadTexts, head_in, number_at}
use Rattle.zmeta_trace.specs.Replays.{inquiry_by, IsReplayed, IsOfNone}
use Rattle.zmeta_world.specs.declared.network.NetworkRun.{NetworkRun}
use Rattle.zoom.specs.Limits.{Limits}
use Rattle.zoom.specs.Trace.{Trace}
use Rattle.zoom.specs.TraceEntry.{TraceEntry}
use Rattle.zoom.specs.TraceError.{TraceError}
use Rattle.zoom.specs.TraceError.TheVariants as errors
use Rattle.zoom.specs.Traces.{IsTrace, IsRefusedAt}
use Rattle.zmeta_offline.specs.Names.{AreAllKnown, IsFirstUnknown}
use Rattle.zmeta_commands.specs.declared.finished.Finished.{Finished}
use Rattle.zmeta_commands.specs.declared.replay.Playback.{Playback}
use Rattle.zmeta_commands.specs.Ask.{IsNetworkFile, ReadNetworkResult}
use Rattle.zmeta_commands.specs.Begun.{AreApart, begun_in, IsSavingFault, AfterUnbegun}
use Rattle.zmeta_commands.specs.Choice.{IsChosen}
use Rattle.zmeta_commands.specs.Finished.{IsListed, AfterAsked, Command}

-- ---- faults

-- the fault of a trace that is refused
abbrev pub fault_of : TraceError → Fault
fault_of (errors.Refused number) = Line number
fault_of errors.Memory = Memory

-- the fault of the line that has the world file, but lack of memory as it is
abbrev pub at_world : Fault → Fault
at_world Memory = Memory
at_world _ = Line 2

-- a fault of a trace: a line is refused, or no memory was found
abbrev pub IsOfTrace : Fault → Type 0
IsOfTrace (Line number) = Unit {0}
IsOfTrace Memory = Unit {0}
IsOfTrace _ = ⊥

-- the same, or a read of the file at the path failed
abbrev pub IsOfReplay : List ℕ → Fault → Type 0
IsOfReplay path (Read failed) = failed.now ≡ path
IsOfReplay path f = IsOfTrace f

-- ---- the parts of a trace

-- the octets have this trace, or a line is refused
abbrev pub TraceFileResult : List ℕ → Result Trace Fault → Type 0
TraceFileResult file (Ok trace) = IsTrace file trace
TraceFileResult file (Err (Line number)) = IsRefusedAt file number
TraceFileResult file (Err Memory) = Unit {0}
TraceFileResult file (Err _) = ⊥

-- a name is not UTF-8
abbrev pub HasOddName : List (List ℕ) → Type 0
HasOddName only = (at : ℕ) × (name : List ℕ) × (slice_get only at ≡ Some name) × (IsUtf8 name → ⊥)

-- the names as texts, or one is none
abbrev pub AreNames : List (List ℕ) → Option (List (List ℕ)) → Type 0
AreNames only None = HasOddName only
AreNames only (Some texts) = texts ≡ only

-- the limits that a head says
pub record AreLimitsBy (b : Begun) (l : Limits) : Type 0 where
  pub connect : as_nanos l.connect ≡ b.connect
  pub patience : as_nanos l.patience ≡ b.patience
  pub total : option_map as_nanos l.total ≡ b.total

-- the head makes no network plan: this is why
abbrev pub IsNoSearch : HeadTexts → Fault → Type 0
IsNoSearch h (Read path) = ⊥
IsNoSearch h Memory = ⊥
IsNoSearch h f = ReadNetworkResult h.search h.world (Err f)

-- the head makes no network plan; or its world file is larger than one may be
abbrev pub HasNoPlan : HeadTexts → Type 0
HasNoPlan h = (2 ^ 32 ≤ length h.world) ⊎ ((f : Fault) × IsNoSearch h f)

-- the network plan of a head; or it has none, and line 2 is refused
abbrev pub HeadNetworkResult : HeadTexts → Result NetworkRun Fault → Type 0
HeadNetworkResult h (Ok e) = IsNetworkFile h.search h.world e
HeadNetworkResult h (Err (Line number)) = (number ≡ 2) × HasNoPlan h
HeadNetworkResult h (Err Memory) = Unit {0}
HeadNetworkResult h (Err _) = ⊥

-- a name that was chosen is no question's, or is not UTF-8
abbrev pub HasNoChoice : List (List ℕ) → List (List ℕ) → Type 0
HasNoChoice only names = ((name : List ℕ) × IsFirstUnknown only names name) ⊎ HasOddName only

-- the addresses of the chosen questions; or a name is no question's, and line 2 is refused
abbrev pub ChosenResult
    : List (List ℕ) → List (List ℕ) → List (List ℕ) → Result (List (Option (List ℕ))) Fault → Type 0
ChosenResult only names addresses (Ok chosen) = AreAllKnown only names × IsChosen only names addresses chosen
ChosenResult only names addresses (Err (Line number)) = (number ≡ 2) × HasNoChoice only names
ChosenResult only names addresses (Err Memory) = Unit {0}
ChosenResult only names addresses (Err _) = ⊥

-- each name that was chosen is a question's, and these are the addresses of the chosen questions
abbrev pub IsChoice : HeadTexts → NetworkRun → List (Option (List ℕ)) → Type 0
IsChoice h e chosen = AreAllKnown h.only e.names × IsChosen h.only e.names e.addresses chosen

-- ---- a trace that was replayed

-- The plan's chosen questions were put to hosts that did what the entries tell, from when on, in the manner and with
-- the limits that the head says: this is known of them, and is listed.
pub record IsReplayedBy (view : View) (trace : Trace) (h : HeadTexts) (e : NetworkRun) (r : Playback) : Type 0 where
  pub known : AreAllKnown h.only e.names
  pub chosen : List (Option (List ℕ))
  pub picks : IsChosen h.only e.names e.addresses chosen
  pub replayed : Replayed
  pub is : IsReplayed (inquiry_by e.questions e.settings h.begun chosen) trace.entries.items replayed
  pub meta : r.finished.meta ≡ replayed.meta
  pub limits : Limits
  pub by : AreLimitsBy h.begun limits
  pub listed : IsListed limits [] replayed.notices.items r.finished.meta e.names chosen view [] r.finished
  pub cut : r.is_cut ≡ trace.is_cut || not replayed.is_over

-- the entry of this number speaks of a connection that is not there, or a chosen name is no question's
abbrev pub IsEntryRefused : Trace → HeadTexts → NetworkRun → ℕ → Type 0
IsEntryRefused trace h e number =
    ((number ≡ 2) × HasNoChoice h.only e.names) ⊎ IsOfNone (length e.questions) trace.entries.items number

-- the trace with this head was replayed, by this plan of its world; or why not
abbrev pub ReplayEntriesResult : View → Trace → HeadTexts → NetworkRun → Result Playback Fault → Type 0
ReplayEntriesResult view trace h e (Ok r) = IsReplayedBy view trace h e r
ReplayEntriesResult view trace h e (Err (Line number)) = IsEntryRefused trace h e number
ReplayEntriesResult view trace h e (Err Memory) = Unit {0}
ReplayEntriesResult view trace h e (Err _) = ⊥

-- the trace has this head, and its world this plan
pub record IsSearchOf (trace : Trace) (h : HeadTexts) (e : NetworkRun) : Type 0 where
  pub rest : List TraceEntry
  pub head : head_in trace.entries.items ≡ (Some h, rest)
  pub from : IsNetworkFile h.search h.world e

-- the trace was replayed, by its head
abbrev pub IsTraceReplayed : View → Trace → Playback → Type 0
IsTraceReplayed view trace r =
    (h : HeadTexts) × (e : NetworkRun) × IsSearchOf trace h e × IsReplayedBy view trace h e r

-- an entry is out of place in the head, or misses there
abbrev pub IsHeadRefused : Trace → ℕ → Type 0
IsHeadRefused trace number = (rest : List TraceEntry) × (head_in trace.entries.items ≡ (None, rest))
    × (number ≡ number_at trace.entries.items rest)

-- the head makes no search
abbrev pub HasNoSearch : Trace → ℕ → Type 0
HasNoSearch trace number = (h : HeadTexts) × (rest : List TraceEntry)
    × (head_in trace.entries.items ≡ (Some h, rest)) × (number ≡ 2) × HasNoPlan h

-- the head makes a search, but an entry is refused
abbrev pub HasRefusedEntry : Trace → ℕ → Type 0
HasRefusedEntry trace number =
    (h : HeadTexts) × (e : NetworkRun) × IsSearchOf trace h e × IsEntryRefused trace h e number

-- the line is refused: in the head, with the world file, or behind
abbrev pub IsTraceRefused : Trace → ℕ → Type 0
IsTraceRefused trace number =
    IsHeadRefused trace number ⊎ HasNoSearch trace number ⊎ HasRefusedEntry trace number

-- the trace was replayed, or a line is refused
abbrev pub ReplayTraceResult : View → Trace → Result Playback Fault → Type 0
ReplayTraceResult view trace (Ok r) = IsTraceReplayed view trace r
ReplayTraceResult view trace (Err (Line number)) = IsTraceRefused trace number
ReplayTraceResult view trace (Err Memory) = Unit {0}
ReplayTraceResult view trace (Err _) = ⊥

-- the trace of these octets was replayed
abbrev pub IsFileReplayed : View → List ℕ → Playback → Type 0
IsFileReplayed view file r = (trace : Trace) × IsTrace file trace × IsTraceReplayed view trace r

-- the line is none that is written, or it is refused as the trace is read
abbrev pub IsLineRefused : List ℕ → ℕ → Type 0
IsLineRefused file number =
    IsRefusedAt file number ⊎ ((trace : Trace) × IsTrace file trace × IsTraceRefused trace number)

-- the trace of these octets was replayed, or a line is refused
abbrev pub ReplayFileResult : View → List ℕ → Result Playback Fault → Type 0
ReplayFileResult view file (Ok r) = IsFileReplayed view file r
ReplayFileResult view file (Err (Line number)) = IsLineRefused file number
ReplayFileResult view file (Err Memory) = Unit {0}
ReplayFileResult view file (Err _) = ⊥

-- ---- the command

-- what is told of a trace that is cut off
abbrev pub cut_line : List ℕ
cut_line = codes "zmeta: the trace is cut off\n"

-- standard error, once that was told, if it is so
abbrev pub AfterCut : Bool → Device → Device → Type 0
AfterCut true old new = AfterTellLines old new cut_line
AfterCut false old new = new ≡ old

-- the status of a replay that would end with this one, by whether the trace is cut off
abbrev pub cut_status : Bool → Status → Status
cut_status true statuses.Done = statuses.Failed
cut_status is_cut status = status

-- the finished connections of a replay
abbrev pub finished_in : Result Playback Fault → Result Finished Fault
finished_in (Ok r) = Ok r.finished
finished_in (Err f) = Err f

-- the trace is cut off, if it was replayed
abbrev pub is_cut_in : Result Playback Fault → Bool
is_cut_in (Ok r) = r.is_cut
is_cut_in (Err f) = false

-- The folder, the streams and the status after `replay` of the trace at a path with these octets, behind the draft of
-- the file to be saved. That the trace is cut off is told first: standard error is then `told`, and the rest ends with
-- the status `first`.
abbrev pub AfterReplaying : View → Command
AfterReplaying view path saved file old new before after status =
    (replayed : Result Playback Fault) × (told : Device) × (first : Status)
    × IfSome file (λ octets. ReplayFileResult view octets replayed) × IfErr replayed (IsOfReplay path)
    × AfterCut (is_cut_in replayed) before.errors told
    × AfterAsked (finished_in replayed) saved old new (record before { errors = told }) after first
    × (status ≡ cut_status (is_cut_in replayed) first)

-- the same, once the draft was begun; or it was not, and nothing was done
abbrev pub AfterReplay : View → Command
AfterReplay view path saved file old new before after status =
    AfterUnbegun (IsSavingFault old path saved) old new before after status
    ⊎ (AreApart old path saved × AfterReplaying view path saved file (begun_in old saved) new before after status)
