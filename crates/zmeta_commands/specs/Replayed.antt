-- What `replay` prints of the trace that `ask` wrote.
use Rattle.std.specs.Prelude.{◌≡◌, ℕ, ◌<◌, ◌^◌, false, List, [], length, Option, Some}
use Rattle.std.specs.declared.time.Duration.{Duration}
use Rattle.std.specs.Duration.{as_nanos}
use Rattle.zmeta_args.specs.declared.arguments.View.{View}
use Rattle.zmeta_devices.specs.Devices.{Outputs, HasGained}
use Rattle.zmeta_devices.specs.Files.{Files, IsKept, IsLogged, IsClosed}
use Rattle.zmeta_devices.specs.declared.fault.Status.{Status}
use Rattle.zmeta_devices.specs.declared.fault.Status.TheVariants as statuses
use Rattle.zmeta_trace.specs.Given.{given_entries}
use Rattle.zmeta_trace.specs.Known.{IsSameKnown}
use Rattle.zmeta_offline.specs.SameViews.{AreSameStops}
use Rattle.zmeta_world.specs.Search.{SearchTexts}
use Rattle.zoom.specs.Lines.{trace_of, AreWritable}
use Rattle.zoom.specs.Limits.{Limits}
use Rattle.zoom.specs.Notice.{Notice}
use Rattle.zoom.specs.Notices.{AreNotices}
use Rattle.zoom.specs.TraceEntry.{TraceEntry}
use Rattle.zmeta_commands.specs.declared.finished.Finished.{Finished}
use Rattle.zmeta_commands.specs.declared.replay.Playback.{Playback}
use Rattle.zmeta_commands.specs.Ask.{AreAsked}
use Rattle.zmeta_commands.specs.Begun.{begun_in}
use Rattle.zmeta_commands.specs.Choice.{ChoiceTexts}
use Rattle.zmeta_commands.specs.Replay.{IsFileReplayed, AfterReplay}
use Rattle.zmeta_commands.specs.Stops.{AreStops}
use Rattle.zmeta_commands.specs.Traced.{IsTraceOf, AfterTracedAsk}

-- ---- the same is known

-- Of both the same connections were asked, and the same is known and told: the facts, the state of each connection, and
-- why it stopped. The same list is printed.
pub record IsSameFinished (one other : Finished) : Type 0 where
  pub names : one.names ≡ other.names
  pub addresses : one.addresses.items ≡ other.addresses.items
  pub known : IsSameKnown one.meta other.meta
  pub stops : AreSameStops one.stops.items other.stops.items
  pub list : one.list.items ≡ other.list.items

-- ---- an ask with its trace

-- each limit is one that 64 bits hold in nanoseconds (584 years), and there is one for all
pub record AreShort (limits : Limits) : Type 0 where
  pub connect : as_nanos limits.connect < 2 ^ 64
  pub patience : as_nanos limits.patience < 2 ^ 64
  pub total : Duration
  pub limited : limits.total ≡ Some total

-- why the connections stopped is told by what the entries say was noticed of their hosts
pub record AreNoticed (limits : Limits) (count : ℕ) (r : Finished) (entries : List TraceEntry) : Type 0 where
  pub noticed : List Notice
  pub tells : AreNotices count entries noticed
  pub stopped : AreStops limits [] noticed r.meta r.stops.items

-- The hosts of a file were asked, and the entries are those of the trace. What was given are octets, the limits are
-- short, and what was noticed of the hosts is what the entries tell of it.
pub record HasTraced (choice : ChoiceTexts) (search : SearchTexts) (view : View) (file : List ℕ) (r : Finished)
    (entries : List TraceEntry) : Type 0 where
  pub asked : AreAsked choice search view file r
  pub traced : IsTraceOf choice search file r entries
  pub octets : AreWritable (given_entries file search choice.only)
  pub short : AreShort choice.limits
  pub noticed : AreNoticed choice.limits (length traced.0.questions) r entries

-- A trace that an ask wrote is replayed, if it is, with the same: the same is known and told, and nothing is cut off.
abbrev pub SameFinishedLaw : Type 0
SameFinishedLaw =
    (choice : ChoiceTexts) (search : SearchTexts) (view : View) (file : List ℕ) (r : Finished)
    (entries : List TraceEntry) (p : Playback)
    → HasTraced choice search view file r entries → IsFileReplayed view (trace_of entries) p
    → IsSameFinished r p.finished × (p.is_cut ≡ false)

-- ---- what both print

-- the status of a command that did its work, and of which no stream and no file failed
abbrev pub IsWell : Status → Type 0
IsWell statuses.Done = Unit {0}
IsWell statuses.Failed = Unit {0}
IsWell _ = ⊥

-- both wrote the same list on standard output, and the same lines on standard error
pub record IsSameOutput (before after start end : Outputs) : Type 0 where
  pub list : List ℕ
  pub printed : HasGained before.output after.output list
  pub reprinted : HasGained start.output end.output list
  pub lines : List ℕ
  pub told : HasGained before.errors after.errors lines
  pub retold : HasGained start.errors end.errors lines

-- if both saved, both kept a draft with the same octets, each at its path
abbrev pub IsSameSaved : Option (List ℕ) → Option (List ℕ) → Files → Files → Files → Files → Type 0
IsSameSaved (Some one) (Some other) old new from to =
    (octets : List ℕ) × IsKept old new one octets × IsKept from to other octets
IsSameSaved _ _ old new from to = Unit {0}

-- a replay of these octets, in the same view, that tells faults in words if the ask did, and does its work, prints what
-- the ask printed, and saves what the ask saved
abbrev pub IsReprinted : View → Option (List ℕ) → List ℕ → Files → Files → Outputs → Outputs → Type 0
IsReprinted view saved octets old new before after =
    (path : List ℕ) (again : Option (List ℕ)) (from to : Files) (start end : Outputs) (ended : Status)
    → AfterReplay view path again (Some octets) from to start end ended → IsWell ended
    → start.errors.explains ≡ before.errors.explains
    → IsSameOutput before after start end × IsSameSaved saved again old new (begun_in from again) to

-- Hosts were asked, and the log at the path holds the lines of all entries. The facts were saved before it was ended,
-- when the folder was `begun`, and then `saving`. If why connections stopped is told by what the entries say was
-- noticed, each replay of that log that does its work prints the same.
pub record IsReplayable (choice : ChoiceTexts) (search : SearchTexts) (view : View) (trace : List ℕ)
    (saved : Option (List ℕ)) (file : List ℕ) (old new : Files) (before after : Outputs) : Type 0 where
  pub finished : Finished
  pub entries : List TraceEntry
  pub begun : Files
  pub saving : Files
  pub asked : AreAsked choice search view file finished
  pub traced : IsTraceOf choice search file finished entries
  pub logged : IsLogged (begun_in old saved) begun trace
  pub closed : IsClosed saving new trace (trace_of entries)
  pub same : AreNoticed choice.limits (length traced.0.questions) finished entries
      → IsReprinted view saved (trace_of entries) begun saving before after

-- An `ask` with a trace that did its work can be replayed: what it was given are octets, and its limits are short.
abbrev pub ReprintLaw : Type 0
ReprintLaw =
    (choice : ChoiceTexts) (search : SearchTexts) (view : View) (trace world : List ℕ) (saved : Option (List ℕ))
    (file : List ℕ) (old new : Files) (before after : Outputs) (status : Status)
    → AreWritable (given_entries file search choice.only) → AreShort choice.limits
    → AfterTracedAsk choice search view (Some trace) world saved (Some file) old new before after status
    → IsWell status → IsReplayable choice search view trace saved file old new before after
