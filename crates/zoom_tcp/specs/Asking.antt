-- Hosts are asked over TCP (Z39.50-2003, 3.2).
use Rattle.std.specs.Prelude.{◌≡◌, ℕ, ◌-◌, ◌^◌, min, true, List, [], ◌∷◌, ◌++◌, map, slice_get, Option, None, Some, option_map}
use Rattle.std.specs.declared.time.Duration.{Duration}
use Rattle.std.specs.Duration.{as_nanos}
use Rattle.std.specs.Option.{unwrap_or}
use Rattle.zoom_questions.specs.declared.question.Question.{Question}
use Rattle.zoom_questions.specs.declared.question.MetaSettings.{MetaSettings}
use Rattle.zoom_pool.specs.History.{History, events_on}
use Rattle.zoom_pool.specs.Metas.{MetaLinks, MetaAfter}
use Rattle.zoom_asking.specs.declared.asking.Asking.{Asking}
use Rattle.zoom_asking.specs.declared.inquiry.AskedHost.{AskedHost}
use Rattle.zoom_asking.specs.declared.inquiry.Manner.{Manner}
use Rattle.zoom_asking.specs.Inquiries.{Inquiry, Entry, inquiry}
use Rattle.zoom_asking.specs.Askings.{AskingAfter, AreOver}
use Rattle.zoom_asking.specs.Asked.{IsAskedBy}
use Rattle.zoom_asking.specs.Laws.{AskedOn, HasEndedIf}
use Rattle.zoom_trace.specs.declared.entry.TraceEntry.{TraceEntry}
use Rattle.zoom_trace.specs.declared.history.Trace.{Trace}
use Rattle.zoom_trace.specs.declared.tracing.Tracer.{Tracer}
use Rattle.zoom_trace.specs.declared.recording.Recorder.{Recorder}
use Rattle.zoom_trace.specs.Lines.{trace_of, AreWritable}
use Rattle.zoom_trace.specs.Replays.{history_after, AreFedWith}
use Rattle.zoom_trace.specs.Recording.{opening, IsRecordedWith}
use Rattle.zoom_trace.specs.Traces.{IsTrace}
use Rattle.zoom_trace.specs.Tracing.{IsTracedIf, IsWrittenOut}
use Rattle.zoom_tcp.specs.declared.limits.HostWaits.{HostWaits}
use Rattle.zoom_tcp.specs.declared.limits.Limits.{Limits}

-- a span of time in nanoseconds, or the most that 64 bits hold
abbrev pub nanos : Duration → ℕ
nanos span = min (as_nanos span) (2 ^ 64 - 1)

-- how long to wait for a host
abbrev pub asked_host : Limits → AskedHost
asked_host limits = record { connect = nanos limits.connect; patience = nanos limits.patience }

-- how long everything may take
abbrev pub total_of : Limits → Option ℕ
total_of limits = option_map nanos limits.total

-- the limits of a host, with the waiting times that it has of its own
abbrev pub limits_for : Limits → Option HostWaits → Limits
limits_for limits None = limits
limits_for limits (Some own) = record limits {
  connect = unwrap_or own.connect limits.connect;
  patience = unwrap_or own.patience limits.patience;
}

-- the limits of the host of connection c: where the waiting times end, those of all hosts
abbrev pub limits_at : Limits → List HostWaits → ℕ → Limits
limits_at limits waits c = limits_for limits (slice_get waits c)

-- a host for each address, with its own waiting times; where these end, the limits of all hosts hold
abbrev pub hosts_of : {A : Type 0} → Limits → List HostWaits → List (Option A) → List (Option AskedHost)
hosts_of limits [] addresses = map (option_map (λ address. asked_host limits)) addresses
hosts_of limits (own ∷ waits) [] = []
hosts_of limits (own ∷ waits) (chosen ∷ addresses) =
    option_map (λ address. asked_host (limits_for limits (Some own))) chosen ∷ hosts_of limits waits addresses

-- what is asked of whom, from a time on
abbrev pub inquiry_of
    : {A : Type 0} → List Question → MetaSettings → Manner → Limits → List HostWaits → List (Option A) → ℕ → Inquiry
inquiry_of questions s manner limits waits addresses start =
    inquiry questions s (hosts_of limits waits addresses) manner (total_of limits) start

-- the first entries of a trace: how hosts are asked, at the time at which asking began
abbrev pub first_entries : Manner → Limits → ℕ → List TraceEntry
first_entries manner limits start = opening start manner (asked_host limits) (total_of limits)

-- the trace that is written: none if hosts have waiting times of their own, since its first entries tell the same times
-- of all hosts
abbrev pub trace_beside : {T : Type 0} → List HostWaits → Option T → Option T
trace_beside [] given = given
trace_beside (own ∷ waits) given = None

-- Entries were recorded. After what they tell each connection is over, or was not chosen.
pub record IsEndedOn {W : Type 0} (contents : W → Option (List ℕ)) (old new : Recorder W) : Type 0 where
  pub entries : List TraceEntry
  pub are : IsRecordedWith contents entries old new
  pub over : (i : Inquiry) (history : List Entry) → AskingAfter i history old.asking
      → (after : AskingAfter i (history_after entries history) new.asking) × AreOver true after.hosts

-- The trace, if one is written, grew by lines: how hosts are asked, at the time at which asking began, and then
-- entries. All of it was written, unless a call of the sink failed. What the entries tell was reported, and left what
-- is known. No trace is left if hosts have waiting times of their own.
pub record IsTracedAsk
    {A W : Type 0} (contents : W → Option (List ℕ)) (questions : List Question) (s : MetaSettings) (manner : Manner)
    (limits : Limits) (waits : List HostWaits) (addresses : List (Option A)) (given : Option (Tracer W))
    (meta : MetaLinks) (left : Option (Tracer W))
    : Type 0 where
  pub start : ℕ
  pub entries : List TraceEntry
  pub asked : IsAskedBy (inquiry_of questions s manner limits waits addresses start) (history_after entries []) meta
  pub writable : AreWritable (first_entries manner limits start ++ entries)
  pub traced : IsTracedIf contents (first_entries manner limits start ++ entries) (trace_beside waits given) left
  pub written : IsWrittenOut left

-- Some history of reports, by a clock that began at `start`, left what is known. Each connection that has an address is
-- Closed or Failed, and the others have no events.
pub record IsAsked
    {A : Type 0} (questions : List Question) (s : MetaSettings) (manner : Manner) (limits : Limits)
    (waits : List HostWaits) (addresses : List (Option A)) (meta : MetaLinks)
    : Type 0 where
  pub start : ℕ
  pub history : List Entry
  pub asked : IsAskedBy (inquiry_of questions s manner limits waits addresses start) history meta
  -- the events of the connections, in a history of the pool
  pub pool : History
  pub known : MetaAfter questions s pool meta
  pub ended : (c : ℕ) (asks : AskedOn (inquiry_of questions s manner limits waits addresses start) c)
      → HasEndedIf asks.host s (events_on c pool)

-- A trace that an ask wrote behind entries that tell nothing was read again, and fed to an asking of the same inquiry
-- that has just begun. That asking is after the history of the ask.
abbrev pub ReplayedLaw : Type 0
ReplayedLaw =
    (i : Inquiry) (limits : Limits) (told entries : List TraceEntry) (trace : Trace) (first new : Asking)
    → history_after told [] ≡ [] → AreWritable (told ++ (first_entries i.manner limits i.start ++ entries))
    → IsTrace (trace_of (told ++ (first_entries i.manner limits i.start ++ entries))) trace
    → AskingAfter i [] first → AreFedWith trace.entries.items first new
    → AskingAfter i (history_after entries []) new
