-- What became of the hosts of a trace.
use Rattle.std.specs.Prelude.{◌≡◌, ℕ, List, [], length, map, Option, option_map, Result, Ok, Err}
use Rattle.zoom_questions.specs.declared.question.Question.{Question}
use Rattle.zoom_questions.specs.declared.question.MetaSettings.{MetaSettings}
use Rattle.zoom_asking.specs.declared.asking.Asking.{Asking}
use Rattle.zoom_asking.specs.declared.inquiry.AskedHost.{AskedHost}
use Rattle.zoom_asking.specs.Inquiries.{Inquiry, inquiry}
use Rattle.zoom_asking.specs.Askings.{AskingAfter, AreOver}
use Rattle.zoom_trace.specs.declared.entry.TraceEntry.{TraceEntry}
use Rattle.zoom_trace.specs.declared.fault.TraceError.{TraceError}
use Rattle.zoom_trace.specs.declared.fault.TraceError.TheVariants as errors
use Rattle.zoom_trace.specs.Notices.{AreNotices}
use Rattle.zoom_trace.specs.Replays.{history_after, IsFedUpTo, size_of}
use Rattle.zmeta_trace.specs.declared.head.Begun.{Begun}
use Rattle.zmeta_trace.specs.declared.replaying.Replayed.{Replayed}

-- how long to wait for a host
abbrev pub host_by : Begun → AskedHost
host_by b = record { connect = b.connect; patience = b.patience }

-- a host for each address
abbrev pub hosts_by : {A : Type 0} → Begun → List (Option A) → List (Option AskedHost)
hosts_by b addresses = map (option_map (λ address. host_by b)) addresses

-- what was asked of whom, and from when on
abbrev pub inquiry_by : {A : Type 0} → List Question → MetaSettings → Begun → List (Option A) → Inquiry
inquiry_by questions s b addresses = inquiry questions s (hosts_by b addresses) b.manner b.total b.start

-- What is known is that of an asking of this inquiry, after the history that the entries tell; and so is whether each
-- connection is over.
pub record IsReplayed (i : Inquiry) (es : List TraceEntry) (r : Replayed) : Type 0 where
  pub asking : Asking
  pub after : AskingAfter i (history_after es []) asking
  pub known : r.meta ≡ asking.meta
  pub over : AreOver r.is_over after.hosts
  pub size : length r.meta.pool.connections ≡ length i.questions
  pub noticed : AreNotices (length i.questions) es r.notices.items

-- the entry of this number, from 1, is the first that speaks of a connection that is not there
pub record IsOfNone (count : ℕ) (es : List TraceEntry) (number : ℕ) : Type 0 where
  pub first : Asking
  pub last : Asking
  pub size : size_of first ≡ count
  pub fed : IsFedUpTo es number first last

-- what became of the hosts; or an entry speaks of a connection that is not there
abbrev pub ReplayedResult : Inquiry → List TraceEntry → Result Replayed TraceError → Type 0
ReplayedResult i es (Ok r) = IsReplayed i es r
ReplayedResult i es (Err (errors.Refused number)) = IsOfNone (length i.questions) es number
ReplayedResult i es (Err errors.Memory) = Unit {0}
