-- A line is the line of one entry, and a trace that was written is read again.
use Rattle.std.specs.Prelude.{◌≡◌, ℕ, false, List, [], ◌++◌, slice_get, Option, Some}
use Rattle.std.specs.Io.KnownBytes.{Appends}
use Rattle.zoom_asking.specs.declared.asking.Asking.{Asking}
use Rattle.zoom_asking.specs.Inquiries.{Inquiry, Entry}
use Rattle.zoom_asking.specs.Hosts.{AskedConnection}
use Rattle.zoom_asking.specs.Askings.{AskingAfter}
use Rattle.zoom_asking.specs.Asked.{AreReports}
use Rattle.zoom_asking.specs.Laws.{AskedOn, SameHost}
use Rattle.zoom_trace.specs.declared.entry.TraceEntry.{TraceEntry}
use Rattle.zoom_trace.specs.declared.history.Trace.{Trace}
use Rattle.zoom_trace.specs.declared.tracing.Tracer.{Tracer}
use Rattle.zoom_trace.specs.Lines.{line_of, trace_of, IsWritable, AreWritable}
use Rattle.zoom_trace.specs.Json.{entry_object, IsJsonObject}
use Rattle.zoom_trace.specs.Replays.{history_after, AreFedWith}
use Rattle.zoom_trace.specs.Traces.{IsTrace, IsRefusedAt}
use Rattle.zoom_trace.specs.Tracing.{IsTracedOn}

-- two entries with one line are the same
abbrev pub LineLaw : Type 0
LineLaw = (one other : TraceEntry) → IsWritable one → IsWritable other → line_of one ≡ line_of other → one ≡ other

-- the line of an entry is an object of JSON
abbrev pub JsonLaw : Type 0
JsonLaw = (entry : TraceEntry) → IsWritable entry → IsJsonObject (entry_object entry) (line_of entry)

-- what is read of the lines that were written are their entries, and nothing was cut off
abbrev pub WholeLaw : Type 0
WholeLaw =
    (written : List TraceEntry) (trace : Trace) → AreWritable written → IsTrace (trace_of written) trace
    → (trace.entries.items ≡ written) × (trace.is_cut ≡ false)

-- what is read of a trace that was broken off are its first entries
abbrev pub PrefixLaw : Type 0
PrefixLaw =
    (written : List TraceEntry) (text more : List ℕ) (trace : Trace) → AreWritable written
    → trace_of written ≡ text ++ more → IsTrace text trace
    → (others : List TraceEntry) × (written ≡ trace.entries.items ++ others)

-- and no line of it is refused
abbrev pub SoundLaw : Type 0
SoundLaw =
    (written : List TraceEntry) (text more : List ℕ) (number : ℕ) → AreWritable written
    → trace_of written ≡ text ++ more → IsRefusedAt text number → ⊥

-- what a trace tells is what a caller can report
abbrev pub ReportsLaw : Type 0
ReportsLaw = (entries : List TraceEntry) → AreReports (history_after entries [])

-- An asking that was fed what was read of the lines that were written is after the history that these tell. So is the
-- asking whose reports were written.
abbrev pub ReplayLaw : Type 0
ReplayLaw =
    (i : Inquiry) (written : List TraceEntry) (trace : Trace) (first new : Asking) → AreWritable written
    → IsTrace (trace_of written) trace → AskingAfter i [] first → AreFedWith trace.entries.items first new
    → AskingAfter i (history_after written []) new

-- The same became of each connection of two askings that are after the same history, in any manner.
abbrev pub SameLaw : Type 0
SameLaw =
    (i : Inquiry) (history : List Entry) (one other : Asking) (c : ℕ) (asks : AskedOn i c) (x y : AskedConnection)
    → (a : AskingAfter i history one) → (b : AskingAfter i history other)
    → slice_get a.hosts c ≡ Some x → slice_get b.hosts c ≡ Some y → SameHost i.settings asks.question x y

-- While no call of its sink failed, a tracer without lines that wait has written those that waited, and the lines of
-- the entries that were put behind them.
abbrev pub WrittenLaw : {W : Type 0} → (W → Option (List ℕ)) → Type 0
WrittenLaw {W} contents =
    (entries : List TraceEntry) (old new : Tracer W) → IsTracedOn contents entries old new → new.has_failed ≡ false
    → new.lines.items ≡ [] → Appends (contents old.sink) (contents new.sink) (old.lines.items ++ trace_of entries)

-- The first entries of a trace tell nothing, and it was read again: an asking of the same inquiry that is fed it is
-- after the history of the entries behind them.
abbrev pub FollowedLaw : Type 0
FollowedLaw =
    (i : Inquiry) (before entries : List TraceEntry) (trace : Trace) (first new : Asking)
    → history_after before [] ≡ [] → AreWritable (before ++ entries) → IsTrace (trace_of (before ++ entries)) trace
    → AskingAfter i [] first → AreFedWith trace.entries.items first new
    → AskingAfter i (history_after entries []) new
