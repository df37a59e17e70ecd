-- What a trace says was reported, as a history of an asking.
use Rattle.std.specs.Prelude.{◌≡◌, ℕ, ◌+◌, nat_lt, Bool, true, false, List, [], ◌∷◌, ◌++◌, length, Option, Some, None, option_to_list, Result, Ok, Err}
use Rattle.std.specs.List.{list_all}
use Rattle.zoom_asking.specs.declared.asking.Asking.{Asking}
use Rattle.zoom_asking.specs.Inquiries.{Inquiry, Entry, Reported, Passed, GivenUp, Came, Noted, signal_of}
use Rattle.zoom_asking.specs.Askings.{AskingAfter}
use Rattle.zoom_trace.specs.declared.entry.Traced.{Traced}
use Rattle.zoom_trace.specs.declared.entry.Traced.TheVariants as traced
use Rattle.zoom_trace.specs.declared.entry.TraceEntry.{TraceEntry}
use Rattle.zoom_trace.specs.declared.fault.EntryError.{EntryError}
use Rattle.zoom_trace.specs.declared.fault.EntryError.TheVariants as errors
use Rattle.zoom_trace.specs.declared.fault.TraceError.{TraceError}
use Rattle.zoom_trace.specs.declared.fault.TraceError.TheVariants as faults

-- what was reported at a time, if anything
abbrev pub reported_at : ℕ → Traced → Option Entry
reported_at at (traced.Reported c report) = Some (Reported at c (Noted (signal_of report)))
reported_at at (traced.Received c octets) = Some (Reported at c (Came octets))
reported_at at traced.Ticked = Some (Passed at)
reported_at at traced.GaveUp = Some (GivenUp at)
reported_at at (traced.Began given) = None
reported_at at (traced.Wanted c task) = None
reported_at at (traced.Sent c octets) = None
reported_at at (traced.Noticed c notice) = None

-- the history, newest first, after another entry
abbrev pub history_with : TraceEntry → List Entry → List Entry
history_with e history = option_to_list (reported_at e.at e.what) ++ history

-- the history, newest first, after more entries in their order
abbrev pub history_after : List TraceEntry → List Entry → List Entry
history_after [] history = history
history_after (e ∷ es) history = history_after es (history_with e history)

-- before and after an entry: each history that can have left the one, with this entry, can have left the other
abbrev pub IsFedWith : TraceEntry → Asking → Asking → Type 0
IsFedWith e old new =
    (i : Inquiry) (history : List Entry) → AskingAfter i history old → AskingAfter i (history_with e history) new

-- the same of entries in their order
abbrev pub AreFedWith : List TraceEntry → Asking → Asking → Type 0
AreFedWith es old new =
    (i : Inquiry) (history : List Entry) → AskingAfter i history old → AskingAfter i (history_after es history) new

-- ---- the connections of which entries speak

-- the number of the connection, if there is one
abbrev pub connection_of : Traced → Option ℕ
connection_of (traced.Began given) = None
connection_of (traced.Reported c report) = Some c
connection_of (traced.Received c octets) = Some c
connection_of traced.Ticked = None
connection_of traced.GaveUp = None
connection_of (traced.Wanted c task) = Some c
connection_of (traced.Sent c octets) = Some c
connection_of (traced.Noticed c notice) = Some c

-- this is no number, or that of one of so many connections
abbrev pub is_below : ℕ → Option ℕ → Bool
is_below count None = true
is_below count (Some c) = nat_lt c count

-- the entry speaks of no connection, or of one of so many
abbrev pub is_within : ℕ → TraceEntry → Bool
is_within count e = is_below count (connection_of e.what)

-- how many connections an asking has
abbrev pub size_of : Asking → ℕ
size_of a = length a.meta.pool.connections

-- ---- results

-- the entry was fed; or it speaks of a connection that is not there, and nothing changes
abbrev pub FeedResult : TraceEntry → Asking → Asking → Result (Unit {0}) EntryError → Type 0
FeedResult e old new (Ok done) = (is_within (size_of old) e ≡ true) × IsFedWith e old new
FeedResult e old new (Err errors.Refused) = (is_within (size_of old) e ≡ false) × (new ≡ old)
FeedResult e old new (Err errors.Memory) = Unit {0}

-- the same of the entry with a number
abbrev pub NumberedResult : ℕ → TraceEntry → Asking → Asking → Result (Unit {0}) TraceError → Type 0
NumberedResult number e old new (Ok done) = (is_within (size_of old) e ≡ true) × IsFedWith e old new
NumberedResult number e old new (Err (faults.Refused at)) =
    (at ≡ number) × (is_within (size_of old) e ≡ false) × (new ≡ old)
NumberedResult number e old new (Err faults.Memory) = Unit {0}

-- The entries before this one, of this number from 1, were fed. It speaks of a connection that is not there.
pub record IsFedUpTo (es : List TraceEntry) (number : ℕ) (old new : Asking) : Type 0 where
  pub fed : List TraceEntry
  pub entry : TraceEntry
  pub rest : List TraceEntry
  pub whole : es ≡ fed ++ entry ∷ rest
  pub place : number ≡ length fed + 1
  pub within : list_all (is_within (size_of old)) fed ≡ true
  pub outside : is_within (size_of old) entry ≡ false
  pub are : AreFedWith fed old new

-- all entries were fed; or those before the first that speaks of a connection that is not there
abbrev pub ReplayResult : List TraceEntry → Asking → Asking → Result (Unit {0}) TraceError → Type 0
ReplayResult es old new (Ok done) = (list_all (is_within (size_of old)) es ≡ true) × AreFedWith es old new
ReplayResult es old new (Err (faults.Refused number)) = IsFedUpTo es number old new
ReplayResult es old new (Err faults.Memory) = Unit {0}
