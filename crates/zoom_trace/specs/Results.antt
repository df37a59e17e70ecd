-- The results of reading.
use Rattle.std.specs.Prelude.{◌≡◌, ℕ, List, Option, Some, None, Result, Ok, Err}
use Rattle.zoom_trace.specs.declared.entry.TraceEntry.{TraceEntry}
use Rattle.zoom_trace.specs.declared.fault.EntryError.{EntryError}
use Rattle.zoom_trace.specs.declared.fault.EntryError.TheVariants as errors
use Rattle.zoom_trace.specs.Lines.{line_of, IsWritable}

-- the result is the expected value; or the line is refused if there is none
abbrev pub FoundResult : {A : Type 0} → Option A → Result A EntryError → Type 0
FoundResult due (Ok value) = due ≡ Some value
FoundResult due (Err errors.Refused) = due ≡ None
FoundResult due (Err errors.Memory) = Unit {0}

-- the line is that of the entry; or it is refused, and is the line of no entry
abbrev pub EntryResult : List ℕ → Result TraceEntry EntryError → Type 0
EntryResult line (Ok entry) = (line ≡ line_of entry) × IsWritable entry
EntryResult line (Err errors.Refused) = (entry : TraceEntry) → IsWritable entry → line ≡ line_of entry → ⊥
EntryResult line (Err errors.Memory) = Unit {0}
