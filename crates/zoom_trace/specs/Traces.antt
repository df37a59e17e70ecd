-- Traces: the lines of entries, one behind the other, and perhaps a line that was cut off.
use Rattle.std.specs.Prelude.{◌≡◌, ◌≢◌, ℕ, ◌+◌, ◌==◌, not, List, [], ◌∷◌, ◌++◌, length, All, Result, Ok, Err}
use Rattle.zoom_trace.specs.declared.entry.TraceEntry.{TraceEntry}
use Rattle.zoom_trace.specs.declared.history.Trace.{Trace}
use Rattle.zoom_trace.specs.declared.fault.TraceError.{TraceError}
use Rattle.zoom_trace.specs.declared.fault.TraceError.TheVariants as errors
use Rattle.zoom_trace.specs.Lines.{line_of, trace_of, IsWritable, AreWritable}

-- the text has no line feed
abbrev pub HasNoFeed : List ℕ → Type 0
HasNoFeed text = All (λ x. x ≢ 10) text

-- the line is that of no entry
abbrev pub IsNoLine : List ℕ → Type 0
IsNoLine line = (entry : TraceEntry) → IsWritable entry → line ≡ line_of entry → ⊥

-- the text is that of the trace; what stands behind the last line feed was cut off
pub record IsTrace (text : List ℕ) (trace : Trace) : Type 0 where
  pub rest : List ℕ
  pub whole : text ≡ trace_of trace.entries.items ++ rest
  pub within : HasNoFeed rest
  pub cut : trace.is_cut ≡ not (length rest == 0)
  pub writable : AreWritable trace.entries.items

-- the line of this number, from 1, is the first that is no entry's
pub record IsRefusedAt (text : List ℕ) (number : ℕ) : Type 0 where
  pub entries : List TraceEntry
  pub line : List ℕ
  pub rest : List ℕ
  pub whole : text ≡ trace_of entries ++ (line ++ 10 ∷ rest)
  pub place : number ≡ length entries + 1
  pub within : HasNoFeed line
  pub refused : IsNoLine line
  pub writable : AreWritable entries

-- the line is that of the entry; or it is refused at its number
abbrev pub LineResult : ℕ → List ℕ → Result TraceEntry TraceError → Type 0
LineResult number line (Ok entry) = (line ≡ line_of entry) × IsWritable entry
LineResult number line (Err (errors.Refused at)) = (at ≡ number) × IsNoLine line
LineResult number line (Err errors.Memory) = Unit {0}

-- the text is that of the trace; or a line is refused
abbrev pub TraceResult : List ℕ → Result Trace TraceError → Type 0
TraceResult text (Ok trace) = IsTrace text trace
TraceResult text (Err (errors.Refused number)) = IsRefusedAt text number
TraceResult text (Err errors.Memory) = Unit {0}
