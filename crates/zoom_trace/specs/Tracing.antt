-- What a tracer wrote, and what waits to be written.
use Rattle.std.specs.Prelude.{◌≡◌, ℕ, Bool, true, false, List, [], ◌++◌, take, Option, None, Some}
use Rattle.std.specs.Io.KnownBytes.{Appends}
use Rattle.zoom_trace.specs.declared.entry.TraceEntry.{TraceEntry}
use Rattle.zoom_trace.specs.declared.tracing.Tracer.{Tracer}
use Rattle.zoom_trace.specs.Lines.{trace_of}

-- The lines of these entries were put behind those that waited. A front of all was written; the rest waits, unless a
-- call of the sink failed. Nothing is written after that.
pub record IsTracedOn
    {W : Type 0} (contents : W → Option (List ℕ)) (entries : List TraceEntry) (old new : Tracer W)
    : Type 0 where
  pub written : List ℕ
  pub rest : List ℕ
  pub cut : old.lines.items ++ trace_of entries ≡ written ++ rest
  pub appended : Appends (contents old.sink) (contents new.sink) written
  pub waits : new.has_failed ≡ false → new.lines.items ≡ rest
  pub stays : old.has_failed ≡ true → (new.has_failed ≡ true) × (written ≡ [])

-- the same of a tracer, if there is one
abbrev pub IsTracedIf
    : {W : Type 0} → (W → Option (List ℕ)) → List TraceEntry → Option (Tracer W) → Option (Tracer W) → Type 0
IsTracedIf contents entries (Some old) (Some new) = IsTracedOn contents entries old new
IsTracedIf contents entries None None = Unit {0}
IsTracedIf contents entries (Some old) None = ⊥
IsTracedIf contents entries None (Some new) = ⊥

-- no line waits to be written
abbrev pub IsWrittenOut : {W : Type 0} → Option (Tracer W) → Type 0
IsWrittenOut None = Unit {0}
IsWrittenOut (Some tracer) = tracer.lines.items ≡ []

-- the whole text was appended, if this holds; or a front of it
pub record HasPutFront (old new : Option (List ℕ)) (text : List ℕ) (whole : Bool) : Type 0 where
  pub front : List ℕ
  pub rest : List ℕ
  pub cut : text ≡ front ++ rest
  pub appended : Appends old new front
  pub all : whole ≡ true → rest ≡ []

-- this many octets of the text were appended, or none
abbrev pub HasPutPiece : Option (List ℕ) → Option (List ℕ) → List ℕ → Option ℕ → Type 0
HasPutPiece old new text (Some count) = Appends old new (take count text)
HasPutPiece old new text None = Appends old new []
