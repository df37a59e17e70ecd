-- The lines of a trace that are read, one after the other.
use Rattle.std.proofs.Common.{◌≡◌, sym, subst, ◌∙◌, ap, ℕ, ◌+◌, List, [], ◌∷◌, ◌++◌, length, Err, append_assoc, append-nil}
use Rattle.std.specs.Prelude.{codes}
use Rattle.std.proofs.lemmas.Grind.{flat_map-append}
use Rattle.zoom_trace.specs.declared.entry.TraceEntry.{TraceEntry}
use Rattle.zoom_trace.specs.declared.fault.TraceError.{TraceError}
use Rattle.zoom_trace.specs.declared.fault.TraceError.TheVariants as errors
use Rattle.zoom_trace.specs.Lines.{line_of, ended_line, trace_of, IsWritable, AreWritable}
use Rattle.zoom_trace.specs.Traces.{HasNoFeed, LineResult, TraceResult}

last : (e : TraceEntry) (behind : List ℕ) → trace_of (e ∷ []) ++ behind ≡ line_of e ++ 10 ∷ behind
last e behind =
    ap (λ (xs : List ℕ). xs ++ behind) (append-nil (ended_line e)) ∙ append_assoc (line_of e) (codes "\n") behind

-- one more line is read
pub one_more : (text line behind rest : List ℕ) (es new : List TraceEntry) (e : TraceEntry) → text ≡ trace_of es ++ rest
    → rest ≡ line ++ 10 ∷ behind → line ≡ line_of e → new ≡ es ++ e ∷ [] → text ≡ trace_of new ++ behind
one_more text line behind rest es new e w r l n =
    w ∙ ap (λ (xs : List ℕ). trace_of es ++ xs) (r ∙ ap (λ (xs : List ℕ). xs ++ 10 ∷ behind) l)
    ∙ sym (ap (λ (xs : List TraceEntry). trace_of xs ++ behind) n
    ∙ ap (λ (xs : List ℕ). xs ++ behind) (flat_map-append ended_line es (e ∷ []))
    ∙ append_assoc (trace_of es) (trace_of (e ∷ [])) behind
    ∙ ap (λ (xs : List ℕ). trace_of es ++ xs) (last e behind))

both_writable : (es : List TraceEntry) (e : TraceEntry) → AreWritable es → IsWritable e → AreWritable (es ++ e ∷ [])
both_writable [] e h g = (g, tt)
both_writable (x ∷ xs) e h g = (h.0, both_writable xs e h.1 g)

pub writable_more : (es new : List TraceEntry) (e : TraceEntry) → AreWritable es → IsWritable e → new ≡ es ++ e ∷ []
    → AreWritable new
writable_more es new e h g n = subst AreWritable (sym n) (both_writable es e h g)

-- a line is refused at its number
pub refused_line : (text line behind rest : List ℕ) (es : List TraceEntry) (number : ℕ) (error : TraceError)
    → text ≡ trace_of es ++ rest → AreWritable es → rest ≡ line ++ 10 ∷ behind → HasNoFeed line
    → number ≡ length es + 1 → LineResult number line (Err error) → TraceResult text (Err error)
refused_line text line behind rest es number (errors.Refused at) w h r f n l = record {
  entries = es;
  line = line;
  rest = behind;
  whole = w ∙ ap (λ (xs : List ℕ). trace_of es ++ xs) r;
  place = l.0 ∙ n;
  within = f;
  refused = l.1;
  writable = h;
}
refused_line text line behind rest es number errors.Memory w h r f n l = tt
