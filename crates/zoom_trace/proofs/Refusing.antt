-- Why a line is refused.
use Rattle.std.proofs.Common.{◌≡◌, sym, ◌∙◌, ap, List, ℕ, Option, Some, None, Ok, Err}
use Rattle.hex.specs.Hex.{decode_of, IsBytes}
use Rattle.hex.proofs.HexLemmas.{decode_of-ok}
use Rattle.zoom_trace.specs.declared.entry.TraceEntry.{TraceEntry}
use Rattle.zoom_trace.specs.declared.fault.EntryError.{EntryError}
use Rattle.zoom_trace.specs.declared.fault.EntryError.TheVariants as errors
use Rattle.zoom_trace.specs.Lines.{line_of, IsWritable}
use Rattle.zoom_trace.specs.Reading.{entry_of}
use Rattle.zoom_trace.specs.Results.{FoundResult, EntryResult}
use Rattle.zoom_trace.proofs.ReadLines.{entry_read}

-- the line has no words and numbers of an entry
pub no_entry : (line : List ℕ) (error : EntryError) → FoundResult {A = TraceEntry} (entry_of line) (Err error)
    → EntryResult line (Err error)
no_entry line errors.Refused n = λ entry h e.
    let same : None ≡ Some entry = sym n ∙ ap entry_of e ∙ entry_read entry h in
    cc
no_entry line errors.Memory n = tt

-- the line is another than that of the entry with its words and numbers
pub other_line : (line : List ℕ) (found : TraceEntry) → entry_of line ≡ Some found → (line ≡ line_of found → ⊥)
    → (entry : TraceEntry) → IsWritable entry → line ≡ line_of entry → ⊥
other_line line found f differs entry h e =
    let same : Some found ≡ Some entry = sym f ∙ ap entry_of e ∙ entry_read entry h in
    let one : found ≡ entry = cc in
    differs (e ∙ sym (ap line_of one))

-- octets in hexadecimal are octets
pub decoded : (text bytes : List ℕ) → decode_of text ≡ Ok bytes → IsBytes bytes
decoded text bytes e = (decode_of-ok text bytes e).3
