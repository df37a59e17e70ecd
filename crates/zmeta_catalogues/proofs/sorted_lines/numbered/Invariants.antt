use Rattle.std.proofs.Common.{◌≡◌, ◌<◌, ℕ, get_or, length, map}
use Rattle.zmeta_catalogues.specs.SortedLines.{AreNumbered, IsNumbered}
use Rattle.zmeta_catalogues.specs.declared.sorted_lines.Line.{Line}
use Rattle.zmeta_catalogues.proofs.sorted_lines.numbered.Given as goal

abbrev pub invariant-lines : goal.invariant-lines
invariant-lines l = record {
  as_many : length l.numbered.items ≡ l.at;
  are :
      (at : ℕ) (d : Line) → at < length l.numbered.items
      → IsNumbered (map (λ x. x.now) l.lines) at (get_or l.numbered.items at d);
}
