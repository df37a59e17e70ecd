use Rattle.std.proofs.Common.{List, sym, ◌∙◌, subst}
use Rattle.zmeta_catalogues.specs.SortedLines.{AreSorted}
use Rattle.zmeta_catalogues.specs.declared.sorted_lines.Line.{Line}
use Rattle.zmeta_catalogues.proofs.SortedLines.{line_found}
use Rattle.zmeta_catalogues.proofs.sorted_lines.line_of.Goals as goal

pub returns : goal.returns
returns c =
    let text = c.args.source.now.text.now in
    let lines = c.as_slice-lines.result.now in
    let sorted : AreSorted text lines =
    subst (λ (ls : List Line). AreSorted text ls) (sym c.as_slice-lines.ensures.value) c.requires in
    c.unwrap_or.ensures
    ∙ line_found text c.args.name.now lines c.before-from.result c.upto-to.result c.least_number.result sorted
    c.upto-to.ensures.within c.before-from.ensures.point c.upto-to.ensures.point c.least_number.ensures
