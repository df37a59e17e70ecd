use Rattle.std.proofs.Common.{sym, ap, ◌∙◌}
use Rattle.std.specs.Option.{option_copied}
use Rattle.zmarc.specs.Years.{four_digits}
use Rattle.zmarc.proofs.Cuts.{to_end}
use Rattle.zmarc.proofs.BriefTheory.{later_year}
use Rattle.zmarc.proofs.year.find_first_year.Goals as goal

pub loop-at-preserved : goal.loop-at-preserved
loop-at-preserved c =
    let octets = c.args.octets.now in
    let at = c.loop-at.at in
    let none = ap four_digits (sym (to_end octets at)) ∙ sym c.cut_four_digits.ensures ∙ ap option_copied c.in_default.is in
    sym (later_year octets at c.loop-at-test.true none) ∙ c.loop-at.invariant
