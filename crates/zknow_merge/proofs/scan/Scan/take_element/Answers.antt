use Rattle.std.proofs.Common.{ℕ, ◌+◌, ◌-◌, ◌^◌, ap, ◌∙◌}
use Rattle.std.specs.Prelude.{min}
use Rattle.zknow_merge.proofs.ScanTheory.{behind_element}
use Rattle.zknow_merge.proofs.scan.Scan.take_element.Goals as goal

pub returns : goal.returns
returns c = λ i found room on.
    behind_element c.args.self.now c.saturating_add-self.result room
    (c.saturating_add-self.ensures ∙ ap (λ (k : ℕ). min (c.args.self.now.at + k) (2 ^ 64 - 1)) c.last_size.ensures)
    c.step_of.result c.step_of.ensures.names c.step_of.ensures.fact i found on
