-- What a refusal says, if so many inputs have sources.
use Rattle.std.specs.Prelude.{ℕ, ◌-◌}
use Rattle.zknow_merge.specs.declared.refusal.Refusal.{Refusal}
use Rattle.zknow_merge.specs.declared.refusal.Refusal.TheVariants as refusals
use Rattle.zknow_merge.specs.declared.step.Step.{Step}
use Rattle.zknow_merge.specs.declared.step.Step.TheVariants.{Refused, NamesDiffer}

-- the input behind those of the sources has a fault, or that of the last source has other names
abbrev pub step_of : Refusal → ℕ → Step
step_of (refusals.Fault e) count = Refused count e
step_of refusals.NamesDiffer count = NamesDiffer (count - 1)
