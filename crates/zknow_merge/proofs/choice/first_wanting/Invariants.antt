use Rattle.std.proofs.Common.{ℕ, ◌<◌, get_or}
use Rattle.zknow_merge.specs.declared.source.Source.{Source}
use Rattle.zknow_merge.specs.Sources.{IsWanting}
use Rattle.zknow_merge.proofs.choice.first_wanting.Given as goal

abbrev pub invariant-loop-k : goal.invariant-loop-k
invariant-loop-k l = (j : ℕ) (d : Source) → j < l.k → IsWanting (get_or l.sources j d) → ⊥
