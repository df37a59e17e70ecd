use Rattle.std.proofs.Common.{ℕ, ◌<◌, ◌≤◌, ◌-◌, [], length, get_or}
use Rattle.zknow_merge.specs.declared.source.Source.{Source}
use Rattle.zknow_merge.specs.Inputs.{no_input}
use Rattle.zknow_merge.specs.Sources.{IsReadFrom}
use Rattle.zknow_merge.proofs.merge.Merge.new.Given as goal

abbrev pub invariant-loop-sources : goal.invariant-loop-sources
invariant-loop-sources l = record {
  within : length l.sources.items ≤ l.inputs;
  read : (k : ℕ) (d : Source) → k < length l.sources.items → IsReadFrom [] no_input (get_or l.sources.items k d);
}

abbrev pub decreases-loop-sources : goal.decreases-loop-sources
decreases-loop-sources l = l.inputs - length l.sources.items
