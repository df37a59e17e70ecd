use Rattle.std.proofs.Common.{length, ◌-◌}
use Rattle.zknow.specs.Saved.Loading.{IsLoadedUpTo}
use Rattle.zknow.proofs.saved.loading.load_all.Given as goal

abbrev pub invariant-loop-loading : goal.invariant-loop-loading
invariant-loop-loading l = IsLoadedUpTo l.file l.loading

abbrev pub decreases-loop-loading : goal.decreases-loop-loading
decreases-loop-loading l = length l.file - l.loading.at
