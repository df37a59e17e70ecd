use Rattle.std.proofs.Common.{◌≡◌, length, refl, arith}
use Rattle.zknow_merge.proofs.StartTheory.{new_merge}
use Rattle.zknow_merge.proofs.merge.Merge.new.Goals as goal

pub returns : goal.returns
returns c =
    let count : length c.loop-sources.sources.items ≡ c.args.inputs =
    omega (arith, c.loop-sources.invariant.within, c.loop-sources-test.false, c.len.ensures) in
    new_merge c.args.inputs _ c.requires count c.loop-sources.invariant.read refl refl refl
