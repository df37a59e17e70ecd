use Rattle.std.proofs.Common.{◌≡◌}
use Rattle.zknow_titles.specs.Columns.{widest_cut}
use Rattle.zknow_titles.proofs.columns.widest_cut.Given as goal

abbrev pub invariant-loop-room : goal.invariant-loop-room
invariant-loop-room l = widest_cut l.most l.room l.read ≡ widest_cut l.most l.fn.room l.read

abbrev pub decreases-loop-room : goal.decreases-loop-room
decreases-loop-room l = l.room
