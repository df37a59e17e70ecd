use Rattle.std.proofs.Common.{◌≡◌, ◌++◌, length, map, string_bytes}
use Rattle.zknow_titles.specs.Blocks.{filled_by}
use Rattle.zknow_titles.specs.Heads.{lines_then}
use Rattle.zknow_titles.specs.Lines.{ended}
use Rattle.zknow_titles.proofs.heads.put_blocks_then.Given as goal

abbrev pub invariant-loop-left : goal.invariant-loop-left
invariant-loop-left l =
    l.out.items
    ++ ended (lines_then (filled_by l.filled l.knowledge) (map string_bytes l.shown) l.knowledge l.words l.left)
    ≡ l.fn.out.items
    ++ ended (lines_then (filled_by l.filled l.knowledge) (map string_bytes l.shown) l.knowledge l.words l.sets)

abbrev pub decreases-loop-left : goal.decreases-loop-left
decreases-loop-left l = length l.left
