use Rattle.std.proofs.Common.{◌≡◌, ◌++◌, map, drop, string_bytes}
use Rattle.zknow_titles.specs.Blocks.{block_line, filled_by}
use Rattle.zknow_titles.specs.Lines.{ended}
use Rattle.zknow_titles.proofs.heads.put_blocks.Given as goal

abbrev pub invariant-loop-key : goal.invariant-loop-key
invariant-loop-key l =
    l.out.items
    ++ ended (map (block_line (filled_by l.filled l.knowledge) (map string_bytes l.shown) l.knowledge)
    (drop l.key-index l.sets))
    ≡ l.fn.out.items
    ++ ended (map (block_line (filled_by l.filled l.knowledge) (map string_bytes l.shown) l.knowledge) l.sets)
