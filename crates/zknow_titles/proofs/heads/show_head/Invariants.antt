use Rattle.std.proofs.Common.{◌≡◌, ◌++◌, drop, map, string_bytes}
use Rattle.zknow_titles.specs.Blocks.{filled_by}
use Rattle.zknow_titles.specs.Heads.{head_lines_with}
use Rattle.zknow_titles.specs.Lines.{ended}
use Rattle.zknow_titles.proofs.heads.show_head.Given as goal

abbrev pub invariant-loop-target : goal.invariant-loop-target
invariant-loop-target l =
    l.head.items
    ++ ended (head_lines_with (filled_by l.filled l.knowledge) (map string_bytes l.shown) l.knowledge l.target
    (drop l.target l.stops) l.left)
    ≡ ended (head_lines_with (filled_by l.filled l.knowledge) (map string_bytes l.shown) l.knowledge 0 l.stops l.sets)
