use Rattle.std.proofs.Common.{◌≡◌, ◌++◌, map, drop, string_bytes}
use Rattle.zknow_titles.specs.Blocks.{joined_behind}
use Rattle.zknow_titles.proofs.blocks.put_behind.Given as goal

abbrev pub invariant-loop-text : goal.invariant-loop-text
invariant-loop-text l = string_bytes l.line ++ joined_behind l.separator (map string_bytes (drop l.text-index l.texts))
    ≡ string_bytes l.fn.line ++ joined_behind l.separator (map string_bytes l.texts)
