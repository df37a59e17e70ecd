use Rattle.std.proofs.Common.{◌≡◌, ◌++◌, map, drop, string_bytes}
use Rattle.std.specs.List.{flat_map}
use Rattle.zknow.specs.Known.{referenced_pairs}
use Rattle.zknow_titles.specs.Blocks.{search_text}
use Rattle.zknow_titles.proofs.blocks.show_search.Given as goal

abbrev pub invariant-loop-found : goal.invariant-loop-found
invariant-loop-found l = map string_bytes l.texts.items ++ flat_map search_text
    (referenced_pairs (drop l.found-index l.diags))
    ≡ flat_map search_text (referenced_pairs l.diags)
