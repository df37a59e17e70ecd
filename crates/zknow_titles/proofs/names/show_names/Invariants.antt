use Rattle.std.proofs.Common.{◌≡◌, map, take, string_bytes}
use Rattle.zknow_titles.specs.Names.{shown_names}
use Rattle.zknow_titles.proofs.names.show_names.Given as goal

abbrev pub invariant-loop-name : goal.invariant-loop-name
invariant-loop-name l = map string_bytes l.shown.items ≡ shown_names (take l.name-index l.names)
