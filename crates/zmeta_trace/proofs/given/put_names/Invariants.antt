use Rattle.std.proofs.Common.{◌≡◌, ◌++◌, take, map}
use Rattle.zmeta_trace.specs.Given.{name_entries}
use Rattle.zmeta_trace.proofs.given.put_names.Given as goal

abbrev pub invariant-loop-name : goal.invariant-loop-name
invariant-loop-name l = l.entries.items
    ≡ l.initial.entries.items ++ name_entries (map (λ name. name.now) (take l.name-index l.only))
