use Rattle.std.proofs.Common.{◌≡◌, ◌++◌}
use Rattle.std.specs.Map.{keys_of}
use Rattle.zknow.specs.Tables.Sections.{section}
use Rattle.zknow.proofs.list.list_keys.put_all_rows.Given as goal

abbrev pub invariant-loop-key : goal.invariant-loop-key
invariant-loop-key l = l.out.items ++ section keys_of (λ e p. record { position = p; target = e.target; set = e.set }) l.key-iterator ≡ l.fn.out.items ++ section keys_of (λ e p. record { position = p; target = e.target; set = e.set }) l.table
