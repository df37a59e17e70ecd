use Rattle.std.proofs.Common.{◌≡◌, ◌++◌, map}
use Rattle.std.specs.Map.{keys_of}
use Rattle.zknow.proofs.list.list_keys.put_rows.Given as goal

abbrev pub invariant-loop-position : goal.invariant-loop-position
invariant-loop-position l = l.out.items ++ map (λ p. record { position = p; target = l.key.target; set = l.key.set }) (keys_of l.position-iterator) ≡ l.fn.out.items ++ map (λ p. record { position = p; target = l.key.target; set = l.key.set }) (keys_of l.rows)
