use Rattle.std.proofs.Common.{◌≡◌, ◌++◌, map, drop, string_bytes}
use Rattle.zopac.specs.Copies.{holding_line, ended}
use Rattle.zopac.proofs.copies.put_each.Given as goal

abbrev pub invariant-loop-holding : goal.invariant-loop-holding
invariant-loop-holding l = string_bytes l.out ++ ended (map holding_line (drop l.holding-index l.holdings))
    ≡ string_bytes l.fn.out ++ ended (map holding_line l.holdings)
