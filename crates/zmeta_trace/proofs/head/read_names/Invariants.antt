use Rattle.std.proofs.Common.{◌≡◌, ◌++◌, map, length}
use Rattle.zmeta_trace.specs.Heads.{names_in, behind_names}
use Rattle.zmeta_trace.proofs.head.read_names.Given as goal

abbrev pub invariant-loop-name : goal.invariant-loop-name
invariant-loop-name l = record {
  names : map (λ name. name.now) l.names.items ++ names_in l.rest.entries.now ≡ names_in l.initial.rest.entries.now;
  rest : behind_names l.rest.entries.now ≡ behind_names l.initial.rest.entries.now;
}

abbrev pub decreases-loop-name : goal.decreases-loop-name
decreases-loop-name l = length l.rest.entries.now
