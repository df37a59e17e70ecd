use Rattle.std.proofs.Common.{◌≡◌, ◌+◌, drop}
use Rattle.zknow_titles.specs.Heads.{front_count}
use Rattle.zknow_titles.proofs.heads.count_front.Given as goal

abbrev pub invariant-loop-key : goal.invariant-loop-key
invariant-loop-key l = record {
  so_far : l.count ≡ l.key-index;
  rest : front_count l.target l.sets ≡ l.count + front_count l.target (drop l.key-index l.sets);
}
