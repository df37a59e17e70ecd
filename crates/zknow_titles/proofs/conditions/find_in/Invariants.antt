use Rattle.std.proofs.Common.{◌≡◌, drop, map}
use Rattle.zknow_titles.specs.Conditions.{words_in}
use Rattle.zknow_titles.proofs.conditions.find_in.Given as goal

abbrev pub invariant-loop-number : goal.invariant-loop-number
invariant-loop-number l = words_in (map (λ e. (e.0, e.1.now)) (drop l.number-index l.entries)) l.condition
    ≡ words_in (map (λ e. (e.0, e.1.now)) l.entries) l.condition
