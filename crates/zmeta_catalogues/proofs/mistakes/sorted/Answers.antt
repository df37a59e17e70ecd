use Rattle.std.proofs.Common.{rules, arith}
use Rattle.std.proofs.lemmas.Bool.Decides.{nat_tests}
use Rattle.std.proofs.lemmas.List.Sorted.{IsNonDecreasingBy-from_sort_by_key}
use Rattle.zmeta_catalogues.specs.Mistakes.{error_line}
use Rattle.zmeta_catalogues.proofs.Told.{sorted_none, sorted_some}
use Rattle.zmeta_catalogues.proofs.mistakes.sorted.Goals as goal

pub returns-clause-sorted : goal.returns-clause-sorted
returns-clause-sorted c =
    sorted_some c.args.first c.args.found.items c.sort_by_key.new.self.items (grind (arith, nat_tests)) (record {
      same = c.in_ok-sort_by_key.ensures.permutation;
      order =
          IsNonDecreasingBy-from_sort_by_key error_line _ c.in_ok-sort_by_key.ensures.sorted
          (λ a r q k. search rules);
    })

pub returns-then-is_empty-clause-sorted : goal.returns-then-is_empty-clause-sorted
returns-then-is_empty-clause-sorted c =
    sorted_none c.args.first c.args.found.items c.push.new.self.items (grind (arith, nat_tests))
    c.in_ok-push.ensures.items
