use Rattle.std.proofs.Common.{List, length, sym, ap, ◌∙◌, subst, rules}
use Rattle.std.proofs.lemmas.List.Sorted.{IsNonDecreasingBy-from_sort_by_key, length_permutation}
use Rattle.zmeta_catalogues.specs.declared.catalogue.Catalogue.{Catalogue}
use Rattle.zmeta_catalogues.specs.Files.{IsInLineOrder}
use Rattle.zmeta_catalogues.proofs.reader.in_order.Goals as goal

pub returns-clause-order : goal.returns-clause-order
returns-clause-order c =
    subst (λ (list : List Catalogue). IsInLineOrder c.args.read.items list) (sym c.from_vec.ensures)
    (record {
      same = c.in_ok-sort_by_key.ensures.permutation;
      order =
          IsNonDecreasingBy-from_sort_by_key (λ (x : Catalogue). x.line) _ c.in_ok-sort_by_key.ensures.sorted
          (λ a r q k. search rules);
    })

pub returns-clause-as_many : goal.returns-clause-as_many
returns-clause-as_many c =
    ap length c.from_vec.ensures
    ∙ length_permutation c.args.read.items _ c.in_ok-sort_by_key.ensures.permutation
