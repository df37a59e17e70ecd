use Rattle.std.proofs.Common.{sym, ap, ◌∙◌}
use Rattle.std.specs.Ordering.{ordering_then, nat_cmp}
use Rattle.std.specs.Cmp.Lexicographic.{slice_cmp}
use Rattle.std.specs.declared.cmp.Ordering.{Ordering}
use Rattle.zknow_merge.proofs.HeadTheory.{head_order}
use Rattle.zknow_merge.proofs.head.compare.Goals as goal

pub returns-in-Less : goal.returns-in-Less
returns-in-Less c = λ f g of_f of_g.
    ap (λ (o : Ordering). ordering_then o (slice_cmp nat_cmp c.args.mine.now.octets.items c.args.theirs.now.octets.items)) (sym c.in-Less.is ∙ c.compare_keys.ensures)
    ∙ head_order c.args.mine.now c.args.theirs.now f g of_f of_g

pub returns-in-Greater : goal.returns-in-Greater
returns-in-Greater c = λ f g of_f of_g.
    ap (λ (o : Ordering). ordering_then o (slice_cmp nat_cmp c.args.mine.now.octets.items c.args.theirs.now.octets.items)) (sym c.in-Greater.is ∙ c.compare_keys.ensures)
    ∙ head_order c.args.mine.now c.args.theirs.now f g of_f of_g

pub returns-in-Equal : goal.returns-in-Equal
returns-in-Equal c = λ f g of_f of_g.
    c.cmp.ensures
    ∙ ap (λ (o : Ordering). ordering_then o (slice_cmp nat_cmp c.args.mine.now.octets.items c.args.theirs.now.octets.items)) (sym c.in-Equal.is ∙ c.compare_keys.ensures)
    ∙ head_order c.args.mine.now c.args.theirs.now f g of_f of_g
