use Rattle.std.proofs.Common.{ℕ, pos, get_or, sym, ap, ◌∙◌, arith}
use Rattle.zknow.specs.declared.tables.keys.RowKey.{RowKey}
use Rattle.zknow_titles.specs.Blocks.{filled_at}
use Rattle.zknow_titles.proofs.FilledTheory.{row_counted, shown_row, hidden_row, all_counted}
use Rattle.zknow_titles.proofs.filled.count_filled.Goals as goal
use Rattle.zknow_titles.proofs.filled.count_filled.Goals.{then-is_shown_at+in_ok-add_one, else-is_shown_at}

pub loop-row-preserved : goal.loop-row-preserved
loop-row-preserved c b =
    let facts = c.args.knowledge.now in
    let rows = c.deref-row-items.result.now in
    let at : ℕ = c.loop-row.row-index in
    let none : RowKey = record { position = pos 0; target = 0; set = 0 } in
    let k : RowKey = get_or rows at none in
    let first = filled_at c.args.table.now.entries b in
    let before = filled_at c.loop-row.table.entries b in
    let after = filled_at c.if-is_shown_at.table.entries b in
    elim c.if-is_shown_at.branch [
      | then-is_shown_at+in_ok-add_one w ↦ row_counted facts b rows at none first before after c.loop-row-test.true
          (c.loop-row.invariant b)
          (ap (λ t. filled_at t.entries b) w.table-is
          ∙ shown_row facts b k c.loop-row.table.entries w.add_one.new.table.entries
          (sym c.is_shown_at.ensures ∙ w.if-is_shown_at.true) w.in_ok-add_one.ensures.own
          w.in_ok-add_one.ensures.others)
      | else-is_shown_at w ↦ row_counted facts b rows at none first before after c.loop-row-test.true
          (c.loop-row.invariant b)
          (ap (λ t. filled_at t.entries b) w.table-is
          ∙ hidden_row facts b k before (sym c.is_shown_at.ensures ∙ w.if-is_shown_at.false))
    ]

pub returns : goal.returns
returns c b =
    all_counted c.args.knowledge.now b c.deref-row-items.result.now c.loop-row.row-index
    (filled_at c.args.table.now.entries b) (filled_at c.loop-row.table.entries b)
    (c.deref-row-items.ensures.value ∙ c.in_ok-rows.ensures) (omega (arith, c.loop-row-test.false))
    (c.loop-row.invariant b)
