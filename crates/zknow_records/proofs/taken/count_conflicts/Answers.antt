use Rattle.std.proofs.Common.{ℕ, Bool, length, ◌+◌, ◌<◌, pos, ap, sym, ◌∙◌, arith}
use Rattle.std.proofs.lemmas.List.Sums.{count_by_more_yes, count_by_more_no}
use Rattle.zknow.specs.declared.tables.keys.RowKey.{RowKey}
use Rattle.zknow_records.specs.Records.{is_conflict, row_records}
use Rattle.zknow_records.proofs.taken.count_conflicts.Goals as goal
use Rattle.zknow_records.proofs.taken.count_conflicts.Goals.{then-is_conflict, else-is_conflict}

pub loop-row-preserved : goal.loop-row-preserved
loop-row-preserved c =
    let test : RowKey → Bool = λ k. is_conflict (row_records c.args.knowledge.now k) in
    let none : RowKey = record { position = pos 0; target = 0; set = 0 } in
    let at : ℕ = c.loop-row.row-index in
    let inside : at < length c.args.rows.now = c.loop-row-test.true in
    let before = c.loop-row.invariant in
    let more = count_by_more_yes test c.args.rows.now at none inside in
    let same = count_by_more_no test c.args.rows.now at none inside in
    elim c.if-is_conflict.branch [
      | then-is_conflict w ↦ record {
        counted = w.count-is ∙ ap (λ n. n + 1) before.counted
            ∙ sym (more (sym c.is_conflict.ensures ∙ w.if-is_conflict.true));
        within = omega (arith, before.within, w.count-is);
      }
      | else-is_conflict w ↦ record {
        counted = w.count-is ∙ before.counted ∙ sym (same (sym c.is_conflict.ensures ∙ w.if-is_conflict.false));
        within = omega (arith, before.within, w.count-is);
      }
    ]
