use Rattle.std.proofs.Common.{ℕ, ℤ, Bool, length, ◌+◌, ◌<◌, pos, ap, sym, ◌∙◌, arith}
use Rattle.std.proofs.lemmas.List.Sums.{count_by_more_yes, count_by_more_no}
use Rattle.zknow_titles.specs.Blocks.{is_shown_at}
use Rattle.zknow_titles.proofs.blocks.count_shown_at.Goals as goal
use Rattle.zknow_titles.proofs.blocks.count_shown_at.Goals.{then-is_shown_at, else-is_shown_at}

pub loop-position-preserved : goal.loop-position-preserved
loop-position-preserved c =
    let test : ℤ → Bool = is_shown_at c.args.knowledge.now c.args.key.now.target c.args.key.now.set in
    let at : ℕ = c.loop-position.position-index in
    let inside : at < length c.args.positions.now = c.loop-position-test.true in
    let before = c.loop-position.invariant in
    let more = count_by_more_yes test c.args.positions.now at (pos 0) inside in
    let same = count_by_more_no test c.args.positions.now at (pos 0) inside in
    elim c.if-is_shown_at.branch [
      | then-is_shown_at w ↦ record {
        counted = w.count-is ∙ ap (λ n. n + 1) before.counted
            ∙ sym (more (sym c.is_shown_at.ensures ∙ w.if-is_shown_at.true));
        within = omega (arith, before.within, w.count-is);
      }
      | else-is_shown_at w ↦ record {
        counted = w.count-is ∙ before.counted ∙ sym (same (sym c.is_shown_at.ensures ∙ w.if-is_shown_at.false));
        within = omega (arith, before.within, w.count-is);
      }
    ]
