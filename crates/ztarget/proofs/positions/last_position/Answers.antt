use Rattle.std.proofs.Common.{◌≡◌, pos, ◌+◌, ◌-◌, ◌<◌, ◌≤◌, drop, get_or, sym, ap, ◌∙◌, arith, rules, w64, FitsSigned}
use Rattle.std.proofs.lemmas.Int.{to_z-of_z}
use Rattle.std.proofs.lemmas.List.{get_or_default}
use Rattle.zplan.specs.Ranges.{natural, positions}
use Rattle.ztarget.proofs.AskedPositions.{position_within, position_beyond, first_in_set}
use Rattle.ztarget.proofs.positions.last_position.Goals as goal

pub returns-then-left-number-clause-last : goal.returns-then-left-number-clause-last
returns-then-left-number-clause-last c =
    let ranges = c.args.ranges.now in
    let i = c.loop-range.range-index in
    let x = get_or ranges i (record { start = pos 0; n = pos 0 }) in
    let is : x ≡ get_or ranges i x = get_or_default ranges i _ x c.loop-range-test.true in
    let fits : FitsSigned w64 x.n = search rules in
    let number : c.natural-number.result ≡ natural x.n = c.natural-number.ensures ∙ ap natural (to_z-of_z w64 x.n fits) in
    let starts : FitsSigned w64 x.start = search rules in
    let start : c.natural.result ≡ natural x.start = c.natural.ensures ∙ ap natural (to_z-of_z w64 x.start starts) in
    let inside : c.loop-range.left < natural x.n = omega (arith, number, c.if-left-number.true) in
    ap (λ k. k + c.loop-range.left) start ∙ sym (position_within ranges i x c.loop-range.left c.loop-range-test.true is inside) ∙ c.loop-range.invariant.last

pub loop-range-preserved : goal.loop-range-preserved
loop-range-preserved c =
    let ranges = c.args.ranges.now in
    let i = c.loop-range.range-index in
    let x = get_or ranges i (record { start = pos 0; n = pos 0 }) in
    let is : x ≡ get_or ranges i x = get_or_default ranges i _ x c.loop-range-test.true in
    let fits : FitsSigned w64 x.n = search rules in
    let number : c.natural-number.result ≡ natural x.n = c.natural-number.ensures ∙ ap natural (to_z-of_z w64 x.n fits) in
    let past : natural x.n ≤ c.loop-range.left = omega (arith, number, c.if-left-number.false) in
    record {
      last = ap (λ k. get_or (positions (drop (i + 1) ranges)) (c.loop-range.left - k) 0) number
          ∙ sym (position_beyond ranges i x c.loop-range.left c.loop-range-test.true is past) ∙ c.loop-range.invariant.last;
      within = (first_in_set c.args.count ranges i x c.loop-range-test.true is c.loop-range.invariant.within).1;
    }
