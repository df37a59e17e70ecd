use Rattle.std.proofs.Common.{◌≡◌, ◌+◌, pos, get_or, true, false, sym, ap, ◌∙◌, ◌||◌, drop, to_z, of_z, w64}
use Rattle.std.proofs.lemmas.Int.{to_z-of_z}
use Rattle.std.proofs.lemmas.List.{get_or_default}
use Rattle.zorigin.specs.Ranges.{is_past}
use Rattle.zplan.specs.Ranges.{positions, positions_of}
use Rattle.zorigin.proofs.Ranges.{past_more}
use Rattle.zorigin.proofs.range.are_past.Goals as goal

pub returns-then-ends_past : goal.returns-then-ends_past
returns-then-ends_past c =
    let ranges = c.args.ranges.now in
    let i = c.loop-range.range-index in
    let x = get_or ranges i (record { start = pos 0; n = pos 0 }) in
    let is : x ≡ get_or ranges i x = get_or_default ranges i _ x c.loop-range-test.true in
    let count = to_z w64 (of_z w64 c.args.count) in
    let plain : count ≡ c.args.count = to_z-of_z w64 c.args.count c.ranges.count in
    let past : true ≡ is_past count (positions_of x) = sym c.if-ends_past.true ∙ c.ends_past.ensures in
    ap (λ b. b || is_past count (positions (drop (i + 1) ranges))) past ∙ sym (past_more count ranges i x c.loop-range-test.true is) ∙ c.loop-range.invariant
    ∙ ap (λ z. is_past z (positions ranges)) plain

pub loop-range-preserved : goal.loop-range-preserved
loop-range-preserved c =
    let ranges = c.args.ranges.now in
    let i = c.loop-range.range-index in
    let x = get_or ranges i (record { start = pos 0; n = pos 0 }) in
    let is : x ≡ get_or ranges i x = get_or_default ranges i _ x c.loop-range-test.true in
    let count = to_z w64 (of_z w64 c.args.count) in
    let past : false ≡ is_past count (positions_of x) = sym c.if-ends_past.false ∙ c.ends_past.ensures in
    ap (λ b. b || is_past count (positions (drop (i + 1) ranges))) past ∙ sym (past_more count ranges i x c.loop-range-test.true is) ∙ c.loop-range.invariant
