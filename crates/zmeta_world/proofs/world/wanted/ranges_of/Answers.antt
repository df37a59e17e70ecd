use Rattle.std.proofs.Common.{◌∙◌, sym, ap, ◌++◌, ◌∷◌, [], Some, arith}
use Rattle.std.specs.Option.{option_map}
use Rattle.zmeta_world.proofs.WorldRanges.{ranges_step, ranges_stop, ranges_end}
use Rattle.zmeta_world.proofs.world.wanted.ranges_of.Goals as goal

pub returns-in_default-ends_in : goal.returns-in_default-ends_in
returns-in_default-ends_in c =
    let i = rw c.in-Some.is at c.loop-rest.invariant in
    ranges_stop c.loop-rest.ranges.items c.loop-rest.low c.loop-rest.room c.in-Some.texts.now c.first_piece.result.0.now (option_map (λ r. r.now) c.first_piece.result.1) _ c.first_piece.ensures.pieces (sym c.in_default-ends_in.ensures.value) i.0

pub loop-rest-preserved : goal.loop-rest-preserved
loop-rest-preserved c =
    let i = rw c.in-Some.is at c.loop-rest.invariant in
    let more = c.in_ok-push.ensures.items ∙ ap (λ z. c.loop-rest.ranges.items ++ z ∷ []) c.range.ensures in (
      rw more (ranges_step c.loop-rest.ranges.items c.loop-rest.low c.loop-rest.room c.in-Some.texts.now c.first_piece.result.0.now (option_map (λ r. r.now) c.first_piece.result.1) c.in-Some-ends_in.ends _ c.first_piece.ensures.pieces (sym c.in-Some-ends_in.ensures.value) i.0),
      omega (arith, c.loop-rest.invariant.1),
      omega (arith, c.in-Some-ends_in.ensures.high),
    )

pub returns : goal.returns
returns c = ranges_end c.loop-rest.ranges.items c.loop-rest.low c.loop-rest.room _ (rw c.in_default.is at c.loop-rest.invariant).0 ∙ ap Some (sym c.from_vec.ensures)
