use Rattle.std.proofs.Common.{◌≡◌, pos, get_or, ◌∙◌, sym, subst}
use Rattle.std.proofs.lemmas.List.{get_or_default}
use Rattle.ztarget.specs.Keeping.{AreHits}
use Rattle.zplan.specs.Ranges.{positions_of}
use Rattle.ztarget.proofs.AskedPositions.{held_step, first_in_set, stand_at}
use Rattle.ztarget.proofs.present.put_held.Goals as goal

pub put_fitting-requires : goal.put_fitting-requires
put_fitting-requires c =
    let ranges = c.args.ranges.now in
    let i = c.loop-range.range-index in
    let x = get_or ranges i (record { start = pos 0; n = pos 0 }) in
    subst (AreHits c.args.databases.now) (sym c.hits_at-hits.ensures) (stand_at c.args.databases.now c.args.found.now (positions_of x) c.requires.stand)

pub loop-range-preserved : goal.loop-range-preserved
loop-range-preserved c =
    let ranges = c.args.ranges.now in
    let i = c.loop-range.range-index in
    let x = get_or ranges i (record { start = pos 0; n = pos 0 }) in
    let is : x ≡ get_or ranges i x = get_or_default ranges i _ x c.loop-range-test.true in
    record {
      held = held_step c.args.size c.args.syntax.now c.args.databases.now c.args.found.now ranges i x c.loop-range.records.items c.put_fitting.new.records.items
          c.loop-range.used c.in_ok-used.used c.in-Some.octets c.hits_at-hits.result.now c.loop-range-test.true is c.in-Some.is c.hits_at-hits.ensures c.in_ok-used.ensures.fitting c.in_ok-used.ensures.used
          ∙ c.loop-range.invariant.held;
      within = (first_in_set _ ranges i x c.loop-range-test.true is c.loop-range.invariant.within).1;
      showable = λ h. c.in_ok-used.ensures.showable (c.loop-range.invariant.showable h);
    }
