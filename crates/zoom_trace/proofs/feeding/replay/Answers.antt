use Rattle.std.proofs.Common.{refl, ◌∙◌, ◌+◌}
use Rattle.zoom_trace.proofs.Fed.{fed_next, within_next, stopped}
use Rattle.zoom_trace.proofs.feeding.replay.Goals as goal

pub loop-index-preserved : goal.loop-index-preserved
loop-index-preserved c =
    let index = c.loop-index.index in
    let e = c.index-entries-index.result in
    let invariant = c.loop-index.invariant in
    record {
      fed = fed_next c.args.entries.now index e c.args.asking.now c.loop-index.asking c.feed_numbered.new.asking
          c.loop-index-test.true c.index-entries-index.is invariant.fed c.in-Ok.ensures.fed.1;
      within = within_next c.args.entries.now index e c.args.asking.now c.loop-index.asking c.loop-index-test.true
          c.index-entries-index.is invariant.within invariant.size c.in-Ok.ensures.fed.0;
      size = c.feed_numbered.ensures.size ∙ invariant.size;
    }

pub returns-in-Err-clause-fed : goal.returns-in-Err-clause-fed
returns-in-Err-clause-fed c =
    let index = c.loop-index.index in
    stopped c.args.entries.now index (index + 1) c.index-entries-index.result c.in-Err.error c.args.asking.now
    c.loop-index.asking c.feed_numbered.new.asking c.loop-index-test.true c.index-entries-index.is refl
    c.loop-index.invariant.fed c.loop-index.invariant.within c.loop-index.invariant.size c.in-Err.ensures.fed
