use Rattle.zknow_merge.proofs.ScanTheory.{fed_scan, unfed_scan}
use Rattle.zknow_merge.proofs.scan.Scan.feed.Goals as goal

pub returns-clause-ok : goal.returns-clause-ok
returns-clause-ok c =
    fed_scan c.args.self.now c.feed.new.self c.args.piece.now c.feed.result c.feed.ensures.names c.feed.ensures.waiting
    c.feed.ensures.count c.feed.ensures.ok

pub returns-clause-err : goal.returns-clause-err
returns-clause-err c =
    unfed_scan c.args.self.now c.feed.new.self c.feed.result c.feed.ensures.names c.feed.ensures.waiting
    c.feed.ensures.count c.feed.ensures.err
