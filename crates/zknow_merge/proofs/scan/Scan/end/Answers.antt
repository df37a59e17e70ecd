use Rattle.zknow_merge.proofs.ScanTheory.{ended_scan}
use Rattle.zknow_merge.proofs.scan.Scan.end.Goals as goal

pub returns : goal.returns
returns c =
    ended_scan c.args.self.now c.end.new.self c.end.ensures.names c.end.ensures.waiting c.end.ensures.count
    c.end.ensures.ended
