use Rattle.std.proofs.Common.{refl}
use Rattle.zknow_merge.proofs.ScanTheory.{new_scan}
use Rattle.zknow_merge.proofs.scan.Scan.new.Goals as goal

pub returns : goal.returns
returns c = new_scan _ c.new.ensures.empty refl
