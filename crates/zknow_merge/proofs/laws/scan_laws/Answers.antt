use Rattle.zknow_merge.proofs.ScanTheory.{scan_says}
use Rattle.zknow_merge.proofs.laws.scan_laws.Goals as goal

pub returns : goal.returns
returns c = scan_says
