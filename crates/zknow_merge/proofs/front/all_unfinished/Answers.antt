use Rattle.zknow_merge.proofs.FrontTheory.{long_none}
use Rattle.zknow_merge.proofs.front.all_unfinished.Goals as goal

pub returns-then-octets : goal.returns-then-octets
returns-then-octets c = λ more. long_none c.args.octets.now more c.if-octets.true c.requires
