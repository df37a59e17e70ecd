use Rattle.std.proofs.Common.{refl}
use Rattle.zmeta_offline.proofs.Merging.{advanced}
use Rattle.zmeta_offline.proofs.merged.Merging.advance.Goals as goal

pub returns-clause-ok : goal.returns-clause-ok
returns-clause-ok c = advanced c.next.result c.args.self.now
    (record c.args.self.now { merge = c.next.new.self; merged = c.next.new.out }) refl c.next.ensures.ok
