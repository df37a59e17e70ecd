use Rattle.std.proofs.Common.{refl, rules}
use Rattle.zmeta_offline.proofs.Merging.{written}
use Rattle.zmeta_offline.proofs.merged.Merging.write.Goals as goal

pub returns-in-Ok-clause-ok : goal.returns-in-Ok-clause-ok
returns-in-Ok-clause-ok g c = λ starts now begun step due.
    written starts now begun (g.W.Write.contents c.args.draft.now) (g.W.Write.contents c.write_all.new.self) c.args.self.now
    (record c.args.self.now { merged = c.clear.new.self }) step due refl refl (search rules) c.clear.ensures.items
