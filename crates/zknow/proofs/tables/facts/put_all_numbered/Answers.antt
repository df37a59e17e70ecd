use Rattle.std.proofs.Common.{map}
use Rattle.zknow.specs.Tables.FactRefs.{fact_of}
use Rattle.zknow.specs.Tables.Sections.{number_pairs}
use Rattle.zknow.proofs.TableTheory.InSections.{front_written}
use Rattle.zknow.proofs.tables.facts.put_all_numbered.Goals as goal

pub loop-key-preserved : goal.loop-key-preserved
loop-key-preserved g c = front_written number_pairs (λ e x. g.T.Numbered.fact e x.0 x.1) (c.in-Some.key.now, c.in-Some.values.now) _ _ (map fact_of c.loop-key.out.items) (map fact_of c.put_numbered.new.out.items) _ c.in-Some.ensures.steps c.loop-key.invariant c.in_ok-put_numbered.ensures
