use Rattle.std.proofs.Common.{subst, rules, ◌≡◌}
use Rattle.std.specs.Prelude.{Contains, OnOk}
use Rattle.zknow.specs.Tables.Join.{IsUnion}
use Rattle.zorigin_facts.specs.Facts.{facts_of}
use Rattle.zoom_pool.proofs.learning.add_answer.Goals as goal

pub returns-clause-ok : goal.returns-clause-ok
returns-clause-ok c =
    let is : c.as_slice.result.now ≡ facts_of c.args.target c.args.answer.now = search rules in
    subst (λ z. OnOk c.add_all.result (IsUnion (Contains c.args.knowledge.now) (Contains z)
    (Contains c.add_all.new.knowledge))) is c.add_all.ensures.ok
