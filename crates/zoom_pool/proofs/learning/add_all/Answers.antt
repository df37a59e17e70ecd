use Rattle.std.proofs.Common.{rules, arith}
use Rattle.zoom_pool.proofs.Unions.{learned_more, learned_part, learned_all, part_from_union}
use Rattle.zoom_pool.proofs.learning.add_all.Goals as goal

pub loop-fact-preserved : goal.loop-fact-preserved
loop-fact-preserved c = learned_more c.args.knowledge.now c.loop-fact.knowledge c.add.new.self c.args.facts.now
    c.loop-fact.fact-index c.fact-item.result c.loop-fact-test.true c.fact-item.is c.loop-fact.invariant
    c.in_ok-add.ensures.ok

pub returns-in_err-add-clause-part : goal.returns-in_err-add-clause-part
returns-in_err-add-clause-part c = learned_part c.args.knowledge.now c.loop-fact.knowledge c.add.new.self
    c.args.facts.now c.loop-fact.fact-index c.fact-item.result (search rules) c.loop-fact.invariant c.add.ensures.part

pub returns-clause-ok : goal.returns-clause-ok
returns-clause-ok c = learned_all c.args.knowledge.now c.loop-fact.knowledge c.args.facts.now c.loop-fact.fact-index
    (omega arith) c.loop-fact.invariant

pub returns-clause-part : goal.returns-clause-part
returns-clause-part c = part_from_union c.args.knowledge.now c.args.facts.now c.loop-fact.knowledge
    (learned_all c.args.knowledge.now c.loop-fact.knowledge c.args.facts.now c.loop-fact.fact-index (omega arith)
    c.loop-fact.invariant)
