use Rattle.std.proofs.Common.{◌≡◌, ◌∙◌, ap, subst, take, length, arith}
use Rattle.std.specs.Prelude.{Contains}
use Rattle.std.proofs.lemmas.List.{take_all}
use Rattle.zknow_changes.specs.Records.{fact_contents, fact_number}
use Rattle.zknow_changes.specs.Indexes.{AreIndexed}
use Rattle.zknow_changes.proofs.HeldTheory.{one_more_told}
use Rattle.zknow_changes.proofs.index.put_facts.Goals as goal

pub loop-fact-preserved : goal.loop-fact-preserved
loop-fact-preserved c =
    let names = c.args.names.now in
    let facts = c.args.facts.now in
    let i = c.loop-fact.fact-index in
    let x = c.fact-item.result in
    let more = c.in_ok-put_fact.ensures in
    record {
      contents = one_more_told (fact_contents names) facts i x c.loop-fact-test.true c.fact-item.is
          (Contains c.loop-fact.index.contents.keys) (Contains c.put_fact.new.index.contents.keys)
          c.loop-fact.invariant.contents more.contents;
      numbers = one_more_told (fact_number names) facts i x c.loop-fact-test.true c.fact-item.is
          (Contains c.loop-fact.index.numbers.keys) (Contains c.put_fact.new.index.numbers.keys)
          c.loop-fact.invariant.numbers more.numbers;
    }

pub returns : goal.returns
returns c =
    let facts = c.args.facts.now in
    let end : c.loop-fact.fact-index ≡ length facts =
    omega (arith, c.loop-fact-test.false, c.loop-fact.auto.fact-index-end) in
    let all : take c.loop-fact.fact-index facts ≡ facts =
    ap (λ n. take n facts) end ∙ take_all (length facts) facts (omega arith) in
    subst (λ z. AreIndexed c.args.names.now z c.loop-fact.index) all c.loop-fact.invariant
