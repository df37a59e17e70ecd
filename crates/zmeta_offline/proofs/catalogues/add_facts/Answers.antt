use Rattle.std.proofs.Common.{◌≡◌, ◌∙◌, ◌↔◌, sym, ap, subst, true, ◌+◌, take, length, Contains, arith}
use Rattle.std.proofs.lemmas.List.{take_all}
use Rattle.zmeta_args.specs.Texts.{texts_of}
use Rattle.zmeta_offline.specs.Catalogues.{is_of_chosen}
use Rattle.zmeta_offline.proofs.Picking.{ArePicked, picked, passed}
use Rattle.zmeta_offline.proofs.catalogues.add_facts.Goals as goal
use Rattle.zmeta_offline.proofs.catalogues.add_facts.Goals.{then-is_of_chosen+in_ok-add, else-is_of_chosen}

pub loop-fact-preserved : goal.loop-fact-preserved
loop-fact-preserved c =
    let p = is_of_chosen (texts_of c.args.only.now) c.args.names.now in
    let facts = c.args.facts.now in
    let i = c.loop-fact.fact-index in
    let x = c.fact-item.result in
    elim c.if-is_of_chosen.branch [
      | then-is_of_chosen+in_ok-add w ↦ (subst (ArePicked p facts (i + 1)) (sym w.chosen-is)
          (picked p facts i x c.loop-fact-test.true c.fact-item.is c.loop-fact.chosen w.add.new.self (sym c.is_of_chosen.ensures ∙ w.if-is_of_chosen.true) c.loop-fact.invariant w.in_ok-add.ensures.ok))
      | else-is_of_chosen w ↦ (subst (ArePicked p facts (i + 1)) (sym w.chosen-is)
          (passed p facts i x c.loop-fact-test.true c.fact-item.is c.loop-fact.chosen (sym c.is_of_chosen.ensures ∙ w.if-is_of_chosen.false) c.loop-fact.invariant))
    ]

pub returns : goal.returns
returns c =
    let p = is_of_chosen (texts_of c.args.only.now) c.args.names.now in
    let facts = c.args.facts.now in
    let end : c.loop-fact.fact-index ≡ length facts = omega (arith, c.loop-fact-test.false, c.loop-fact.auto.fact-index-end) in
    let all : take c.loop-fact.fact-index facts ≡ facts = ap (λ n. take n facts) end ∙ take_all (length facts) facts (omega arith) in
    record {
      lawful = c.lawful.ensures;
      members = λ f. subst (λ z. Contains c.loop-fact.chosen f ↔ (Contains z f × (p f ≡ true))) all (c.loop-fact.invariant.members f);
    }
