use Rattle.std.proofs.Common.{◌++◌, ◌∷◌, [], map, take, sym, ap, subst, ◌∙◌}
use Rattle.std.proofs.lemmas.List.{take_more, map-append}
use Rattle.std.proofs.lemmas.Result.{err_from_is_err_and}
use Rattle.zknow.specs.Tables.DistinctLaws.{each_in}
use Rattle.zknow.specs.Tables.FactRefs.{fact_of}
use Rattle.zknow.specs.Facts.{IsFact}
use Rattle.zknow.specs.Saved.Saving.{IsSavedUpTo}
use Rattle.zknow.proofs.TableTheory.InSections.{map_in}
use Rattle.zknow.proofs.saved.saving.Saving.put_facts.Goals as goal

pub returns-in_err-put_fact-clause-err : goal.returns-in_err-put_fact-clause-err
returns-in_err-put_fact-clause-err c =
    let p = err_from_is_err_and c.from_residual.result c.from_residual.ensures.1 in
    rw (p.1, p.2) (λ names. c.in_err-put_fact.ensures.err names (map fact_of c.args.facts.now) (map_in fact_of c.args.facts.now c.fact-item.result (c.loop-fact.fact-index, c.loop-fact-test.true, sym c.fact-item.is)))

pub loop-fact-preserved : goal.loop-fact-preserved
loop-fact-preserved c =
    let front = take c.loop-fact.fact-index c.args.facts.now in
    let more = ap (map fact_of) (take_more c.args.facts.now c.loop-fact.fact-index c.fact-item.result c.loop-fact-test.true ∙ ap (λ x. front ++ x ∷ []) (sym c.fact-item.is)) ∙ map-append fact_of front (c.fact-item.result ∷ []) in
    λ names up. subst (λ l. IsSavedUpTo names l c.put_fact.new.self) (sym more) (c.in_ok-put_fact.ensures.ok names (map fact_of front) (c.loop-fact.invariant names up))

pub put_fact-requires : goal.put_fact-requires
put_fact-requires c = each_in IsFact (map fact_of c.args.facts.now) c.requires (fact_of c.fact-item.result) (map_in fact_of c.args.facts.now c.fact-item.result (c.loop-fact.fact-index, c.loop-fact-test.true, sym c.fact-item.is))
