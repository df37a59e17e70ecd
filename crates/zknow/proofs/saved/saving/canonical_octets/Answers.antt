use Rattle.std.proofs.Common.{map, ap, subst, ◌∙◌}
use Rattle.std.proofs.lemmas.Result.{err_from_is_err_and}
use Rattle.zknow.specs.Tables.FactRefs.{fact_of}
use Rattle.zknow.specs.Saved.Saved.{IsSaveRefusal}
use Rattle.zknow.specs.Saved.Saving.{IsSavedUpTo}
use Rattle.zknow.proofs.saved.saving.canonical_octets.Goals as goal

pub returns-in_err-put_names-clause-refused : goal.returns-in_err-put_names-clause-refused
returns-in_err-put_names-clause-refused c =
    let p = err_from_is_err_and c.from_residual-in_err-put_names.result c.from_residual-in_err-put_names.ensures.1 in
    rw (p.1, p.2) (c.in_err-put_names.ensures.err c.args.knowledge.now)

pub returns-in_err-put_facts-clause-refused : goal.returns-in_err-put_facts-clause-refused
returns-in_err-put_facts-clause-refused c =
    let p = err_from_is_err_and c.from_residual-in_err-put_facts.result c.from_residual-in_err-put_facts.ensures.1 in
    let facts = ap (map fact_of) c.as_slice.ensures.value ∙ c.in_ok-facts.ensures in
    rw (p.1, p.2) (subst (λ l. IsSaveRefusal c.args.names.now l c.in_err-put_facts.field-0.0) facts (c.in_err-put_facts.ensures.err c.args.names.now))

pub returns-then-long-clause-refused : goal.returns-then-long-clause-refused
returns-then-long-clause-refused c =
    let facts = ap (map fact_of) c.as_slice.ensures.value ∙ c.in_ok-facts.ensures in
    let up = subst (λ l. IsSavedUpTo c.args.names.now l c.put_facts.new.self) facts (c.in_ok-put_facts.ensures.ok c.args.names.now c.in_ok-put_names.ensures.ok) in
    (up.long c.if-long.true, up.shallow)

pub returns-clause-within : goal.returns-clause-within
returns-clause-within c =
    let facts = ap (map fact_of) c.as_slice.ensures.value ∙ c.in_ok-facts.ensures in
    let up = subst (λ l. IsSavedUpTo c.args.names.now l c.put_facts.new.self) facts (c.in_ok-put_facts.ensures.ok c.args.names.now c.in_ok-put_names.ensures.ok) in
    (up.shallow, up.short c.if-long.false)
