use Rattle.std.proofs.Common.{◌++◌, map, ap, sym, ◌∙◌}
use Rattle.zknow.specs.Tables.FactRefs.{fact_of}
use Rattle.zknow.specs.Tables.Sections.{section}
use Rattle.std.proofs.lemmas.List.{append-nil, append_assoc}
use Rattle.zknow.proofs.TableTheory.InSections.{map_section}
use Rattle.zknow.proofs.tables.facts.put_numbered.Goals as goal

pub returns : goal.returns
returns g c =
    sym (append-nil (map fact_of c.loop-number.out.items))
    ∙ rw c.in-None.ensures.steps.0 at c.loop-number.invariant
    ∙ ap (λ l. map fact_of c.args.out.now.items ++ l) (sym (map_section (λ xs. xs) (λ p x. (p, x)) (λ x. g.T.Numbered.fact c.args.key x.0 x.1) c.args.values.now))

pub loop-number-preserved : goal.loop-number-preserved
loop-number-preserved g c =
    let before = rw c.in-Some.ensures.steps at c.loop-number.invariant in
    let old = map fact_of c.loop-number.out.items in
    let later = section (λ xs. xs) (g.T.Numbered.fact c.args.key) c.next.new.self in
    let put = c.in_ok-put_values.ensures ∙ ap (λ xs. old ++ map (g.T.Numbered.fact c.args.key c.in-Some.number.now) xs) c.values.ensures.values in
    ap (λ l. l ++ later) put ∙ append_assoc old (map (g.T.Numbered.fact c.args.key c.in-Some.number.now) c.in-Some.values.now) later ∙ before
