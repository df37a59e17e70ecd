use Rattle.std.proofs.Common.{◌∙◌, sym}
use Rattle.zquery.proofs.NotationTheory.PairLemmas.{no-pair, pair-at, some-pair, first-missing, second-missing}
use Rattle.zquery.proofs.notation.value.numbers.Goals as goal

pub returns-in_default-clause-value : goal.returns-in_default-clause-value
returns-in_default-clause-value c = sym (no-pair c.args.text.now (sym c.in_default.ensures))

pub returns-in-Some-Some-clause-value : goal.returns-in-Some-Some-clause-value
returns-in-Some-Some-clause-value c =
    sym (pair-at c.args.text.now c.in-Some.at (sym c.in-Some.ensures) ∙ some-pair _ _ _ _ (sym c.in-Some-Some.ensures.value) (sym c.in-Some-Some.ensures'.value))

pub returns-in_default-2-clause-value : goal.returns-in_default-2-clause-value
returns-in_default-2-clause-value c = sym (pair-at c.args.text.now c.in-Some.at (sym c.in-Some.ensures) ∙ second-missing _ _ (sym c.in_default-2.ensures'.value))

pub returns-in_default-2-2-clause-value : goal.returns-in_default-2-2-clause-value
returns-in_default-2-2-clause-value c = sym (pair-at c.args.text.now c.in-Some.at (sym c.in-Some.ensures) ∙ first-missing _ _ (sym c.number.ensures.value ∙ c.in_default-2.is-0))
