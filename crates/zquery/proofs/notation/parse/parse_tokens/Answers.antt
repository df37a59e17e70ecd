use Rattle.std.proofs.Common.{◌≡◌, sym, ◌∙◌, ap, ◌∷◌, [], drop, inl, inr, Some, Ok}
use Rattle.zquery.specs.Notation.Table.{expected_after, fault_left, below_limit}
use Rattle.zquery.specs.Notation.Reading.{query_set_at}
use Rattle.zquery.proofs.NotationTheory.Opening.{none-force, refused-on, read-whole}
use Rattle.zquery.proofs.notation.parse.parse_tokens.Goals as goal

pub returns-in-Err-clause-err : goal.returns-in-Err-clause-err
returns-in-Err-clause-err c =
    let all : c.args.tokens.now ≡ c.in-Some.field-0.now ∷ drop 1 c.new-cursor.result = sym c.new-cursor.ensures ∙ c.in-Some.ensures.some in
    let first_expected : query_set_at c.args.end c.args.tokens.now ≡ Ok (c.in_ok-own.own, c.query_set.new.cursor) = ap (query_set_at c.args.end) (sym c.new-cursor.ensures) ∙ c.in_ok-own.ensures in
    elim (c.in-Err.ensures.err []) [ inl m ↦ inl m | inr f ↦ inr (refused-on c.args.end c.args.tokens.now _ _ _ _ all first_expected ∙ f) ]

pub returns-in-None-clause-ok : goal.returns-in-None-clause-ok
returns-in-None-clause-ok c =
    let all : c.args.tokens.now ≡ c.in-Some.field-0.now ∷ drop 1 c.new-cursor.result = sym c.new-cursor.ensures ∙ c.in-Some.ensures.some in
    let first_expected : query_set_at c.args.end c.args.tokens.now ≡ Ok (c.in_ok-own.own, c.query_set.new.cursor) = ap (query_set_at c.args.end) (sym c.new-cursor.ensures) ∙ c.in_ok-own.ensures in
    read-whole c.args.end c.args.tokens.now _ _ _ _ _ _ all first_expected (c.in-Ok.ensures.ok [] none-force) c.in-None.ensures.none.0

pub returns-in-Some-next-clause-err : goal.returns-in-Some-next-clause-err
returns-in-Some-next-clause-err c =
    let all : c.args.tokens.now ≡ c.in-Some.field-0.now ∷ drop 1 c.new-cursor.result = sym c.new-cursor.ensures ∙ c.in-Some.ensures.some in
    let first_expected : query_set_at c.args.end c.args.tokens.now ≡ Ok (c.in_ok-own.own, c.query_set.new.cursor) = ap (query_set_at c.args.end) (sym c.new-cursor.ensures) ∙ c.in_ok-own.ensures in
    inr (refused-on c.args.end c.args.tokens.now _ _ _ _ all first_expected ∙ ap (fault_left c.args.end) (c.in-Ok.ensures.expected [] ∙ ap (λ ts. expected_after below_limit ts []) c.in-Some-next.ensures.some) ∙ ap Some (sym c.error_of.ensures))
