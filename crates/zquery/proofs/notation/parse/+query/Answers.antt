use Rattle.std.proofs.Common.{◌≡◌, ◌∙◌, sym, ap, ap₂, subst, ◌∷◌, arith}
use Rattle.zquery.specs.declared.notation.word.TokenKind.TheVariants.{Op, NamedSet, Plain}
use Rattle.zquery_rpn.specs.Trees.{Tree, Of}
use Rattle.zquery_rpn.specs.QueryTrees.{rpn_tree}
use Rattle.zquery.specs.Notation.Words.{token_kind}
use Rattle.zquery.specs.Notation.Reading.{IsReadPhrase}
use Rattle.zquery.proofs.NotationTheory.Leading.{read-term, read-set, read-both}
use Rattle.zquery.proofs.notation.parse.+query.Goals as goal

pub returns-in_ok-right-in-Op-clause-ok : goal.returns-in_ok-right-in-Op-clause-ok
returns-in_ok-right-in-Op-clause-ok t c = λ xs e.
    let l = c.in_ok-kind.ensures.ok xs (c.in_ok-attrs.ensures ∙ e) in
    let w : token_kind c.in-Some.token.now ≡ Op c.in-Op.operator = sym c.in-Op.ensures in
    let left = c.in_ok-first-in-Op.ensures.ok l.below (c.as_slice.ensures.value ∙ l.forces) in
    let right = c.in_ok-second-in-Op.ensures.ok l.below (c.as_slice-in-Op.ensures.value ∙ l.forces) in
    subst (λ (q : Tree). IsReadPhrase c.args.own.now xs c.args.kind c.args.level c.args.cursor.now c.query-in-Op.new.cursor q) (sym (c.join.ensures ∙ ap₂ (λ a b. Of c.in-Op.operator (rpn_tree a) (rpn_tree b)) c.in_ok-left-in-Op.ensures.ok c.in_ok-right-in-Op.ensures.ok))
    (read-both _ _ _ _ _ _ c.in-Some.token.now c.in-Op.operator _ _ _ _ c.args.level _ _ l c.in-Some.ensures.some w left right)

pub returns-in_ok-set-in-NamedSet-clause-ok : goal.returns-in_ok-set-in-NamedSet-clause-ok
returns-in_ok-set-in-NamedSet-clause-ok t c = λ xs e.
    let l = c.in_ok-kind.ensures.ok xs (c.in_ok-attrs.ensures ∙ e) in
    let w : token_kind c.in-Some.token.now ≡ NamedSet = sym c.in-NamedSet.ensures in
    let m = c.in-Some.ensures.some ∙ ap (λ ts. c.in-Some.token.now ∷ ts) c.in-Some-next.ensures.some in
    subst (λ (q : Tree). IsReadPhrase c.args.own.now xs c.args.kind c.args.level c.args.cursor.now c.next-in-NamedSet.new.self q) (sym c.in_ok-set-in-NamedSet.ensures)
    (read-set _ _ _ _ _ _ c.in-Some.token.now c.in-Some-next.name.now _ _ c.args.level l m w (omega arith))

pub returns-in_ok-term-in-Plain-clause-ok : goal.returns-in_ok-term-in-Plain-clause-ok
returns-in_ok-term-in-Plain-clause-ok t c = λ xs e.
    let l = c.in_ok-kind.ensures.ok xs (c.in_ok-attrs.ensures ∙ e) in
    let w : token_kind c.in-Some.token.now ≡ Plain = sym c.in-Plain.ensures in
    let v = c.in_ok-term-in-Plain.ensures.ok in
    subst (λ (q : Tree). IsReadPhrase c.args.own.now xs c.args.kind c.args.level c.args.cursor.now c.next.new.self q) (sym v.1.2)
    (read-term _ _ _ _ _ _ c.in-Some.token.now _ _ c.args.level v.1.0 l c.in-Some.ensures.some w v.1.1 v.0)
