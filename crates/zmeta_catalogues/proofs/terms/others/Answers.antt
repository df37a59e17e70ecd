use mir.Val.{SFits}
use Rattle.std.proofs.Common.{w64, ◌≡◌, ◌∙◌, ◌∷◌, ◌++◌, [], List, length, sym, ap, rules, arith}
use Rattle.std.specs.Vec.Iter.{into_iter_items}
use Rattle.zquery_rpn.specs.declared.query.Attr.{Attr}
use Rattle.zmeta_catalogues.specs.Terms.{others}
use Rattle.zmeta_catalogues.proofs.Others.{one_kept, one_left, none_left, other_kind, same_kind, nothing_left}
use Rattle.zmeta_catalogues.proofs.terms.others.Goals as goal

pub attrs-init : goal.attrs-init
attrs-init c = record {
  same =
      ap (λ (ks : List Attr). ks ++ others c.args.more.now (into_iter_items c.into_iter-attr-iterator.result))
      c.new-kept.ensures.items;
  left = search rules;
}

pub attrs-preserved-in-Continue-1 : goal.attrs-preserved-in-Continue-1
attrs-preserved-in-Continue-1 c =
    let at = c.attrs in
    let more = c.args.more.now in
    let attr = c.in-Some.attr in
    let rest = into_iter_items c.next.new.self in
    let steps : into_iter_items at.attr-iterator ≡ attr ∷ rest = c.in-Some.ensures.steps.0 in record {
      same =
          ap (λ (ks : List Attr). ks ++ others more rest) c.in_ok-push.ensures.items
          ∙ one_kept more attr at.kept.items (into_iter_items at.attr-iterator) rest
          (others more (into_iter_items c.into_iter-attr-iterator.result)) steps
          (other_kind attr.kind more.kind c.if-attr-more.true) at.invariant.same;
      left =
          let was = at.invariant.left in
          let gone = c.in-Some.ensures.steps.1 in
          let short = ap length steps in
          omega arith;
    }

pub attrs-preserved : goal.attrs-preserved
attrs-preserved c =
    let at = c.attrs in
    let more = c.args.more.now in
    let attr = c.in-Some.attr in
    let rest = into_iter_items c.next.new.self in
    let fits : SFits w64 attr.kind = search rules in
    let fits_too : SFits w64 more.kind = search rules in
    let steps : into_iter_items at.attr-iterator ≡ attr ∷ rest = c.in-Some.ensures.steps.0 in record {
      same =
          one_left more attr at.kept.items (into_iter_items at.attr-iterator) rest
          (others more (into_iter_items c.into_iter-attr-iterator.result)) steps
          (same_kind attr.kind more.kind fits fits_too c.if-attr-more.false) at.invariant.same;
      left =
          let was = at.invariant.left in
          let gone = c.in-Some.ensures.steps.1 in
          let short = ap length steps in
          omega arith;
    }

pub returns : goal.returns
returns c =
    let at = c.attrs in
    let more = c.args.more.now in
    let none = c.in-None.ensures.steps in
    let empty : into_iter_items at.attr-iterator ≡ [] = nothing_left _ (sym at.invariant.left ∙ none.0) in
    none_left more at.kept.items (into_iter_items at.attr-iterator)
    (others more (into_iter_items c.into_iter-attr-iterator.result)) empty at.invariant.same
    ∙ ap (others more) c.into_iter-attr-iterator.ensures.into_iter_gives.0
