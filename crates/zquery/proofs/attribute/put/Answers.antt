use Rattle.std.proofs.Common.{◌≡◌, ◌∙◌, sym, ap, List, Some}
use Rattle.std.proofs.Math.ListN.{set}
use Rattle.std.specs.List.{position}
use Rattle.zquery_rpn.specs.declared.query.Attr.{Attr}
use Rattle.zquery.specs.InForce.{alike}
use Rattle.zquery.proofs.PutLemmas.{put-found, put-new, valued}
use Rattle.zquery.proofs.attribute.put.Goals as goal

pub returns-in-Some : goal.returns-in-Some
returns-in-Some c =
    let a : Attr = c.args.attr in
    let xs : List Attr = c.args.attrs.now.items in
    let found : position (λ b. alike b a) xs ≡ Some c.in-Some.at = ap (position (λ b. alike b a)) (sym c.deref.ensures.value) ∙ sym c.in-Some.ensures in
    ap (λ (b : Attr). set xs c.in-Some.at (valued b a)) c.index_mut.ensures.value ∙ sym (put-found a xs c.in-Some.at c.index_mut.result.now found)

pub returns-in_ok-push-in-None : goal.returns-in_ok-push-in-None
returns-in_ok-push-in-None c =
    let a : Attr = c.args.attr in
    c.in_ok-push-in-None.ensures.items ∙ sym (put-new a c.args.attrs.now.items (ap (position (λ b. alike b a)) (sym c.deref.ensures.value) ∙ sym c.in-None.ensures))
