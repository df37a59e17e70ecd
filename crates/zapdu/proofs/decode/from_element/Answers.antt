use Rattle.std.proofs.Common.{◌∙◌, ap, refl, sym}
use Rattle.zber.proofs.Runs.{seen_cons}
use Rattle.zapdu.proofs.Decoding.{taken_ok, taken_malformed}
use Rattle.zapdu.proofs.decode.from_element.Goals as goal

pub returns-in-Ok : goal.returns-in-Ok
returns-in-Ok c =
    taken_ok c.args.node c.node.inside.tag c.in-Cons.nodes.items _ c.in-Some.kind c.take_apdu-answer.result.0 c.take_apdu-answer.result.1 c.in-Ok.apdu
    (seen_cons c.node.inside c.args.node c.in-Cons.nodes c.node.view_is c.in-Cons.is) (sym c.in-Some.ensures) (ap (λ v. v.items) c.in-Cons.nodes-is) c.take_apdu-answer.ensures c.in-Ok.is

pub returns-in-Err-Misfit : goal.returns-in-Err-Misfit
returns-in-Err-Misfit c =
    taken_malformed c.args.node c.node.inside.tag c.in-Cons.nodes.items _ c.as_slice-all.result.now c.in-Some.kind c.take_apdu-answer.result.0 c.in-Err-Misfit.field-0 _ c.take_apdu-answer.result.1 c.saturating_sub-at.result
    (seen_cons c.node.inside c.args.node c.in-Cons.nodes c.node.view_is c.in-Cons.is) (sym c.in-Some.ensures) (ap (λ v. v.items) c.in-Cons.nodes-is) c.take_apdu-answer.ensures c.in-Err-Misfit.is
    (rw c.in-Err-Misfit.is at c.in-Err-Misfit.field-0-is) (c.as_slice-all.ensures.value ∙ ap (λ v. v.items) c.in-Cons.nodes-is) refl c.saturating_sub-at.ensures
