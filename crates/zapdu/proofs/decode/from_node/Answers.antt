use Rattle.std.proofs.Common.{Err, sym, subst}
use Rattle.zber.proofs.Runs.{seen_cons}
use Rattle.zasn.specs.declared.error.PartError.{PartError}
use Rattle.zasn.specs.declared.error.PartError.TheVariants.{Misfit}
use Rattle.zasn.specs.Results.{ReadingResult}
use Rattle.zapdu.specs.Writes.{apdu_at}
use Rattle.zapdu.proofs.Decoding.{decodes_ok, decodes_malformed}
use Rattle.zapdu.proofs.decode.from_node.Goals as goal

pub returns-in-Ok : goal.returns-in-Ok
returns-in-Ok c =
    decodes_ok c.args.node.now c.node.inside.tag c.in-Cons.nodes.items c.in-Some.kind c.in-Ok.apdu
    (seen_cons c.node.inside c.args.node.now c.in-Cons.nodes c.node.view_is c.in-Cons.is) (sym c.in-Some.ensures) (rw (c.new-parts.ensures, c.as_slice.ensures.value) at c.in-Ok.ensures)

pub returns-in-Err-Misfit : goal.returns-in-Err-Misfit
returns-in-Err-Misfit c =
    let read : ReadingResult (apdu_at c.in-Some.kind c.new-parts.result) (Err Misfit) c.apdu_of.new.parts = subst (λ (e : PartError). ReadingResult (apdu_at c.in-Some.kind c.new-parts.result) (Err e) c.apdu_of.new.parts) c.in-Err-Misfit.field-0-is c.in-Err-Misfit.ensures in
    let all = decodes_malformed c.args.node.now c.node.inside.tag c.in-Cons.nodes.items c.apdu_of.new.parts c.in-Some.kind
    (seen_cons c.node.inside c.args.node.now c.in-Cons.nodes c.node.view_is c.in-Cons.is) (sym c.in-Some.ensures) (rw (c.new-parts.ensures, c.as_slice.ensures.value) at read) in
    rw (c.saturating_sub-at.ensures, c.len-all.ensures, c.len-left.ensures, c.new-parts.ensures, c.as_slice.ensures.value) all
