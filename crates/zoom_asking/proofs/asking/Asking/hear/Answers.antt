use Rattle.std.proofs.Common.{◌<◌, ◌∙◌, sym, subst, length, refl, ap, arith}
use Rattle.std.proofs.lemmas.Option.{slice_get_read}
use Rattle.zoom_asking.specs.Steps.{IsExtended}
use Rattle.zoom_asking.specs.Talks.{IsHeard}
use Rattle.zoom_asking.proofs.TalkedOn.{talked_on}
use Rattle.zoom_asking.proofs.asking.Asking.hear.Goals as goal

pub returns-clause-talked : goal.returns-clause-talked
returns-clause-talked c =
    let old = c.args.self.now in
    let before = c.index_mut-unsent.result.now in
    let after = c.hear.new.unsent in
    let lt : c.args.c < length old.unsent.items = let h = old.held in let r = c.requires in omega arith in
    talked_on c.args.c (IsHeard c.args.piece.now) c.args.lost old _ before after c.len-waited.result c.len-waits.result
    c.is_to_send.result
    (slice_get_read old.unsent.items (length old.unsent.items) c.args.c before refl lt c.index_mut-unsent.ensures.value)
    (ap (λ u. u.items) c.in_ok-send_if.ensures.unsent) (c.len-waited.ensures ∙ before.ok.0)
    (c.len-waits.ensures ∙ after.ok.0)
    (subst (λ m. IsExtended c.args.c (IsHeard c.args.piece.now) old.meta m before.items after.items)
    (sym c.in_ok-send_if.ensures.meta)
    c.in_ok-hear.ensures.heard)
    c.is_to_send.ensures c.in_ok-send_if.ensures.put
