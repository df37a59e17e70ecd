use Rattle.std.proofs.Common.{◌≡◌, ◌∙◌, true, sym, subst}
use Rattle.zmeta_offline.specs.Names.{is_among}
use Rattle.zmeta_offline.proofs.Choosing.{known_more}
use Rattle.zmeta_offline.proofs.names.first_unknown.Goals as goal

pub loop-text-preserved : goal.loop-text-preserved
loop-text-preserved c =
    let known = sym c.is_among.ensures ∙ c.if-not-is_among.false in
    known_more c.args.only.now c.args.names.now c.loop-text.text-index _
    (subst (λ z. is_among c.args.names.now z ≡ true) c.as_bytes.ensures.value known) c.loop-text.invariant
