use Rattle.std.proofs.Common.{◌++◌, ap, ◌∙◌}
use Rattle.std.specs.Prelude.{codes}
use Rattle.std.specs.Fmt.{signed_decimal}
use Rattle.zapdu.specs.declared.productions.diagnostic.DiagRec.{DiagRec}
use Rattle.zapdu.specs.Text.{diag_text}
use Rattle.zknow.specs.List.Listing.{line}
use Rattle.zknow.proofs.TableTheory.AtKeys.{flat_written}
use Rattle.zknow.proofs.list.put_diags.Goals as goal

pub loop-diag-preserved : goal.loop-diag-preserved
loop-diag-preserved c =
    let text = λ (d : DiagRec). line c.args.names.now c.args.key.now (codes " diag " ++ signed_decimal c.args.place.now ++ codes " " ++ diag_text d) in
    flat_written text c.args.diags.now c.loop-diag.diag-index c.diag-item.result c.args.out.now.items c.loop-diag.out.items c.put_diag.new.out.items c.loop-diag-test.true c.loop-diag.invariant
    (c.in_ok-put_diag.ensures ∙ ap (λ d. c.loop-diag.out.items ++ text d) (c.diag.ensures ∙ c.diag-item.is))
