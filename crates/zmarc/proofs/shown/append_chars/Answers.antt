use Rattle.std.proofs.Common.{◌++◌, sym, ap, ◌∙◌}
use Rattle.std.specs.String.{string_bytes}
use Rattle.std.proofs.lemmas.List.{append-nil}
use Rattle.zmarc.proofs.ShownTheory.{shown_text_nil, shown_more}
use Rattle.zmarc.proofs.shown.append_chars.Goals as goal

pub loop-c-init : goal.loop-c-init
loop-c-init c =
    let line = string_bytes c.args.line.now in sym (ap (λ l. line ++ l) shown_text_nil ∙ append-nil line)

pub loop-c-preserved : goal.loop-c-preserved
loop-c-preserved c =
    shown_more c.args.cs.now c.loop-c.c-index c.c-item.result (string_bytes c.args.line.now) _ c.loop-c-test.true
    (sym c.c-item.is) _ c.loop-c.invariant c.in_ok-put_char.ensures.ok
