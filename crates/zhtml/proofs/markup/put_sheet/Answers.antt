use Rattle.std.proofs.Common.{◌≡◌, ◌++◌, sym, ap, ◌∙◌, string_bytes}
use Rattle.std.specs.Str.{encode_utf8_all}
use Rattle.std.proofs.lemmas.List.{map-id}
use Rattle.std.proofs.lemmas.Iterator.{YieldsList-from_chars}
use Rattle.std.proofs.lemmas.Iterator.Consumers.{YieldsList-end}
use Rattle.zhtml.specs.Markup.{sheet}
use Rattle.zhtml.proofs.TextTheory.{kept, sheet_more}
use Rattle.zhtml.proofs.markup.put_sheet.Goals as goal

pub loop-c-preserved : goal.loop-c-preserved
loop-c-preserved c =
    sheet_more (string_bytes c.args.out.now) (string_bytes c.loop-c.out) _ c.loop-c.yielded c.in-Some.c
    c.loop-c.invariant c.in_ok-put_style_char.ensures

pub returns : goal.returns
unfolding sheet
returns c =
    let ended = YieldsList-end (YieldsList-from_chars c.args.text.now c.utf8.text cc) c.loop-c.yielded _
    c.loop-c.yielded_by _ _ c.in-None.is c.next.ensures.steps in
    c.loop-c.invariant
    ∙ ap (λ l. string_bytes c.args.out.now ++ encode_utf8_all (kept l)) (sym (map-id c.loop-c.yielded) ∙ ended.0)
