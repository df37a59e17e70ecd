use Rattle.std.proofs.Common.{◌≡◌, ◌++◌, sym, ap, ◌∙◌, string_bytes}
use Rattle.std.specs.Prelude.{map}
use Rattle.std.specs.Str.{chars, encode_utf8_all}
use Rattle.std.specs.Str.Lossy.{utf8_lossy}
use Rattle.std.proofs.lemmas.List.{append-nil, map-id}
use Rattle.std.proofs.lemmas.Iterator.{YieldsList-from_chars}
use Rattle.std.proofs.lemmas.Iterator.Consumers.{YieldsList-end}
use Rattle.zhtml.specs.Texts.{shown, visible, escaped, text}
use Rattle.zhtml.proofs.TextTheory.{put_more}
use Rattle.zhtml.proofs.texts.put_text.Goals as goal

pub loop-c-init : goal.loop-c-init
unfolding escaped
loop-c-init c = sym (append-nil (string_bytes c.args.out.now))

pub loop-c-preserved : goal.loop-c-preserved
loop-c-preserved c =
    put_more (string_bytes c.args.out.now) (string_bytes c.loop-c.out) _ c.loop-c.yielded c.in-Some.c c.show.result
    c.show.ensures c.loop-c.invariant c.in_ok-put_escaped.ensures

pub returns : goal.returns
unfolding text visible
returns c =
    let spelled = c.as_str.result.now in
    let ended = YieldsList-end (YieldsList-from_chars spelled c.as_str.utf8 cc) c.loop-c.yielded _ c.loop-c.yielded_by _ _
    c.in-None.is c.next.ensures.steps in
    let lossy : spelled ≡ utf8_lossy c.args.octets.now = c.as_str.ensures.value ∙ c.in_ok-read.ensures.lossy in
    c.loop-c.invariant
    ∙ ap (λ l. string_bytes c.args.out.now ++ escaped (encode_utf8_all (map shown l)))
    (sym (map-id c.loop-c.yielded) ∙ ended.0 ∙ ap chars lossy)
