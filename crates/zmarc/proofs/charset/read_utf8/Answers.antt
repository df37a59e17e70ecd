use Rattle.std.proofs.Common.{◌≡◌, sym, ap, ◌∙◌}
use Rattle.std.specs.Str.{chars}
use Rattle.std.specs.Str.Lossy.{utf8_lossy}
use Rattle.std.proofs.lemmas.List.{map-id}
use Rattle.std.proofs.lemmas.Iterator.{YieldsList-from_chars}
use Rattle.std.proofs.lemmas.Iterator.Consumers.{YieldsList-end}
use Rattle.zmarc.proofs.charset.read_utf8.Goals as goal

pub returns : goal.returns
returns c =
    let spelled = c.as_str.result.now in
    let ended = YieldsList-end (YieldsList-from_chars spelled c.as_str.utf8 cc) c.loop-c.yielded _ c.loop-c.yielded_by _ _
    c.in-None.is c.next.ensures.steps in
    let text : spelled ≡ utf8_lossy c.args.octets.now = c.as_str.ensures.value ∙ c.in_ok-text.ensures.lossy in
    c.loop-c.invariant ∙ sym (map-id c.loop-c.yielded) ∙ ended.0 ∙ ap chars text
