use Rattle.std.proofs.Common.{◌≡◌, ap, ◌∙◌}
use Rattle.std.specs.Prelude.{map}
use Rattle.std.specs.Str.Lines.{lines}
use Rattle.std.specs.Str.{encode_utf8_all}
use Rattle.std.proofs.lemmas.Iterator.Consumers.{YieldsList-end}
use Rattle.std.proofs.lemmas.Iterator.Splits.{YieldsList-from_lines}
use Rattle.zmarc.specs.declared.charset.Charset.TheVariants.{Utf8}
use Rattle.zmarc.specs.Charsets.{characters, text}
use Rattle.zknow_titles.proofs.wholes.text_lines.Goals as goal

pub returns : goal.returns
returns c =
    let whole = c.as_str.result.now in
    let ended = YieldsList-end (YieldsList-from_lines whole cc) c.loop-shown.yielded _ c.loop-shown.yielded_by _ _
    c.in-None.is c.next.ensures.steps in
    let is : whole ≡ encode_utf8_all (characters c.args.charset c.args.octets.now) =
    c.as_str.ensures.value ∙ c.in_ok-text.ensures in
    c.loop-shown.invariant ∙ ap (map (text Utf8)) (ended.0 ∙ ap lines is)
