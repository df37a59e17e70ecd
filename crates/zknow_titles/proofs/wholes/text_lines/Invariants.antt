use Rattle.std.proofs.Common.{◌≡◌, map, string_bytes}
use Rattle.zmarc.specs.declared.charset.Charset.TheVariants.{Utf8}
use Rattle.zmarc.specs.Charsets.{text}
use Rattle.zknow_titles.proofs.wholes.text_lines.Given as goal

abbrev pub invariant-loop-shown : goal.invariant-loop-shown
invariant-loop-shown l = map string_bytes l.lines.items ≡ map (text Utf8) (map (λ x. x.now) l.yielded)
