use Rattle.std.proofs.Common.{◌≡◌, ◌++◌, take}
use Rattle.zmeta_searches.specs.Texts.{isbn_text}
use Rattle.zmeta_searches.proofs.texts.put_isbn.Given as goal

abbrev pub invariant-loop-octet : goal.invariant-loop-octet
invariant-loop-octet l = l.text.items ≡ l.fn.text.items ++ isbn_text (take l.octet-index l.octets)
