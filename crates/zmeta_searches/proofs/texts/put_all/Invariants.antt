use Rattle.std.proofs.Common.{◌≡◌, ◌++◌, take}
use Rattle.std.specs.List.{flat_map}
use Rattle.zmeta_searches.specs.Terms.{terms_shown}
use Rattle.zmeta_searches.specs.Texts.{term_text}
use Rattle.zmeta_searches.proofs.texts.put_all.Given as goal

abbrev pub invariant-loop-term : goal.invariant-loop-term
invariant-loop-term l =
    l.text.items ≡ l.fn.text.items ++ flat_map term_text (terms_shown (take l.term-index l.terms))
