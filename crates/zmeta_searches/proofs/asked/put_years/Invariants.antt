use Rattle.std.proofs.Common.{◌≡◌, ◌++◌, take}
use Rattle.std.specs.List.{flat_map}
use Rattle.zmeta_args.specs.Texts.{texts_of}
use Rattle.zmeta_searches.specs.Terms.{terms_shown}
use Rattle.zmeta_searches.specs.Years.{year_terms}
use Rattle.zmeta_searches.proofs.asked.put_years.Given as goal

abbrev pub invariant-loop-text : goal.invariant-loop-text
invariant-loop-text l = terms_shown l.terms.items
    ≡ terms_shown l.fn.terms.items ++ flat_map year_terms (texts_of (take l.text-index l.texts))
