use Rattle.std.proofs.Common.{◌≡◌, ◌++◌, take}
use Rattle.zmeta_args.specs.Texts.{texts_of}
use Rattle.zmeta_searches.specs.Terms.{terms_shown}
use Rattle.zmeta_searches.specs.Asked.{terms_under}
use Rattle.zmeta_searches.proofs.asked.put_terms.Given as goal

abbrev pub invariant-loop-text : goal.invariant-loop-text
invariant-loop-text l = terms_shown l.terms.items
    ≡ terms_shown l.fn.terms.items ++ terms_under l.access (texts_of (take l.text-index l.texts))
