use Rattle.std.proofs.Common.{◌≡◌, map, take}
use Rattle.zmeta_searches.specs.Terms.{terms_shown}
use Rattle.zmeta_catalogue_files.specs.Options.{put_term, put_terms}
use Rattle.zmeta_catalogue_files.proofs.options.put_terms.Given as goal

abbrev pub invariant-loop-term : goal.invariant-loop-term
invariant-loop-term l = put_terms l.terms.items ≡ map put_term (terms_shown (take l.term-index l.given))
