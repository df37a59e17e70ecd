use Rattle.std.proofs.Common.{refl, arith}
use Rattle.std.proofs.lemmas.Str.Pattern.{split_once_first}
use Rattle.zmeta_searches.proofs.Hyphens.{no_hyphen}
use Rattle.zmeta_searches.proofs.years.span_of.Goals as goal

pub returns-in-None : goal.returns-in-None
returns-in-None c =
    let none = rw c.in-None.is at (split_once_first 45 c.args.text.now _ c.split_once.ensures.cases (omega arith)) in
    rw (no_hyphen c.args.text.now none) refl
