use Rattle.std.proofs.Common.{sym, subst}
use Rattle.zmeta_searches.specs.Searches.{search_of}
use Rattle.zmeta_commands.specs.Worlds.{SearchedResult}
use Rattle.zmeta_commands.proofs.Asking.{told_as}
use Rattle.zmeta_commands.proofs.worlds.searched_by.Goals as goal

pub returns-clause-search : goal.returns-clause-search
returns-clause-search c =
    let asked = subst (λ s. SearchedResult s c.args.octets.now c.searched_in-answer.result) c.requires.same
    c.searched_in-answer.ensures.search in
    subst (λ r. SearchedResult (search_of c.args.search.now) c.args.octets.now r) (sym c.of_options.ensures)
    (told_as c.args.search.now c.args.octets.now c.searched_in-answer.result asked)
