use Rattle.std.proofs.Common.{sym, subst}
use Rattle.zmeta_world.specs.Search.{AreAskedBy, search_texts}
use Rattle.zmeta_world.proofs.Searching.{fit_with}
use Rattle.zmeta_world.proofs.world.World.with_search.Goals as goal

pub returns-clause-fit : goal.returns-clause-fit
returns-clause-fit c =
    let s = search_texts c.args.search.now in
    let asked = subst (λ z. AreAskedBy s z c.in_ok-questions.questions.items) c.into_vec.ensures c.in_ok-questions.ensures.ok in
    fit_with s c.args.self c.from_vec.result c.requires
    (subst (AreAskedBy s c.args.self.questions) (sym c.from_vec.ensures) asked)
