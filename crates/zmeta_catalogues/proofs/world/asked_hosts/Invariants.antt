use Rattle.zmeta_catalogues.specs.Asked.{asked_search}
use Rattle.zmeta_catalogues.specs.Asking.{AreAskedTo}
use Rattle.zmeta_catalogues.proofs.world.asked_hosts.Given as goal

abbrev pub invariant-catalogues : goal.invariant-catalogues
invariant-catalogues l =
    AreAskedTo (asked_search l.search) l.catalogues l.at l.hosts.items l.questions.items
