use Rattle.std.proofs.Common.{ℕ, List}
use Rattle.toml.specs.View.{members_view}
use Rattle.zmeta_catalogues.specs.Mistakes.{unknown_keys, AreErrorsOf}
use Rattle.zmeta_catalogues.proofs.Growing.{Growing}
use Rattle.zmeta_catalogues.proofs.mistakes.put_unknown.Given as goal

abbrev pub invariant-members : goal.invariant-members
invariant-members l =
    (text : List ℕ)
    → Growing (AreErrorsOf text (unknown_keys l.site.name l.kind (members_view l.word-iterator)))
    (AreErrorsOf text (unknown_keys l.site.name l.kind (members_view l.table.entries))) l.fn.found.items l.found.items
