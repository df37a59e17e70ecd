use Rattle.toml.specs.View.{members_view, table_view}
use Rattle.zmeta_catalogues.specs.Mistakes.{AreMistakesIn, AreErrors}
use Rattle.zmeta_catalogues.proofs.Growing.{Growing}
use Rattle.zmeta_catalogues.proofs.mistakes.put_members.Given as goal

abbrev pub invariant-members : goal.invariant-members
invariant-members l =
    Growing (AreErrors l.source.text.now (AreMistakesIn (table_view l.top) (members_view l.name-iterator)))
    (AreErrors l.source.text.now (AreMistakesIn (table_view l.top) (members_view l.top.entries))) l.fn.found.items
    l.found.items
