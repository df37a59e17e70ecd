use Rattle.std.proofs.Common.{drop}
use Rattle.toml.specs.View.{table_view}
use Rattle.zmeta_catalogues.specs.Mistakes.{AreTermsFaults}
use Rattle.zmeta_catalogues.proofs.Growing.{Growing}
use Rattle.zmeta_catalogues.proofs.setting_faults.put_terms.Given as goal

abbrev pub invariant-keys : goal.invariant-keys
invariant-keys l =
    Growing (AreTermsFaults (table_view l.terms) (drop l.key-index l.keys)) (AreTermsFaults (table_view l.terms) l.keys)
    l.fn.faults.items l.faults.items
