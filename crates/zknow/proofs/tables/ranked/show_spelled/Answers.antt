use Rattle.zknow.proofs.SavedTheory.Spelled.{default_spelled, external_spelled}
use Rattle.zknow.proofs.tables.ranked.show_spelled.Goals as goal

pub returns-in-Default : goal.returns-in-Default
returns-in-Default c = rw c.in-Default.is (default_spelled c.in-Default.default c.oid_fits.ensures c.number_fits.ensures)

pub returns-in-Ext : goal.returns-in-Ext
returns-in-Ext c = rw c.in-Ext.is (external_spelled c.in-Ext.external c.each_oid_fits.ensures c.each_number_fits.ensures)
