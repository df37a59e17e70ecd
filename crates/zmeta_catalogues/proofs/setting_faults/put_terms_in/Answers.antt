use Rattle.toml.specs.Data.{as_table}
use Rattle.toml.specs.View.{view, table_view}
use Rattle.zmeta_catalogues.proofs.SettingFaults.{no_table_put, table_put}
use Rattle.zmeta_catalogues.proofs.setting_faults.put_terms_in.Goals as goal

pub returns-in-Some : goal.returns-in-Some
returns-in-Some c =
    table_put (as_table (view c.args.value.now)) (table_view c.in-Some.terms.now) c.put_terms.result
    c.args.faults.now.items c.put_terms.new.faults.items c.in-Some.ensures c.put_terms.ensures

pub returns-in-None : goal.returns-in-None
returns-in-None c =
    no_table_put (as_table (view c.args.value.now)) c.fault.result c.put_fault.result c.args.faults.now.items
    c.put_fault.new.faults.items c.in-None.ensures c.fault.ensures c.put_fault.ensures
