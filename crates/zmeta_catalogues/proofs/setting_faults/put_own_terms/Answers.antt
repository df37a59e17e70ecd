use Rattle.std.proofs.Common.{refl}
use Rattle.toml.specs.View.{view, table_view}
use Rattle.zmeta_catalogues.specs.declared.fault.Key.TheVariants as keys
use Rattle.zmeta_catalogues.specs.Mistakes.{own_value}
use Rattle.zmeta_catalogues.proofs.SettingFaults.{no_terms_put, some_terms_put}
use Rattle.zmeta_catalogues.proofs.setting_faults.put_own_terms.Goals as goal

pub returns-in-Some : goal.returns-in-Some
returns-in-Some c =
    some_terms_put (own_value keys.Terms (table_view c.args.own.now)) (view c.in-Some.value.now) c.put_terms_in.result
    c.args.faults.now.items c.put_terms_in.new.faults.items c.in-Some.ensures c.put_terms_in.ensures

pub returns-in-None : goal.returns-in-None
returns-in-None c =
    no_terms_put (own_value keys.Terms (table_view c.args.own.now)) c.args.faults.now.items c.args.faults.now.items
    c.in-None.ensures refl
