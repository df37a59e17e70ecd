use Rattle.std.proofs.Common.{refl}
use Rattle.toml.specs.View.{table_view}
use Rattle.zmeta_catalogues.specs.declared.fault.Key.TheVariants as keys
use Rattle.zmeta_catalogues.specs.Values.{charset_of, value_of}
use Rattle.zmeta_catalogues.specs.Mistakes.{own_value}
use Rattle.zmeta_catalogues.proofs.SettingFaults.{own_query_put, no_query_put}
use Rattle.zmeta_catalogues.proofs.setting_faults.put_own_query.Goals as goal

pub returns-in-Ok : goal.returns-in-Ok
returns-in-Ok c =
    own_query_put (charset_of (value_of keys.Charset (table_view c.args.own.now) (table_view c.args.top.now)))
    c.in-Ok.charset (own_value keys.Query (table_view c.args.own.now)) c.put_query.result c.args.faults.now.items
    c.put_query.new.faults.items c.in-Ok.ensures c.put_query.ensures

pub returns-in-Err-Fault : goal.returns-in-Err-Fault
returns-in-Err-Fault c =
    no_query_put (charset_of (value_of keys.Charset (table_view c.args.own.now) (table_view c.args.top.now))) _
    (own_value keys.Query (table_view c.args.own.now)) c.args.faults.now.items c.args.faults.now.items
    (rw c.in-Err-Fault.field-0-is at c.in-Err-Fault.ensures) refl
