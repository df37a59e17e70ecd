use Rattle.toml.specs.View.{table_view}
use Rattle.zmeta_catalogues.specs.declared.fault.Key.TheVariants as keys
use Rattle.zmeta_catalogues.specs.Values.{query_of}
use Rattle.zmeta_catalogues.specs.Operands.{HasQuery, IsGivenQueryFault}
use Rattle.zmeta_catalogues.specs.Mistakes.{own_value}
use Rattle.zmeta_catalogues.proofs.SettingFaults.{query_put, unread_put}
use Rattle.zmeta_catalogues.proofs.setting_faults.put_query.Goals as goal

pub returns-in-Ok : goal.returns-in-Ok
returns-in-Ok c =
    query_put c.args.charset (own_value keys.Query (table_view c.args.own.now)) c.in-Ok.text c.check_query.result
    c.put_stop.result c.args.faults.now.items c.put_stop.new.faults.items c.in-Ok.ensures c.check_query.ensures.ok
    c.check_query.ensures.err c.put_stop.ensures

pub returns-in-Err : goal.returns-in-Err
returns-in-Err c =
    unread_put HasQuery IsGivenQueryFault
    (query_of c.args.charset (own_value keys.Query (table_view c.args.own.now))) c.in-Err.stop c.put_fault.result
    c.args.faults.now.items c.put_fault.new.faults.items c.in-Err.ensures c.put_fault.ensures
