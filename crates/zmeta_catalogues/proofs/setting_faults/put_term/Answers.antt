use Rattle.toml.specs.View.{table_view}
use Rattle.zmeta_catalogues.specs.Catalogues.{text_at}
use Rattle.zmeta_catalogues.specs.Operands.{HasPrefix, IsGivenPrefixFault}
use Rattle.zmeta_catalogues.proofs.SettingFaults.{term_put, unread_put}
use Rattle.zmeta_catalogues.proofs.setting_faults.put_term.Goals as goal

pub returns-in-Ok : goal.returns-in-Ok
returns-in-Ok c =
    term_put (table_view c.args.terms.now) c.args.key c.in-Ok.text c.check_prefix.result c.put_stop.result
    c.args.faults.now.items c.put_stop.new.faults.items c.in-Ok.ensures c.check_prefix.ensures.ok
    c.check_prefix.ensures.err c.put_stop.ensures

pub returns-in-Err : goal.returns-in-Err
returns-in-Err c =
    unread_put HasPrefix (IsGivenPrefixFault c.args.key) (text_at c.args.key (table_view c.args.terms.now))
    c.in-Err.stop c.put_fault.result c.args.faults.now.items c.put_fault.new.faults.items c.in-Err.ensures
    c.put_fault.ensures
