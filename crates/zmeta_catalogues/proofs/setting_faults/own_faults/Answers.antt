use Rattle.toml.specs.View.{table_view}
use Rattle.zmeta_catalogues.specs.declared.fault.Key.TheVariants as keys
use Rattle.zmeta_catalogues.specs.Addresses.{address_of}
use Rattle.zmeta_catalogues.specs.Catalogues.{databases_of}
use Rattle.zmeta_catalogues.specs.Mistakes.{own_value}
use Rattle.zmeta_catalogues.proofs.SettingFaults.{read_fault, own_put}
use Rattle.zmeta_catalogues.proofs.setting_faults.own_faults.Goals as goal

pub returns : goal.returns
returns c =
    let own = table_view c.args.own.now in
    let o = c.new-faults.result.items in
    let p = c.put_stop.new.faults.items in
    let q = c.put_stop-2.new.faults.items in
    own_put own (table_view c.args.top.now) o p q c.put_settings.new.faults.items c.put_own_terms.new.faults.items
    c.put_own_query.new.faults.items c.new-faults.ensures.items
    (read_fault (address_of (own_value keys.Address own)) c.address_at.result o p c.address_at.ensures
    c.in_ok-put_stop.ensures)
    (read_fault (databases_of (own_value keys.Database own)) c.databases_at.result p q c.databases_at.ensures
    c.in_ok-put_stop-2.ensures)
    c.in_ok-put_settings.ensures c.in_ok-put_own_terms.ensures c.in_ok-put_own_query.ensures
