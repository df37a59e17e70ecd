use Rattle.toml.specs.View.{table_view}
use Rattle.zmeta_catalogues.specs.declared.fault.Key.TheVariants as keys
use Rattle.zmeta_catalogues.specs.Values.{text_of, number_of, charset_of, syntax_text_of, records_of}
use Rattle.zmeta_catalogues.specs.Mistakes.{fault_of, own_value}
use Rattle.zmeta_catalogues.proofs.SettingFaults.{read_fault, last_fault, eight_put}
use Rattle.zmeta_catalogues.proofs.setting_faults.put_settings.Goals as goal

pub returns : goal.returns
returns c =
    let ms = table_view c.args.own.now in
    let syntax = syntax_text_of (own_value keys.Syntax ms) in
    let elements = text_of keys.Elements (own_value keys.Elements ms) in
    let records = records_of (own_value keys.Records ms) in
    let step = number_of keys.Step 1000 (own_value keys.Step ms) in
    let window = number_of keys.Window 64 (own_value keys.Window ms) in
    let charset = charset_of (own_value keys.Charset ms) in
    let patience = number_of keys.Patience 3600 (own_value keys.Patience ms) in
    let connect = number_of keys.Connect 3600 (own_value keys.Connect ms) in
    let o = c.args.faults.now.items in
    let p = c.put_stop.new.faults.items in
    let q = c.put_stop-2.new.faults.items in
    let r = c.put_stop-3.new.faults.items in
    let s = c.put_stop-4.new.faults.items in
    let t = c.put_stop-5.new.faults.items in
    let u = c.put_stop-6.new.faults.items in
    let v = c.put_stop-7.new.faults.items in
    let w = c.put_stop-8.new.faults.items in
    eight_put c.put_stop-8.result o p q r s t u v w (fault_of syntax) (fault_of elements) (fault_of records)
    (fault_of step) (fault_of window) (fault_of charset) (fault_of patience) (fault_of connect)
    (read_fault syntax c.syntax_at.result o p c.syntax_at.ensures c.in_ok-put_stop.ensures)
    (read_fault elements c.text_at.result p q c.text_at.ensures c.in_ok-put_stop-2.ensures)
    (read_fault records c.records_at.result q r c.records_at.ensures c.in_ok-put_stop-3.ensures)
    (read_fault step c.number_at.result r s c.number_at.ensures c.in_ok-put_stop-4.ensures)
    (read_fault window c.number_at-2.result s t c.number_at-2.ensures c.in_ok-put_stop-5.ensures)
    (read_fault charset c.charset_at.result t u c.charset_at.ensures c.in_ok-put_stop-6.ensures)
    (read_fault patience c.number_at-3.result u v c.number_at-3.ensures c.in_ok-put_stop-7.ensures)
    (last_fault connect c.number_at-4.result c.put_stop-8.result v w c.number_at-4.ensures c.put_stop-8.ensures)
