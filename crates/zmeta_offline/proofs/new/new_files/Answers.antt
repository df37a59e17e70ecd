use Rattle.std.proofs.lemmas.Result.{err_from_is_err_and}
use Rattle.zmeta_devices.specs.Devices.{output_device}
use Rattle.zmeta_offline.proofs.Changing.{new_refused, new_done}
use Rattle.zmeta_offline.proofs.new.new_files.Goals as goal

pub returns-in_err-before : goal.returns-in_err-before
returns-in_err-before g c =
    let p = err_from_is_err_and c.from_residual.result c.from_residual.ensures.1 in
    new_refused (g.F.Folder.octets c.args.files.now) c.args.earlier.now c.args.later.now c.args.view
    (output_device g.W.Write.contents c.args.output.now) c.in_err-before.field-0.0 p.0 c.from_residual.result p.1 p.2
    c.in_err-before.ensures

pub returns : goal.returns
returns g c =
    let made = c.in_ok-text.ensures in
    new_done (g.F.Folder.octets c.args.files.now) c.args.earlier.now c.args.later.now c.args.view
    c.in_ok-before.before.1 c.in_ok-before.before.0 c.in_ok-before.after.1 c.in_ok-before.after.0
    made.0 c.in_ok-text.text.items c.as_slice.result.now c.status_of_both-status.result
    (output_device g.W.Write.contents c.args.output.now) (output_device g.W.Write.contents c.put_list.new.output)
    c.put_list.result c.in_ok-before.ensures made.1 made.2 c.status_of_both-status.ensures c.as_slice.ensures.value
    c.put_list.ensures
