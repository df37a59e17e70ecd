use Rattle.std.proofs.Common.{◌∷◌}
use Rattle.std.proofs.lemmas.Result.{err_from_is_err_and}
use Rattle.zmeta_devices.specs.Devices.{output_device}
use Rattle.zmeta_args.specs.Texts.{texts_of}
use Rattle.zmeta_offline.proofs.Joining.{join_refused, join_done}
use Rattle.zmeta_offline.proofs.join.join_files.Goals as goal

pub returns-in_err-known : goal.returns-in_err-known
returns-in_err-known g c =
    let p = err_from_is_err_and c.from_residual.result c.from_residual.ensures.1 in
    join_refused c.args.view (g.F.Folder.octets c.args.files.now) (c.args.first.now ∷ texts_of c.args.others.now)
    (output_device g.W.Write.contents c.args.output.now) c.in_err-known.field-0.0 p.0 c.from_residual.result p.1 p.2
    c.in_err-known.ensures

pub returns : goal.returns
returns g c =
    join_done c.args.view (g.F.Folder.octets c.args.files.now) (c.args.first.now ∷ texts_of c.args.others.now)
    c.in_ok-known.known.1 c.in_ok-known.known.0
    (output_device g.W.Write.contents c.args.output.now) (output_device g.W.Write.contents c.put_list.new.output)
    c.new-text.result.items c.print_view-printed.new.out.items c.as_slice.result.now c.known_status-status.result c.put_list.result
    c.in_ok-known.ensures c.known_status-status.ensures c.new-text.ensures.items c.in_ok-printed.ensures.ok
    c.as_slice.ensures.value c.put_list.ensures
