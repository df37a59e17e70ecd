use Rattle.std.proofs.Common.{refl}
use Rattle.std.proofs.lemmas.Result.{err_from_is_err_and}
use Rattle.zmeta_args.specs.Texts.{texts_of}
use Rattle.zmeta_devices.specs.Devices.{output_device}
use Rattle.zmeta_offline.proofs.JoinedTheory.{form_refused, measured_by, head_by, join_refused_rows, join_changed, join_ended}
use Rattle.zmeta_offline.proofs.joined.join_marked.Goals as goal

pub returns-in_err-form : goal.returns-in_err-form
returns-in_err-form g c others same marked view of =
    let p = err_from_is_err_and c.from_residual.result c.from_residual.ensures.1 in
    form_refused view (g.F.Folder.octets c.args.files.now) c.args.first.now others
    (output_device g.W.Write.contents c.args.output.now) c.args.marked marked (texts_of c.args.paths.now)
    c.as_slice.result.now c.args.marked.chosen same c.as_slice.ensures.value refl c.in_err-form.field-0.0 p.0
    c.from_residual.result p.1 p.2 c.in_err-form.ensures

pub returns-in_err-last : goal.returns-in_err-last
returns-in_err-last g c others same marked view of =
    let octets = g.F.Folder.octets c.args.files.now in
    let first = c.args.first.now in
    let old = output_device g.W.Write.contents c.args.output.now in
    let m = c.args.marked in
    let paths = texts_of c.args.paths.now in
    let p = err_from_is_err_and c.from_residual-in_err-last.result c.from_residual-in_err-last.ensures.1 in
    join_refused_rows view octets first others old m marked c.form_laws.ensures c.title_part_laws.ensures c.args.shape
    paths c.as_slice-2.result.now same c.as_slice-2.ensures.value
    (output_device g.W.Write.contents c.write_rows.new.output) c.write_rows.result _ c.write_rows.ensures (record {
      shape_is = of;
      chosen = refl;
      form = c.in_ok-form.ensures.0;
      measured =
          measured_by view octets first others old m marked paths c.as_slice.result.now same c.as_slice.ensures.value
          c.in_ok-form.form c.in_ok-form.ensures.1;
      head =
          head_by view octets first others old m marked c.in_ok-form.form c.new-head.result.items
          c.write_head.new.out.items c.new-head.ensures.items c.in_ok-write_head.ensures;
    }) c.in_err-last.field-0.0 p.0 c.from_residual-in_err-last.result c.in_err-last.was p.1 p.2

pub returns-then-not-is_as_told : goal.returns-then-not-is_as_told
returns-then-not-is_as_told g c others same marked view of =
    let octets = g.F.Folder.octets c.args.files.now in
    let first = c.args.first.now in
    let old = output_device g.W.Write.contents c.args.output.now in
    let m = c.args.marked in
    let paths = texts_of c.args.paths.now in
    join_changed view octets first others old m marked c.form_laws.ensures c.title_part_laws.ensures c.args.shape
    paths c.as_slice-2.result.now same c.as_slice-2.ensures.value
    (output_device g.W.Write.contents c.write_rows.new.output) c.in_ok-last.last
    c.in_ok-last.told _ c.in_ok-last.ensures (record {
      shape_is = of;
      chosen = refl;
      form = c.in_ok-form.ensures.0;
      measured =
          measured_by view octets first others old m marked paths c.as_slice.result.now same c.as_slice.ensures.value
          c.in_ok-form.form c.in_ok-form.ensures.1;
      head =
          head_by view octets first others old m marked c.in_ok-form.form c.new-head.result.items
          c.write_head.new.out.items c.new-head.ensures.items c.in_ok-write_head.ensures;
    }) c.args.first refl (λ told.
    let yes = c.is_as_told.ensures.1 told in
    let no = c.if-not-is_as_told.true in
    absurd cc)

pub returns : goal.returns
returns g c others same marked view of =
    let octets = g.F.Folder.octets c.args.files.now in
    let first = c.args.first.now in
    let old = output_device g.W.Write.contents c.args.output.now in
    let m = c.args.marked in
    let paths = texts_of c.args.paths.now in
    join_ended view octets first others old m marked c.form_laws.ensures c.title_part_laws.ensures c.args.shape
    paths c.as_slice-2.result.now same c.as_slice-2.ensures.value
    (output_device g.W.Write.contents c.write_rows.new.output) c.in_ok-last.last
    c.in_ok-last.told _ c.in_ok-last.ensures (record {
      shape_is = of;
      chosen = refl;
      form = c.in_ok-form.ensures.0;
      measured =
          measured_by view octets first others old m marked paths c.as_slice.result.now same c.as_slice.ensures.value
          c.in_ok-form.form c.in_ok-form.ensures.1;
      head =
          head_by view octets first others old m marked c.in_ok-form.form c.new-head.result.items
          c.write_head.new.out.items c.new-head.ensures.items c.in_ok-write_head.ensures;
    }) (c.is_as_told.ensures.0 c.if-not-is_as_told.false)
    (output_device g.W.Write.contents c.put_list.new.output) c.as_slice-3.result.now c.status_of.result
    c.put_list.result c.as_slice-3.ensures.value c.status_of.ensures c.put_list.ensures
