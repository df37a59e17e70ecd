use Rattle.std.proofs.Common.{inr, subst}
use Rattle.std.proofs.lemmas.Result.{err_from_is_err_and}
use Rattle.zmeta_args.specs.Texts.{texts_of}
use Rattle.zmeta_devices.specs.Devices.{output_device}
use Rattle.zmeta_devices.specs.declared.fault.Fault.TheVariants.{Memory}
use Rattle.zmeta_offline.specs.Rows.{IsNextFault, HasRead}
use Rattle.zmeta_offline.proofs.Writing.{IsGoing, begun, turned, read, put, next_missed, ended, cut_off, missed_as, stopped_as}
use Rattle.zmeta_offline.proofs.rows.write_rows.Goals as goal

pub loop-init : goal.loop-init
loop-init g c =
    let octets = g.F.Folder.octets c.args.files.now in
    begun octets (texts_of c.args.paths.now) c.args.runs.now c.args.taking
    (output_device g.W.Write.contents c.args.output.now) c.in_ok-reader.reader c.in_ok-rows.rows
    (c.in_ok-reader.ensures octets) c.in_ok-rows.ensures

pub returns-in_err-finish : goal.returns-in_err-finish
returns-in_err-finish g c =
    let p = err_from_is_err_and c.from_residual-in_err-finish.result c.from_residual-in_err-finish.ensures.1 in
    missed_as (g.F.Folder.octets c.args.files.now) (texts_of c.args.paths.now) c.args.runs.now c.args.taking
    (output_device g.W.Write.contents c.args.output.now) c.row_laws.ensures
    (output_device g.W.Write.contents c.loop.output) c.loop.reader c.loop.rows Memory p.0
    c.from_residual-in_err-finish.result p.1 p.2 tt c.loop.invariant

pub returns-in_default : goal.returns-in_default
returns-in_default g c =
    let octets = g.F.Folder.octets c.args.files.now in
    let paths = texts_of c.args.paths.now in
    let start = output_device g.W.Write.contents c.args.output.now in
    let now = output_device g.W.Write.contents c.loop.output in
    ended octets paths c.args.runs.now c.args.taking start now c.loop.reader c.wanted.new.self
    c.in_ok-finish.field-0.0.items c.in_ok-finish.field-0.1
    (λ s t text h. c.in_ok-finish.ensures s t text h c.in_default.ensures.none)
    (turned octets paths c.args.runs.now c.args.taking start now c.loop.reader c.loop.rows c.wanted.new.self
    c.wanted.ensures.holds c.loop.invariant)

pub returns-in_err-read_next : goal.returns-in_err-read_next
returns-in_err-read_next g c =
    let octets = g.F.Folder.octets c.args.files.now in
    let paths = texts_of c.args.paths.now in
    let start = output_device g.W.Write.contents c.args.output.now in
    let now = output_device g.W.Write.contents c.loop.output in
    let p = err_from_is_err_and c.from_residual-in_err-read_next.result c.from_residual-in_err-read_next.ensures.1 in
    missed_as octets paths c.args.runs.now c.args.taking start c.row_laws.ensures now c.loop.reader c.loop.rows
    c.in_err-read_next.field-0.0 p.0 c.from_residual-in_err-read_next.result p.1 p.2
    (next_missed octets paths c.args.runs.now c.args.taking start now c.in-Some.wanted c.loop.reader c.wanted.new.self
    c.in_err-read_next.field-0.0 c.in-Some.ensures.some
    (subst (λ z. IsNextFault octets z c.in-Some.wanted c.loop.reader c.wanted.new.self c.in_err-read_next.field-0.0)
    c.loop.invariant.windows.of c.in_err-read_next.ensures.err)
    (turned octets paths c.args.runs.now c.args.taking start now c.loop.reader c.loop.rows c.wanted.new.self
    c.wanted.ensures.holds c.loop.invariant))
    c.loop.invariant

pub returns-in_err-put_piece : goal.returns-in_err-put_piece
returns-in_err-put_piece g c =
    let octets = g.F.Folder.octets c.args.files.now in
    let paths = texts_of c.args.paths.now in
    let start = output_device g.W.Write.contents c.args.output.now in
    let now = output_device g.W.Write.contents c.loop.output in
    let p = err_from_is_err_and c.from_residual-in_err-put_piece.result c.from_residual-in_err-put_piece.ensures.1 in
    let has : HasRead octets paths c.in-Some.wanted c.loop.reader c.wanted.new.self c.read_next.new.self
    c.read_next.new.rows =
    subst (λ z. HasRead octets z c.in-Some.wanted c.loop.reader c.wanted.new.self c.read_next.new.self
    c.read_next.new.rows) c.loop.invariant.windows.of c.in_ok-read_next.ensures.ok in
    let going : IsGoing octets paths c.args.runs.now c.args.taking start now c.read_next.new.self c.read_next.new.rows =
    read octets paths c.args.runs.now c.args.taking start now c.in-Some.wanted c.loop.reader c.wanted.new.self
    c.read_next.new.self c.read_next.new.rows c.in-Some.ensures.some has
    (turned octets paths c.args.runs.now c.args.taking start now c.loop.reader c.loop.rows c.wanted.new.self
    c.wanted.ensures.holds c.loop.invariant) in
    stopped_as octets paths c.args.runs.now c.args.taking start c.row_laws.ensures now
    (output_device g.W.Write.contents c.put_piece.new.output) c.read_next.new.self c.read_next.new.rows
    c.put_piece.new.rows c.in_err-put_piece.field-0.0 p.0 c.from_residual-in_err-put_piece.result p.1 p.2
    c.in_err-put_piece.ensures going

pub loop-preserved : goal.loop-preserved
loop-preserved g c =
    let octets = g.F.Folder.octets c.args.files.now in
    let paths = texts_of c.args.paths.now in
    let start = output_device g.W.Write.contents c.args.output.now in
    let now = output_device g.W.Write.contents c.loop.output in
    let has : HasRead octets paths c.in-Some.wanted c.loop.reader c.wanted.new.self c.read_next.new.self
    c.read_next.new.rows =
    subst (λ z. HasRead octets z c.in-Some.wanted c.loop.reader c.wanted.new.self c.read_next.new.self
    c.read_next.new.rows) c.loop.invariant.windows.of c.in_ok-read_next.ensures.ok in
    put octets paths c.args.runs.now c.args.taking start now (output_device g.W.Write.contents c.put_piece.new.output)
    c.read_next.new.self c.read_next.new.rows c.put_piece.new.rows c.in_ok-put_piece.ensures
    (read octets paths c.args.runs.now c.args.taking start now c.in-Some.wanted c.loop.reader c.wanted.new.self
    c.read_next.new.self c.read_next.new.rows c.in-Some.ensures.some has
    (turned octets paths c.args.runs.now c.args.taking start now c.loop.reader c.loop.rows c.wanted.new.self
    c.wanted.ensures.holds c.loop.invariant))

pub returns : goal.returns
returns g c =
    inr (cut_off (g.F.Folder.octets c.args.files.now) (texts_of c.args.paths.now) c.args.runs.now c.args.taking
    (output_device g.W.Write.contents c.args.output.now) c.row_laws.ensures
    (output_device g.W.Write.contents c.loop.output) c.loop.reader c.loop.rows c.loop.invariant)
