use Rattle.std.proofs.Common.{refl, map, subst}
use Rattle.std.specs.Prelude.{string_bytes}
use Rattle.std.proofs.lemmas.Result.{err_from_is_err_and}
use Rattle.zmeta_args.specs.Texts.{texts_of}
use Rattle.zmeta_offline.specs.Rows.{IsNextFault, HasRead}
use Rattle.zmeta_offline.proofs.Measuring.{begun, turned, read, next_missed, ended, missed}
use Rattle.zmeta_offline.proofs.rows.measure_rows.Goals as goal

pub loop-init : goal.loop-init
loop-init g c =
    let octets = g.F.Folder.octets c.args.files.now in
    begun octets (texts_of c.args.paths.now) c.args.runs.now c.args.chosen.now (map string_bytes c.args.shown.items)
    c.in_ok-reader.reader c.in_ok-rows.rows _ c.in_ok-rows.ensures refl
    (λ facts told is. record { columns = is.columns; positions = is.positions }) (c.in_ok-reader.ensures octets)

pub returns-in_default : goal.returns-in_default
returns-in_default g c =
    let octets = g.F.Folder.octets c.args.files.now in
    let paths = texts_of c.args.paths.now in
    let shown = map string_bytes c.args.shown.items in
    ended octets paths c.args.runs.now c.args.chosen.now shown c.loop.reader c.wanted.new.self
    _ c.in_ok-told.told (λ s t text h. c.in_ok-told.ensures s t text h c.in_default.ensures.none)
    (turned octets paths c.args.runs.now c.args.chosen.now shown c.loop.reader c.loop.rows c.wanted.new.self
    c.wanted.ensures.holds c.loop.invariant)

pub returns-in_err-read_next : goal.returns-in_err-read_next
returns-in_err-read_next g c =
    let octets = g.F.Folder.octets c.args.files.now in
    let paths = texts_of c.args.paths.now in
    let shown = map string_bytes c.args.shown.items in
    let p = err_from_is_err_and c.from_residual-in_err-read_next.result c.from_residual-in_err-read_next.ensures.1 in
    missed octets paths c.args.runs.now c.args.chosen.now shown c.in_err-read_next.field-0.0 p.0
    c.from_residual-in_err-read_next.result
    p.1 p.2
    (next_missed octets paths c.args.runs.now c.args.chosen.now shown c.in-Some.wanted c.loop.reader c.wanted.new.self
    c.in_err-read_next.field-0.0 c.in-Some.ensures.some
    (subst (λ z. IsNextFault octets z c.in-Some.wanted c.loop.reader c.wanted.new.self c.in_err-read_next.field-0.0)
    c.loop.invariant.windows.of c.in_err-read_next.ensures.err)
    (turned octets paths c.args.runs.now c.args.chosen.now shown c.loop.reader c.loop.rows c.wanted.new.self
    c.wanted.ensures.holds c.loop.invariant))

pub loop-preserved : goal.loop-preserved
loop-preserved g c =
    let octets = g.F.Folder.octets c.args.files.now in
    let paths = texts_of c.args.paths.now in
    let shown = map string_bytes c.args.shown.items in
    let has : HasRead octets paths c.in-Some.wanted c.loop.reader c.wanted.new.self c.read_next.new.self
    c.read_next.new.rows =
    subst (λ z. HasRead octets z c.in-Some.wanted c.loop.reader c.wanted.new.self c.read_next.new.self
    c.read_next.new.rows) c.loop.invariant.windows.of c.in_ok-read_next.ensures.ok in
    read octets paths c.args.runs.now c.args.chosen.now shown c.in-Some.wanted c.loop.reader c.wanted.new.self
    c.read_next.new.self c.read_next.new.rows c.in-Some.ensures.some has
    (turned octets paths c.args.runs.now c.args.chosen.now shown c.loop.reader c.loop.rows c.wanted.new.self
    c.wanted.ensures.holds c.loop.invariant)
