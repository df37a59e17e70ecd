use Rattle.std.proofs.Common.{length, rules, arith}
use Rattle.std.specs.Option.{option_map}
use Rattle.std.proofs.lemmas.Result.{err_from_is_err_and}
use Rattle.std.proofs.lemmas.Grind.{common_steps}
use Rattle.zmeta_world.specs.Worlds.{IsWorld}
use Rattle.zmeta_world.proofs.FitLaw.{world_fit}
use Rattle.zmeta_world.proofs.WorldLoop.{first_reading, few, less, next_reading, refused_line, refused_as}
use Rattle.zmeta_world.proofs.world.read_world.Goals as goal

pub read_line-requires-clause-few : goal.read_line-requires-clause-few
read_line-requires-clause-few c = few c.args.file.now c.in-Some.texts.now c.loop-rest.number c.loop-rest.reader (rw c.in-Some.is at c.loop-rest.invariant) c.requires

pub returns-in_err-read_line-clause-fault : goal.returns-in_err-read_line-clause-fault
returns-in_err-read_line-clause-fault c =
    let p = err_from_is_err_and c.from_residual.result c.from_residual.ensures.1 in
    refused_as c.args.file.now c.in_err-read_line.field-0.0 p.0 c.from_residual.result p.1 p.2
    (refused_line c.args.file.now c.in-Some.texts.now c.first_piece.result.0.now c.loop-rest.number (option_map (λ r. r.now) c.first_piece.result.1) c.loop-rest.reader c.read_line.new.reader c.in_err-read_line.field-0.0
    (rw c.in-Some.is at c.loop-rest.invariant) c.first_piece.ensures.pieces c.in_err-read_line.ensures)

pub loop-rest-preserved : goal.loop-rest-preserved
loop-rest-preserved c =
    next_reading c.args.file.now c.in-Some.texts.now c.first_piece.result.0.now c.loop-rest.number (option_map (λ r. r.now) c.first_piece.result.1) c.loop-rest.reader c.read_line.new.reader
    (rw c.in-Some.is at c.loop-rest.invariant) c.first_piece.ensures.pieces (less (λ r. r.now) (length c.in-Some.texts.now) c.first_piece.result.1 c.first_piece.ensures.shorter) c.in_ok-read_line.ensures

pub loop-rest-init : goal.loop-rest-init
loop-rest-init c = first_reading c.args.file.now c.new-reader.result c.new-reader.ensures.names c.new-reader.ensures.world

pub returns-clause-fit : goal.returns-clause-fit
returns-clause-fit c =
    let is : IsWorld c.args.file.now c.in_ok-finish.field-0 = first_of (search rules, grind (arith, common_steps)) in
    world_fit c.args.file.now c.in_ok-finish.field-0 c.requires is
