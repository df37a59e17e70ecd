use Rattle.std.proofs.Common.{ap}
use Rattle.std.specs.Option.{option_map}
use Rattle.zmeta_world.proofs.WorldPieces.{two_pieces, more_pieces}
use Rattle.zmeta_world.proofs.world.wanted.pair.Goals as goal

pub returns-in-None : goal.returns-in-None
returns-in-None c =
    two_pieces c.args.first.now c.first_piece.result.0.now c.args.rest.now (option_map (λ r. r.now) c.first_piece.result.1) c.first_piece.ensures.pieces (ap (option_map (λ r. r.now)) c.in-None.is)

pub returns-in-Some : goal.returns-in-Some
returns-in-Some c =
    more_pieces c.args.first.now c.first_piece.result.0.now c.args.rest.now _ (option_map (λ r. r.now) c.first_piece.result.1) c.first_piece.ensures.pieces (ap (option_map (λ r. r.now)) c.in-Some.is)
