use Rattle.std.proofs.Common.{ap, ◌∙◌}
use Rattle.std.specs.Option.{option_map}
use Rattle.zmeta_world.proofs.WorldPieces.{first_piece, one_piece}
use Rattle.zmeta_world.proofs.world.wanted.two.Goals as goal

pub returns-in-Some : goal.returns-in-Some
returns-in-Some c =
    c.pair.ensures ∙ first_piece c.args.text.now c.first_piece.result.0.now c.in-Some.rest.now (option_map (λ r. r.now) c.first_piece.result.1) c.first_piece.ensures.pieces (ap (option_map (λ r. r.now)) c.in-Some.is)

pub returns-in-None : goal.returns-in-None
returns-in-None c = one_piece c.args.text.now c.first_piece.result.0.now (option_map (λ r. r.now) c.first_piece.result.1) c.first_piece.ensures.pieces (ap (option_map (λ r. r.now)) c.in-None.is)
