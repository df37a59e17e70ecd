use Rattle.zmeta_world.proofs.WorldPieces.{cut_at}
use Rattle.zmeta_world.proofs.world.cut.first_piece.Goals as goal

pub returns-clause-pieces : goal.returns-clause-pieces
returns-clause-pieces c = cut_at c.args.at c.split_at.result.0.now _ c.args.text.now c.split_at.ensures.whole c.split_at.ensures.plain
