use Rattle.std.proofs.Common.{sym, subst}
use Rattle.zoom_questions.specs.NewTargets.{AreNew}
use Rattle.zvectors.proofs.moves.ends.Goals as goal

pub peers_of-requires : goal.peers_of-requires
peers_of-requires c = subst AreNew (sym c.into_vec.ensures) c.requires.2.fresh
