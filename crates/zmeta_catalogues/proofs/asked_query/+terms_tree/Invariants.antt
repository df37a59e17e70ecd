use Rattle.std.proofs.Common.{length}
use Rattle.zmeta_catalogues.proofs.asked_query.+terms_tree.Given as goal

abbrev pub decreases-terms_tree : goal.decreases-terms_tree
decreases-terms_tree l = length l.rest.now
