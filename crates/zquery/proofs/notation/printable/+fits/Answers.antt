use Rattle.zquery_rpn.specs.QueryTrees.{rpn_tree}
use Rattle.zquery.proofs.Heights.{no-room}
use Rattle.zquery.proofs.notation.printable.+fits.Goals as goal

pub returns-then-room-eq0 : goal.returns-then-room-eq0
returns-then-room-eq0 t c = no-room (rpn_tree c.args.rpn.now) c.args.room c.if-room-eq0.true
