use Rattle.zmeta_commands.proofs.Reprinted.{replayed}
use Rattle.zmeta_commands.proofs.laws.reprint_law.Goals as goal

pub returns : goal.returns
returns c = replayed (record {
  whole = c.whole_law.ensures;
  head = c.one_head_law.ensures;
  plan = c.plan_law.ensures;
  known = c.known_law.ensures;
  view = c.same_view_law.ensures;
})
