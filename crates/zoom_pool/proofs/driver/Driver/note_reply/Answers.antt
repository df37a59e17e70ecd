use Rattle.std.proofs.Common.{refl, rules}
use Rattle.zoom_pool.proofs.TakenReplies.{knows_outcome}
use Rattle.zoom_pool.proofs.driver.Driver.note_reply.Goals as goal

pub returns : goal.returns
returns c = rw (← c.self.view_is) (
    knows_outcome c.agenda_laws.ensures c.driven_laws.ensures c.number_law.ensures c.orderly_logs.ensures c.args.taken.now _ _ c.note_taken.ensures
    refl refl (search rules) refl)
