use Rattle.std.proofs.Common.{◌+◌, ap, ◌∙◌}
use Rattle.zorigin.specs.Standings.{Present}
use Rattle.zplan.specs.Positions.{first_of}
use Rattle.zplan.specs.Ranges.{positions}
use Rattle.zoom_pool.proofs.Wants.{asked_ranges}
use Rattle.zoom_pool.proofs.phase.present_call.Goals as goal

pub returns : goal.returns
returns c = (
  ap (λ n. Present (n + 1) 1 c.from_vec.result) (c.first_position-first.ensures.first ∙ ap (λ l. first_of (positions l)) c.deref.ensures.value)
      ∙ ap (λ l. Present (first_of (positions c.args.list.items) + 1) 1 l) c.from_vec.ensures,
  asked_ranges c.args.list.items c.requires,
)
