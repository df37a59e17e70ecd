use Rattle.std.proofs.Common.{◌∙◌}
use Rattle.zoom_pool.specs.Metas.{MetaLinks}
use Rattle.zoom_pool.proofs.Advancing.{skipped_tells, driver_at}
use Rattle.zoom_pool.proofs.meta.Meta.skipped.Goals as goal

pub returns : goal.returns
returns c =
    let old : MetaLinks = record { pool = c.self.inside.pool; drivers = c.self.inside.drivers.items } in
    let lt = rw (← c.self.view_is) at c.requires in
    rw (← c.self.view_is) (λ questions s partial h p a transcript. c.is_skipped.ensures
    ∙ skipped_tells old c.args.c c.index.result.now lt
    (driver_at old.drivers old.pool.connections c.args.c _ c.index.result.now c.self.invariant lt c.index.ensures)
    questions s partial h p a transcript)
