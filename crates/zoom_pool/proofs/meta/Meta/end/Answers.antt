use Rattle.std.proofs.Common.{refl}
use Rattle.zoom_pool.specs.Transcripts.{InputEnded}
use Rattle.zoom_pool.specs.Metas.{MetaLinks, settings_of}
use Rattle.zoom_pool.proofs.Metas.{quiet_after}
use Rattle.zoom_pool.proofs.meta.Meta.end.Goals as goal

pub returns-clause-after : goal.returns-clause-after
returns-clause-after c =
    let old : MetaLinks = record { pool = c.self.inside.pool; drivers = c.self.inside.drivers.items } in
    let new : MetaLinks = record { pool = c.end.new.self; drivers = c.self.inside.drivers.items } in
    rw (← c.self.view_is) (λ questions s partial h a.
    quiet_after questions s partial h old new c.args.c InputEnded tt a (c.end.ensures.after (settings_of s) partial h a.pool) refl
    c.end.ensures.rest.size)
