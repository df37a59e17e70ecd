use Rattle.std.proofs.Common.{refl}
use Rattle.std.proofs.lemmas.Result.{IfOk-weaker}
use Rattle.zoom_pool.specs.Transcripts.{HandedOut}
use Rattle.zoom_pool.specs.Links.{waiting_at}
use Rattle.zoom_pool.specs.Metas.{MetaLinks, settings_of}
use Rattle.zoom_pool.proofs.Metas.{quiet_after}
use Rattle.zoom_pool.proofs.meta.Meta.outgoing.Goals as goal

pub returns-clause-after : goal.returns-clause-after
returns-clause-after c =
    let old : MetaLinks = record { pool = c.self.inside.pool; drivers = c.self.inside.drivers.items } in
    let new : MetaLinks = record { pool = c.outgoing.new.self; drivers = c.self.inside.drivers.items } in
    rw (← c.self.view_is) (IfOk-weaker c.outgoing.result _ _ (λ _ f questions s partial h a.
    quiet_after questions s partial h old new c.args.c (HandedOut (waiting_at old.pool c.args.c)) tt a (f (settings_of s) partial h a.pool) refl
    c.outgoing.ensures.rest.size)
    c.outgoing.ensures.after)
