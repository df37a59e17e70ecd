use Rattle.std.proofs.Common.{refl}
use Rattle.std.proofs.lemmas.Result.{IfOk-weaker}
use Rattle.zoom_pool.specs.Transcripts.{Fed}
use Rattle.zoom_pool.specs.Metas.{MetaLinks, settings_of}
use Rattle.zoom_pool.proofs.Metas.{quiet_after}
use Rattle.zoom_pool.proofs.meta.Meta.feed.Goals as goal

pub returns-clause-after : goal.returns-clause-after
returns-clause-after c =
    let old : MetaLinks = record { pool = c.self.inside.pool; drivers = c.self.inside.drivers.items } in
    let new : MetaLinks = record { pool = c.feed.new.self; drivers = c.self.inside.drivers.items } in
    rw (← c.self.view_is) (IfOk-weaker c.feed.result _ _ (λ _ f questions s partial h a.
    quiet_after questions s partial h old new c.args.c (Fed c.args.piece.now) tt a (f (settings_of s) partial h a.pool) refl c.feed.ensures.rest.size)
    c.feed.ensures.after)
