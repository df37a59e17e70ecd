use Rattle.std.proofs.Common.{refl, true, ◌∙◌, slice_set}
use Rattle.zoom_pool.specs.Links.{Links}
use Rattle.zoom_pool.specs.Transcripts.{InputEnded}
use Rattle.zoom_pool.proofs.Pending.{pending_end}
use Rattle.zoom_pool.proofs.Pools.{gained, waits_at, waits_put, else_same}
use Rattle.zoom_pool.proofs.pool.Pool.end.Goals as goal

pub returns-clause-after : goal.returns-clause-after
returns-clause-after c = rw (← c.self.view_is) (
    gained c.args.c InputEnded (λ p. record p { ended = true }) _ _ _ c.index_mut.result.now c.end.new.self
    (rw (← c.self.view_is) at c.requires)
    c.index_mut.ensures.value c.end.ensures.after (λ p. refl) (λ p q. pending_end c.args.c p q) refl refl)

pub returns-clause-waiting : goal.returns-clause-waiting
returns-clause-waiting c =
    let old : Links = record { connections = c.self.inside.connections.items; knowledge = c.self.inside.knowledge } in
    let new : Links = record {
      connections = slice_set c.self.inside.connections.items c.args.c c.end.new.self;
      knowledge = c.self.inside.knowledge;
    } in
    let lt = rw (← c.self.view_is) at c.requires in
    rw (← c.self.view_is) (waits_put old new c.args.c c.end.new.self lt refl ∙ c.end.ensures.waiting
    ∙ waits_at old c.args.c _ c.index_mut.result.now lt c.index_mut.ensures.value)

pub returns-clause-rest : goal.returns-clause-rest
returns-clause-rest c =
    let old : Links = record { connections = c.self.inside.connections.items; knowledge = c.self.inside.knowledge } in
    let new : Links = record {
      connections = slice_set c.self.inside.connections.items c.args.c c.end.new.self;
      knowledge = c.self.inside.knowledge;
    } in
    rw (← c.self.view_is) (else_same old new c.args.c c.end.new.self refl refl)
