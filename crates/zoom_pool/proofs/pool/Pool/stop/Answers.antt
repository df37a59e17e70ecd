use Rattle.std.proofs.Common.{refl, ◌∙◌, slice_set}
use Rattle.zoom_pool.specs.Transcripts.{Stopped, after_stop}
use Rattle.zoom_pool.specs.Links.{Links}
use Rattle.zoom_pool.proofs.Pools.{gained, stops_put, waits_at, waits_put, else_same}
use Rattle.zoom_pool.proofs.pool.Pool.stop.Goals as goal

pub returns-clause-after : goal.returns-clause-after
returns-clause-after c = rw (← c.self.view_is) (
    gained c.args.c (Stopped c.args.reason) (λ p. after_stop p c.args.reason) _ _ _ c.index_mut.result.now c.stop.new.self
    (rw (← c.self.view_is) at c.requires)
    c.index_mut.ensures.value c.stop.ensures.after (λ p. refl) (λ p q n. n) refl refl)

pub returns-clause-stopped : goal.returns-clause-stopped
returns-clause-stopped c =
    let old : Links = record { connections = c.self.inside.connections.items; knowledge = c.self.inside.knowledge } in
    let new : Links = record {
      connections = slice_set c.self.inside.connections.items c.args.c c.stop.new.self;
      knowledge = c.self.inside.knowledge;
    } in
    stops_put old new c.args.c c.stop.new.self (rw (← c.self.view_is) at c.requires) refl ∙ c.stop.ensures.stop

pub returns-clause-waiting : goal.returns-clause-waiting
returns-clause-waiting c =
    let old : Links = record { connections = c.self.inside.connections.items; knowledge = c.self.inside.knowledge } in
    let new : Links = record {
      connections = slice_set c.self.inside.connections.items c.args.c c.stop.new.self;
      knowledge = c.self.inside.knowledge;
    } in
    let lt = rw (← c.self.view_is) at c.requires in
    rw (← c.self.view_is) (waits_put old new c.args.c c.stop.new.self lt refl ∙ c.stop.ensures.waiting
    ∙ waits_at old c.args.c _ c.index_mut.result.now lt c.index_mut.ensures.value)

pub returns-clause-rest : goal.returns-clause-rest
returns-clause-rest c =
    let old : Links = record { connections = c.self.inside.connections.items; knowledge = c.self.inside.knowledge } in
    let new : Links = record {
      connections = slice_set c.self.inside.connections.items c.args.c c.stop.new.self;
      knowledge = c.self.inside.knowledge;
    } in
    rw (← c.self.view_is) (else_same old new c.args.c c.stop.new.self refl refl)
