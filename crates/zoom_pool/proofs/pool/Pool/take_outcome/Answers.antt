use Rattle.std.proofs.Common.{refl, ◌∙◌, slice_set}
use Rattle.zoom_pool.specs.Links.{Links}
use Rattle.zoom_pool.proofs.Pools.{at_index, waits_at, waits_put, others_same}
use Rattle.zoom_pool.proofs.PoolTakes.{taken_after, kept_up_to}
use Rattle.zoom_pool.proofs.pool.Pool.take_outcome.Goals as goal

pub returns-clause-returned : goal.returns-clause-returned
returns-clause-returned c = rw (← c.self.view_is) (λ settings partial h a done.
    let l = at_index settings h a.transcript _ c.args.c _ c.index_mut.result.now (rw (← c.self.view_is) at c.requires)
    a.stands c.index_mut.ensures.value in
    let t = c.take-taken.ensures.done (a.transcript c.args.c) l.matches done in
    (t.input, t.is_next, t.returned))

pub returns-clause-after : goal.returns-clause-after
returns-clause-after c = rw (← c.self.view_is) (λ done settings partial h a.
    let lt = rw (← c.self.view_is) at c.requires in
    let l = at_index settings h a.transcript _ c.args.c _ c.index_mut.result.now lt a.stands c.index_mut.ensures.value in
    taken_after c.one_input.ensures settings partial h _ _ c.args.c c.index_mut.result.now c.take-taken.new.self
    c.take-taken.result lt a l (c.take-taken.ensures.done (a.transcript c.args.c) l.matches done)
    c.take-taken.ensures.waiting c.lawful.ensures refl)

pub returns-clause-memory : goal.returns-clause-memory
returns-clause-memory c = rw (← c.self.view_is) (λ e settings partial h a.
    let lt = rw (← c.self.view_is) at c.requires in
    let l = at_index settings h a.transcript _ c.args.c _ c.index_mut.result.now lt a.stands c.index_mut.ensures.value in
    kept_up_to settings partial h _ _ c.args.c c.index_mut.result.now c.take-taken.new.self lt a l
    (c.take-taken.ensures.memory (a.transcript c.args.c) l.matches e) c.take-taken.ensures.waiting
    (c.take-taken.ensures.part (a.transcript c.args.c) l.matches e) c.lawful.ensures refl)

pub returns-clause-waiting : goal.returns-clause-waiting
returns-clause-waiting c =
    let old : Links = record { connections = c.self.inside.connections.items; knowledge = c.self.inside.knowledge } in
    let new : Links = record {
      connections = slice_set c.self.inside.connections.items c.args.c c.take-taken.new.self;
      knowledge = c.take-taken.new.knowledge;
    } in
    let lt = rw (← c.self.view_is) at c.requires in
    rw (← c.self.view_is) (waits_put old new c.args.c c.take-taken.new.self lt refl ∙ c.take-taken.ensures.waiting
    ∙ waits_at old c.args.c _ c.index_mut.result.now lt c.index_mut.ensures.value)

pub returns-clause-grows : goal.returns-clause-grows
returns-clause-grows c = rw (← c.self.view_is) c.take-taken.ensures.grows

pub returns-clause-others : goal.returns-clause-others
returns-clause-others c =
    let old : Links = record { connections = c.self.inside.connections.items; knowledge = c.self.inside.knowledge } in
    let new : Links = record {
      connections = slice_set c.self.inside.connections.items c.args.c c.take-taken.new.self;
      knowledge = c.take-taken.new.knowledge;
    } in
    rw (← c.self.view_is) (others_same old new c.args.c c.take-taken.new.self refl)
