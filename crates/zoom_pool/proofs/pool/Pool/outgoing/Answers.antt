use Rattle.std.proofs.Common.{◌≡◌, ◌++◌, refl, subst, ◌∙◌, slice_set}
use Rattle.std.specs.Prelude.{OnOk}
use Rattle.std.proofs.lemmas.Result.{IfOk-weaker}
use Rattle.zoom_pool.specs.Transcripts.{HandedOut}
use Rattle.zoom_pool.specs.Links.{Links}
use Rattle.zoom_pool.specs.PoolSteps.{Recorded}
use Rattle.zoom_pool.proofs.Pools.{gained, given_all, waits_at, waits_put, else_same}
use Rattle.zoom_pool.proofs.pool.Pool.outgoing.Goals as goal

pub returns-clause-gives : goal.returns-clause-gives
returns-clause-gives c =
    let old : Links = record { connections = c.self.inside.connections.items; knowledge = c.self.inside.knowledge } in
    rw (← c.self.view_is) (subst (λ w. OnOk c.outgoing.result (c.outgoing.new.out.items ≡ c.args.out.now.items ++ w))
    (waits_at old c.args.c _ c.index_mut.result.now (rw (← c.self.view_is) at c.requires) c.index_mut.ensures.value)
    c.outgoing.ensures.gives)

pub returns-clause-after : goal.returns-clause-after
returns-clause-after c =
    let old : Links = record { connections = c.self.inside.connections.items; knowledge = c.self.inside.knowledge } in
    let new : Links = record {
      connections = slice_set c.self.inside.connections.items c.args.c c.outgoing.new.self;
      knowledge = c.self.inside.knowledge;
    } in
    let lt = rw (← c.self.view_is) at c.requires in
    rw (← c.self.view_is) (subst (λ w. OnOk c.outgoing.result (Recorded c.args.c (HandedOut w) old new))
    (waits_at old c.args.c _ c.index_mut.result.now lt c.index_mut.ensures.value)
    (IfOk-weaker c.outgoing.result _ _ (λ _ f. gained c.args.c (HandedOut c.index_mut.result.now.waiting) (λ p. p) old new
    _ c.index_mut.result.now c.outgoing.new.self lt c.index_mut.ensures.value f (λ p. refl) (λ p q n. n) refl refl)
    c.outgoing.ensures.after))

pub returns-clause-all : goal.returns-clause-all
returns-clause-all c =
    let old : Links = record { connections = c.self.inside.connections.items; knowledge = c.self.inside.knowledge } in
    let new : Links = record {
      connections = slice_set c.self.inside.connections.items c.args.c c.outgoing.new.self;
      knowledge = c.self.inside.knowledge;
    } in
    IfOk-weaker c.outgoing.result _ _ (λ _ none. given_all c.args.c old new c.outgoing.new.self
    (rw (← c.self.view_is) at c.requires) refl none) c.outgoing.ensures.all

pub returns-clause-none : goal.returns-clause-none
returns-clause-none c =
    let old : Links = record { connections = c.self.inside.connections.items; knowledge = c.self.inside.knowledge } in
    let new : Links = record {
      connections = slice_set c.self.inside.connections.items c.args.c c.outgoing.new.self;
      knowledge = c.self.inside.knowledge;
    } in
    IfOk-weaker c.outgoing.result _ _ (λ _ none. waits_put old new c.args.c c.outgoing.new.self
    (rw (← c.self.view_is) at c.requires) refl ∙ none) c.outgoing.ensures.all

pub returns-clause-rest : goal.returns-clause-rest
returns-clause-rest c =
    let old : Links = record { connections = c.self.inside.connections.items; knowledge = c.self.inside.knowledge } in
    let new : Links = record {
      connections = slice_set c.self.inside.connections.items c.args.c c.outgoing.new.self;
      knowledge = c.self.inside.knowledge;
    } in
    rw (← c.self.view_is) (else_same old new c.args.c c.outgoing.new.self refl refl)
