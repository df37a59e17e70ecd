use Rattle.std.proofs.Common.{◌++◌, refl, ap, ◌∙◌, slice_set}
use Rattle.std.proofs.lemmas.Result.{IfOk-weaker}
use Rattle.zoom_pool.specs.Links.{Links}
use Rattle.zoom_pool.specs.Transcripts.{Called, after_call, request_octets}
use Rattle.zoom_pool.specs.CallsOf.{call_of}
use Rattle.zoom_pool.proofs.Pending.{pending_call}
use Rattle.zoom_pool.proofs.Pools.{at_index, gained, accepts_call, waits_at, waits_put, else_same}
use Rattle.zoom_pool.proofs.pool.Pool.call.Goals as goal

pub returns-clause-returned : goal.returns-clause-returned
returns-clause-returned c = rw (← c.self.view_is) (λ settings partial h a done.
    let l = at_index settings h a.transcript _ c.args.c _ c.index_mut.result.now (rw (← c.self.view_is) at c.requires)
    a.stands c.index_mut.ensures.value in
    c.call.ensures.returned (a.transcript c.args.c) l.matches done)

pub returns-clause-after : goal.returns-clause-after
returns-clause-after c = rw (← c.self.view_is) (λ done.
    gained c.args.c (Called (call_of c.args.call.now)) (λ p. after_call p (call_of c.args.call.now)) _ _ _
    c.index_mut.result.now c.call.new.self (rw (← c.self.view_is) at c.requires)
    c.index_mut.ensures.value (c.call.ensures.after done) (λ p. accepts_call p (call_of c.args.call.now))
    (λ p q. pending_call c.args.c p (call_of c.args.call.now) q) refl refl)

pub returns-clause-put : goal.returns-clause-put
returns-clause-put c =
    let old : Links = record { connections = c.self.inside.connections.items; knowledge = c.self.inside.knowledge } in
    let new : Links = record {
      connections = slice_set c.self.inside.connections.items c.args.c c.call.new.self;
      knowledge = c.self.inside.knowledge;
    } in
    let lt = rw (← c.self.view_is) at c.requires in
    rw (← c.self.view_is) (IfOk-weaker c.call.result _ _ (λ _ put settings partial h a.
    let l = at_index settings h a.transcript _ c.args.c _ c.index_mut.result.now lt a.stands c.index_mut.ensures.value in
    waits_put old new c.args.c c.call.new.self lt refl ∙ put (a.transcript c.args.c) l.matches
    ∙ ap (λ z. z ++ request_octets (a.transcript c.args.c) (call_of c.args.call.now))
    (waits_at old c.args.c _ c.index_mut.result.now lt c.index_mut.ensures.value)) c.call.ensures.put)

pub returns-clause-rest : goal.returns-clause-rest
returns-clause-rest c =
    let old : Links = record { connections = c.self.inside.connections.items; knowledge = c.self.inside.knowledge } in
    let new : Links = record {
      connections = slice_set c.self.inside.connections.items c.args.c c.call.new.self;
      knowledge = c.self.inside.knowledge;
    } in
    rw (← c.self.view_is) (else_same old new c.args.c c.call.new.self refl refl)
