use Rattle.std.proofs.Common.{refl, ◌∙◌, slice_set}
use Rattle.std.proofs.lemmas.Result.{IfOk-weaker}
use Rattle.zoom_pool.specs.Transcripts.{Fed, after_feed}
use Rattle.zoom_pool.specs.Links.{Links}
use Rattle.zoom_pool.proofs.Pending.{pending_feed}
use Rattle.zoom_pool.proofs.Pools.{gained, accepts_feed, waits_at, waits_put, else_same}
use Rattle.zoom_pool.proofs.pool.Pool.feed.Goals as goal

pub returns-clause-after : goal.returns-clause-after
returns-clause-after c = rw (← c.self.view_is) (IfOk-weaker c.feed.result _ _ (λ _ f.
    gained c.args.c (Fed c.args.piece.now) (λ p. after_feed p c.args.piece.now) _ _ _ c.index_mut.result.now
    c.feed.new.self (rw (← c.self.view_is) at c.requires)
    c.index_mut.ensures.value f (λ p. accepts_feed p c.args.piece.now)
    (λ p q. pending_feed c.stream_laws.ensures c.args.c p c.args.piece.now q) refl refl) c.feed.ensures.after)

pub returns-clause-waiting : goal.returns-clause-waiting
returns-clause-waiting c =
    let old : Links = record { connections = c.self.inside.connections.items; knowledge = c.self.inside.knowledge } in
    let new : Links = record {
      connections = slice_set c.self.inside.connections.items c.args.c c.feed.new.self;
      knowledge = c.self.inside.knowledge;
    } in
    let lt = rw (← c.self.view_is) at c.requires in
    rw (← c.self.view_is) (waits_put old new c.args.c c.feed.new.self lt refl ∙ c.feed.ensures.waiting
    ∙ waits_at old c.args.c _ c.index_mut.result.now lt c.index_mut.ensures.value)

pub returns-clause-rest : goal.returns-clause-rest
returns-clause-rest c =
    let old : Links = record { connections = c.self.inside.connections.items; knowledge = c.self.inside.knowledge } in
    let new : Links = record {
      connections = slice_set c.self.inside.connections.items c.args.c c.feed.new.self;
      knowledge = c.self.inside.knowledge;
    } in
    rw (← c.self.view_is) (else_same old new c.args.c c.feed.new.self refl refl)
