use Rattle.std.proofs.Common.{refl, subst, sym, ◌∙◌, slice_set}
use Rattle.zoom_pool.specs.Drivers.{NextCallResult}
use Rattle.zoom_pool.specs.Metas.{MetaLinks}
use Rattle.zoom_pool.proofs.Advancing.{stopped_to, idle_to, wanting_any, issued_to, driver_at}
use Rattle.zoom_pool.proofs.meta.Meta.advance.Goals as goal

pub returns-then-is_stopped-clause-after : goal.returns-then-is_stopped-clause-after
returns-then-is_stopped-clause-after c =
    let old : MetaLinks = record { pool = c.self.inside.pool; drivers = c.self.inside.drivers.items } in
    let lt = rw (← c.self.view_is) at c.requires in
    rw (← c.self.view_is) (stopped_to (Unit {0}) c.one_transcript.ensures c.args.c old c.state-state.result lt
    c.state-state.ensures.state (sym c.is_stopped.ensures ∙ c.if-is_stopped.true))

pub returns-in_err-call-clause-after : goal.returns-in_err-call-clause-after
returns-in_err-call-clause-after c =
    let old : MetaLinks = record { pool = c.self.inside.pool; drivers = c.self.inside.drivers.items } in
    let lt = rw (← c.self.view_is) at c.requires in
    let mid : MetaLinks = record {
      pool = c.self.inside.pool;
      drivers = slice_set c.self.inside.drivers.items c.args.c c.next_call.new.self;
    } in
    rw (← c.self.view_is) (wanting_any (Unit {0}) _ c.one_transcript.ensures c.args.c old mid c.from_residual.result
    c.from_residual.ensures.0 c.index_mut.result.now c.next_call.new.self refl
    (driver_at old.drivers old.pool.connections c.args.c _ c.index_mut.result.now c.self.invariant lt c.index_mut.ensures.value)
    refl c.next_call.ensures.stays)

pub returns-in-Some-clause-after : goal.returns-in-Some-clause-after
returns-in-Some-clause-after c =
    let old : MetaLinks = record { pool = c.self.inside.pool; drivers = c.self.inside.drivers.items } in
    let lt = rw (← c.self.view_is) at c.requires in
    let mid : MetaLinks = record {
      pool = c.self.inside.pool;
      drivers = slice_set c.self.inside.drivers.items c.args.c c.next_call.new.self;
    } in
    rw (← c.self.view_is) (issued_to _ c.one_transcript.ensures c.args.c old mid c.issue-stage.new.self c.state-state.result
    c.index_mut.result.now c.next_call.new.self c.in-Some.call c.issue-stage.result lt c.state-state.ensures.state
    (sym c.is_stopped.ensures ∙ c.if-is_stopped.false) refl
    (driver_at old.drivers old.pool.connections c.args.c _ c.index_mut.result.now c.self.invariant lt c.index_mut.ensures.value)
    refl c.next_call.ensures.stays
    (subst (λ z. NextCallResult c.state-state.result z c.next_call.new.self) c.in-Some.is c.in_ok-call.ensures.ok)
    c.issue-stage.ensures.after)

pub returns-in-None-clause-after : goal.returns-in-None-clause-after
returns-in-None-clause-after c =
    let old : MetaLinks = record { pool = c.self.inside.pool; drivers = c.self.inside.drivers.items } in
    let lt = rw (← c.self.view_is) at c.requires in
    let mid : MetaLinks = record {
      pool = c.self.inside.pool;
      drivers = slice_set c.self.inside.drivers.items c.args.c c.next_call.new.self;
    } in
    rw (← c.self.view_is) (idle_to (Unit {0}) c.one_transcript.ensures c.args.c old mid c.state-state.result
    c.index_mut.result.now c.next_call.new.self lt c.state-state.ensures.state refl
    (driver_at old.drivers old.pool.connections c.args.c _ c.index_mut.result.now c.self.invariant lt c.index_mut.ensures.value)
    refl c.next_call.ensures.stays
    (subst (λ z. NextCallResult c.state-state.result z c.next_call.new.self) c.in-None.is c.in_ok-call.ensures.ok))
