use Rattle.std.proofs.Common.{refl, ap, slice_set}
use Rattle.zoom_pool.specs.CallsOf.{call_of}
use Rattle.zoom_pool.specs.Metas.{MetaLinks}
use Rattle.zoom_pool.proofs.Advancing.{admitted_to, refused_to, kept_to, driver_at}
use Rattle.zoom_pool.proofs.meta.Meta.issue.Goals as goal

pub returns-in-Ok-clause-after : goal.returns-in-Ok-clause-after
returns-in-Ok-clause-after c =
    let old : MetaLinks = record { pool = c.self.inside.pool; drivers = c.self.inside.drivers.items } in
    let lt = rw (← c.self.view_is) at c.requires in
    let new : MetaLinks = record {
      pool = c.call.new.self;
      drivers = slice_set c.self.inside.drivers.items c.args.c c.note_sent.new.self;
    } in
    rw (← c.self.view_is) (admitted_to (Unit {0}) c.one_transcript.ensures c.args.c (call_of c.args.call.now) old new
    c.index_mut.result.now c.note_sent.new.self lt (c.in-Ok.ensures.after tt) c.in-Ok.ensures.returned
    (driver_at old.drivers old.pool.connections c.args.c _ c.index_mut.result.now c.self.invariant lt c.index_mut.ensures.value)
    c.note_sent.ensures refl c.in-Ok.ensures.rest.size)

pub returns-in-Memory-clause-after : goal.returns-in-Memory-clause-after
returns-in-Memory-clause-after c =
    let old : MetaLinks = record { pool = c.self.inside.pool; drivers = c.self.inside.drivers.items } in
    let new : MetaLinks = record { pool = c.call.new.self; drivers = c.self.inside.drivers.items } in
    rw (← c.self.view_is) (kept_to (Unit {0}) c.one_transcript.ensures c.args.c (call_of c.args.call.now) old new tt
    (ap (λ z. record { pool = z; drivers = c.self.inside.drivers.items }) c.in-Err.ensures.err))

pub returns-in_default-clause-after : goal.returns-in_default-clause-after
returns-in_default-clause-after c =
    let old : MetaLinks = record { pool = c.self.inside.pool; drivers = c.self.inside.drivers.items } in
    let lt = rw (← c.self.view_is) at c.requires in
    let new : MetaLinks = record {
      pool = c.call.new.self;
      drivers = slice_set c.self.inside.drivers.items c.args.c c.note_refused.new.self;
    } in
    rw (← c.self.view_is) (refused_to (Unit {0}) c.one_transcript.ensures c.sent_requests.ensures c.args.c (call_of c.args.call.now)
    c.in-Err.reason old new c.index_mut-in_default.result.now c.note_refused.new.self c.in_default.not-Memory lt
    (c.in-Err.ensures.after c.in_default.not-Memory) c.in-Err.ensures.returned
    (driver_at old.drivers old.pool.connections c.args.c _ c.index_mut-in_default.result.now c.self.invariant lt c.index_mut-in_default.ensures.value)
    c.note_refused.ensures refl c.in-Err.ensures.rest.size)
