use Rattle.std.proofs.Common.{Ok, Err, refl, subst, sym, slice_set}
use Rattle.zoom_pool.specs.PoolSteps.{IsTakeResult}
use Rattle.zoom_pool.specs.Metas.{MetaLinks}
use Rattle.zoom_pool.proofs.Outcomes.{take_answer}
use Rattle.zoom_pool.proofs.Metas.{took_meta, refused_meta, learns}
use Rattle.zoom_pool.proofs.Advancing.{driver_at}
use Rattle.zoom_pool.proofs.meta.Meta.take.Goals as goal

pub returns-in-Ok-clause-returned : goal.returns-in-Ok-clause-returned
returns-in-Ok-clause-returned c = rw (← c.self.view_is)
    (subst (λ z. IsTakeResult c.args.c c.self.inside.pool (Ok z)) (sym c.step_of.ensures)
    (take_answer c.args.c c.self.inside.pool (Ok c.in-Ok.outcome) c.in-Ok.ensures.returned))

pub returns-in-Ok-clause-after : goal.returns-in-Ok-clause-after
returns-in-Ok-clause-after c =
    let old : MetaLinks = record { pool = c.self.inside.pool; drivers = c.self.inside.drivers.items } in
    let lt = rw (← c.self.view_is) at c.requires in
    let new : MetaLinks = record {
      pool = c.take_outcome.new.self;
      drivers = slice_set c.self.inside.drivers.items c.args.c c.note_take.new.driver;
    } in
    rw (← c.self.view_is) (λ done. took_meta c.one_input.ensures c.one_transcript.ensures c.args.c old new
    c.index_mut.result.now c.note_take.new.driver (Ok c.in-Ok.outcome) c.in-Ok.ensures.returned tt
    (c.in-Ok.ensures.after tt) lt
    (driver_at old.drivers old.pool.connections c.args.c _ c.index_mut.result.now c.self.invariant lt c.index_mut.ensures.value)
    (learns c.refused_law.ensures c.in-Ok.outcome c.index_mut.result.now c.note_take.new.driver c.note_take.ensures) refl
    c.in-Ok.ensures.others.size)

pub returns-in-Err-clause-returned : goal.returns-in-Err-clause-returned
returns-in-Err-clause-returned c = rw (← c.self.view_is)
    (take_answer c.args.c c.self.inside.pool (Err c.in-Err.error) c.in-Err.ensures.returned)

pub returns-in-Err-clause-after : goal.returns-in-Err-clause-after
returns-in-Err-clause-after c =
    let old : MetaLinks = record { pool = c.self.inside.pool; drivers = c.self.inside.drivers.items } in
    let lt = rw (← c.self.view_is) at c.requires in
    let new : MetaLinks = record { pool = c.take_outcome.new.self; drivers = c.self.inside.drivers.items } in
    rw (← c.self.view_is) (λ done. refused_meta c.one_input.ensures c.one_transcript.ensures c.refused_law.ensures c.args.c
    old new c.in-Err.error c.in-Err.ensures.returned done (c.in-Err.ensures.after done) lt refl c.in-Err.ensures.others.size)

pub returns-in-Ok-clause-waiting : goal.returns-in-Ok-clause-waiting
returns-in-Ok-clause-waiting c = rw (← c.self.view_is) c.in-Ok.ensures.waiting

pub returns-in-Err-clause-waiting : goal.returns-in-Err-clause-waiting
returns-in-Err-clause-waiting c = rw (← c.self.view_is) c.in-Err.ensures.waiting

pub returns-in-Ok-clause-grows : goal.returns-in-Ok-clause-grows
returns-in-Ok-clause-grows c = rw (← c.self.view_is) c.in-Ok.ensures.grows

pub returns-in-Err-clause-grows : goal.returns-in-Err-clause-grows
returns-in-Err-clause-grows c = rw (← c.self.view_is) c.in-Err.ensures.grows
