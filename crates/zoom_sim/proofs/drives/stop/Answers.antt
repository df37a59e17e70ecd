use Rattle.std.proofs.Common.{inl, inr, refl, subst}
use Rattle.zoom_pool.specs.declared.state.Reason.TheVariants as reasons
use Rattle.zoom_pool.specs.Transcripts.{Stopped}
use Rattle.zoom_pool.specs.Metas.{IsTranscriptValue}
use Rattle.zoom_sim.specs.Run.{is_over}
use Rattle.zoom_sim.proofs.RunUnfinished.{adds_spares, recorded_adds}
use Rattle.zoom_sim.proofs.drives.stop.Goals as goal

pub returns-clause-after : goal.returns-clause-after
returns-clause-after c = inr (
  reasons.Turns,
  c.stop.ensures.after,
  subst (λ b. IsTranscriptValue c.args.c c.args.meta.now is_over b) c.if-is_over.false c.is_over.ensures,
)

pub returns-clause-unfinished_only : goal.returns-clause-unfinished_only
returns-clause-unfinished_only c =
    adds_spares c.args.c c.args.meta.now c.stop.new.self
    (subst (λ b. IsTranscriptValue c.args.c c.args.meta.now is_over b) c.if-is_over.false c.is_over.ensures)
    (recorded_adds c.args.c (Stopped reasons.Turns) c.args.meta.now c.stop.new.self c.stop.ensures.after)

pub returns-then-is_over-clause-own : goal.returns-then-is_over-clause-own
returns-then-is_over-clause-own c =
    inl (refl, subst (λ b. IsTranscriptValue c.args.c c.args.meta.now is_over b) c.if-is_over.true c.is_over.ensures)

pub returns-clause-own : goal.returns-clause-own
returns-clause-own c = inr (
  c.stop.ensures.after,
  subst (λ b. IsTranscriptValue c.args.c c.args.meta.now is_over b) c.if-is_over.false c.is_over.ensures,
)
