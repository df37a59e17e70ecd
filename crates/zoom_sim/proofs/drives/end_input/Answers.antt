use Rattle.std.proofs.Common.{inl, inr, refl, subst}
use Rattle.std.proofs.lemmas.Result.{IfOk-weaker}
use Rattle.zoom_pool.specs.Transcripts.{InputEnded}
use Rattle.zoom_pool.specs.Metas.{IsTranscriptValue}
use Rattle.zoom_sim.specs.Run.{is_over}
use Rattle.zoom_sim.proofs.RunSilentSteps.{goes_trans, recorded_silent}
use Rattle.zoom_sim.proofs.RunTakes.{adds_trans, quiet_adds}
use Rattle.zoom_sim.proofs.RunUnfinished.{adds_spares, recorded_quiet}
use Rattle.zoom_sim.proofs.drives.end_input.Goals as goal

pub returns-clause-silent : goal.returns-clause-silent
returns-clause-silent c = IfOk-weaker c.take_all.result _ _ (λ _ g.
    goes_trans c.args.meta.now c.end.new.self c.take_all.new.meta
    (recorded_silent c.args.c InputEnded c.args.meta.now c.end.new.self tt c.end.ensures.after) g) c.take_all.ensures.silent

pub returns-clause-unfinished_only : goal.returns-clause-unfinished_only
returns-clause-unfinished_only c = IfOk-weaker c.take_all.result _ _ (λ _ more.
    adds_spares c.args.c c.args.meta.now c.take_all.new.meta
    (subst (λ b. IsTranscriptValue c.args.c c.args.meta.now is_over b) c.if-is_over.false c.is_over.ensures)
    (quiet_adds c.args.c c.args.meta.now c.take_all.new.meta
    (adds_trans c.args.c c.args.meta.now c.end.new.self c.take_all.new.meta
    (recorded_quiet c.args.c InputEnded c.args.meta.now c.end.new.self tt c.end.ensures.after) more)))
    c.take_all.ensures.adds

pub returns-then-is_over-clause-own : goal.returns-then-is_over-clause-own
returns-then-is_over-clause-own c =
    inl (refl, subst (λ b. IsTranscriptValue c.args.c c.args.meta.now is_over b) c.if-is_over.true c.is_over.ensures)

pub returns-clause-own : goal.returns-clause-own
returns-clause-own c = IfOk-weaker c.take_all.result _ _ (λ _ driven. inr (
  record { ended = c.end.new.self; ends = c.end.ensures.after; driven = driven },
  subst (λ b. IsTranscriptValue c.args.c c.args.meta.now is_over b) c.if-is_over.false c.is_over.ensures,
)) c.take_all.ensures.own
