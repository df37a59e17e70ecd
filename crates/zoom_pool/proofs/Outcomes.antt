-- The result of a Take that a caller sees.
use Rattle.std.proofs.Common.{◌≡◌, ℕ, true, false, Result, Ok, Err, refl, ap, ◌∙◌, cond}
use Rattle.zber.specs.declared.fault.FaultKind.TheVariants as kinds
use Rattle.zorigin.specs.declared.answer.Taken.{Taken}
use Rattle.zorigin.specs.declared.refusal.Refused.{Refused}
use Rattle.zorigin.specs.Replies.{verdict}
use Rattle.zorigin.specs.Log.{standing}
use Rattle.zoom_pool.specs.declared.step.Step.TheVariants as steps
use Rattle.zoom_pool.specs.declared.step.Outcome.{Outcome}
use Rattle.zoom_pool.specs.declared.step.Outcome.TheVariants as outcome
use Rattle.zoom_pool.specs.declared.step.TakeError.{TakeError}
use Rattle.zoom_pool.specs.declared.step.TakeError.TheVariants as errors
use Rattle.zoom_pool.specs.Inputs.{Input, AlreadyStopped, Message, Foreign, Fault, Rest, Nothing}
use Rattle.zoom_pool.specs.Transcripts.{Transcript, past_of, take_result_of_verdict, outcome_of_reply, take_result, outcome_of, take_result_of_outcome, HasFoundMemory}
use Rattle.zoom_pool.specs.Links.{Links}
use Rattle.zoom_pool.specs.PoolSteps.{IsTakeResult, IsTakeOutcome}

stepped_by : (v : Result Taken Refused) → take_result_of_outcome (outcome_of_reply v) ≡ take_result_of_verdict v
stepped_by (Ok x) = refl
stepped_by (Err reason) = refl

pub result_of_step : (p : Transcript) (input : Input) → take_result_of_outcome (outcome_of p input) ≡ take_result p input
result_of_step p AlreadyStopped = refl
result_of_step p (Message v) = stepped_by (verdict (standing (past_of p)) v)
result_of_step p (Foreign error) = refl
result_of_step p (Fault kind at) = refl
result_of_step p (Rest n) = elim p.ended as (λ b. take_result_of_outcome (cond b (Err (errors.Frame kinds.Truncated n)) (Ok outcome.Nothing))
    ≡ cond b (Err (errors.Frame kinds.Truncated n)) (Ok steps.Nothing)) [ true ↦ refl | false ↦ refl ]
result_of_step p Nothing = elim p.ended as (λ b. take_result_of_outcome (Ok (cond b outcome.Ended outcome.Nothing))
    ≡ Ok (cond b steps.Ended steps.Nothing)) [ true ↦ refl | false ↦ refl ]

pub take_answer : (c : ℕ) (pool : Links) (answer : Result Outcome TakeError) → IsTakeOutcome c pool answer
    → IsTakeResult c pool (take_result_of_outcome answer)
take_answer c pool answer t settings d h a done =
    let is = t settings d h a (by answer done) in
    (is.0, is.1, ap take_result_of_outcome is.2 ∙ result_of_step (a.transcript c) is.0)
  where
    by : (z : Result Outcome TakeError) → HasFoundMemory (take_result_of_outcome z) → HasFoundMemory z
    by (Ok x) d = tt
    by (Err e) d = d
