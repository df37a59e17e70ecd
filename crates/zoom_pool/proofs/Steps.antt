-- When a Take returns Nothing, and when it returns Stopped.
use Rattle.std.proofs.Common.{◌≡◌, ◌⊎◌, inl, inr, ℕ, ◌<◌, Bool, true, false, cond, List, [], ◌∷◌, length, Result, Ok, Err, refl, ap, subst, arith}
use Rattle.zber.specs.declared.fault.FaultKind.TheVariants as kinds
use Rattle.zber.specs.Spelling.{HasFirstMessage}
use Rattle.zber.specs.Unfinished.{IsUnfinished}
use Rattle.zorigin.specs.declared.answer.Taken.{Taken}
use Rattle.zorigin.specs.declared.answer.Taken.TheVariants as taken
use Rattle.zorigin.specs.declared.refusal.Refused.{Refused}
use Rattle.zorigin.specs.Replies.{verdict}
use Rattle.zorigin.specs.Log.{standing}
use Rattle.zoom_pool.specs.declared.step.Step.{Step}
use Rattle.zoom_pool.specs.declared.step.Step.TheVariants as steps
use Rattle.zoom_pool.specs.declared.step.TakeError.{TakeError}
use Rattle.zoom_pool.specs.declared.step.TakeError.TheVariants as errors
use Rattle.zoom_pool.specs.States.{is_stopped}
use Rattle.zoom_pool.specs.Inputs.{Input, AlreadyStopped, Message, Foreign, Fault, Rest, Nothing, IsBehind}
use Rattle.zber.specs.declared.framer.TheConstants.{MESSAGE_LIMIT}
use Rattle.zoom_pool.specs.Transcripts.{Transcript, NextInput, state_at, past_of, take_result_of_verdict, take_result}
use Rattle.zoom_pool.specs.Laws.{OneInput, IsWaiting, TakeLaws}
use Rattle.zoom_pool.proofs.Uniqueness.{none_begins}

outcome_step : (v : Result Taken Refused) (s : Step) → (s ≡ steps.Nothing) ⊎ (s ≡ steps.Stopped) → take_result_of_verdict v ≡ Ok s → ⊥
outcome_step (Ok (taken.Opened a)) s (inl q) e = absurd (cc)
outcome_step (Ok (taken.Rejected a)) s (inl q) e = absurd (cc)
outcome_step (Ok (taken.Answered a)) s (inl q) e = absurd (cc)
outcome_step (Ok taken.Closed) s (inl q) e = absurd (cc)
outcome_step (Err r) s (inl q) e = absurd (cc)
outcome_step (Ok (taken.Opened a)) s (inr q) e = absurd (cc)
outcome_step (Ok (taken.Rejected a)) s (inr q) e = absurd (cc)
outcome_step (Ok (taken.Answered a)) s (inr q) e = absurd (cc)
outcome_step (Ok taken.Closed) s (inr q) e = absurd (cc)
outcome_step (Err r) s (inr q) e = absurd (cc)

empty_unfinished : (rest : List ℕ) → rest ≡ [] → IsUnfinished MESSAGE_LIMIT rest
empty_unfinished rest q = record {
  no_message = λ e more b. none_begins e more (subst (λ z. HasFirstMessage MESSAGE_LIMIT z e more) q b);
  no_fault = λ k at f. absurd (omega (arith, f.some, ap length q));
}

rest_answer : (b : Bool) (n : ℕ) → cond b (Err (errors.Frame kinds.Truncated n)) (Ok steps.Nothing) ≡ Ok steps.Nothing
    → b ≡ false
rest_answer true n e = absurd (cc)
rest_answer false n e = refl

end_answer : (b : Bool) → ◌≡◌ {A = Result Step TakeError} (Ok (cond b steps.Ended steps.Nothing)) (Ok steps.Nothing)
    → b ≡ false
end_answer true e = absurd (cc)
end_answer false e = refl

waits : (p : Transcript) (input : Input) → NextInput p input → take_result p input ≡ Ok steps.Nothing → IsWaiting p
waits p AlreadyStopped m e = absurd (cc)
waits p (Message v) m e = absurd (outcome_step (verdict (standing (past_of p)) v) steps.Nothing (inl refl) e)
waits p (Foreign error) m e = absurd (cc)
waits p (Fault k at) m e = absurd (cc)
waits p (Rest n) m e = record {
  is_going = m.0;
  more = rest_answer p.ended n e;
  rest = m.1;
  behind = m.2;
  unfinished =
      m.3.2;
}
waits p Nothing m e = record {
  is_going = m.0;
  more = end_answer p.ended e;
  rest = m.1;
  behind = m.2;
  unfinished =
      empty_unfinished m.1 m.3;
}

input_waiting : (p : Transcript) (rest : List ℕ) → is_stopped (state_at p) ≡ false → p.ended ≡ false
    → IsBehind p.stream p.taken rest → IsUnfinished MESSAGE_LIMIT rest
    → (input : Input) × NextInput p input × (take_result p input ≡ Ok steps.Nothing)
input_waiting p [] s e b u = (Nothing, (s, [], b, refl), rw e refl)
input_waiting p (x ∷ xs) s e b u = (
  Rest (length (x ∷ xs)),
  (
    s,
    x ∷ xs,
    b,
    ((let n : 0 < length (x ∷ xs) = omega arith in n), refl, u),
  ),
  rw e refl,
)

stopped_so : (p : Transcript) (input : Input) → NextInput p input → take_result p input ≡ Ok steps.Stopped → is_stopped (state_at p) ≡ true
stopped_so p AlreadyStopped m e = m
stopped_so p (Message v) m e = absurd (outcome_step (verdict (standing (past_of p)) v) steps.Stopped (inr refl) e)
stopped_so p (Foreign error) m e = absurd (cc)
stopped_so p (Fault k at) m e = absurd (cc)
stopped_so p (Rest n) m e = absurd (by p.ended e)
  where
    by : (b : Bool) → cond b (Err (errors.Frame kinds.Truncated n)) (Ok steps.Nothing) ≡ Ok steps.Stopped → ⊥
    by true e = absurd (cc)
    by false e = absurd (cc)
stopped_so p Nothing m e = absurd (by p.ended e)
  where
    by : (b : Bool) → ◌≡◌ {A = Result Step TakeError} (Ok (cond b steps.Ended steps.Nothing)) (Ok steps.Stopped) → ⊥
    by true e = absurd (cc)
    by false e = absurd (cc)

pub take_laws : OneInput → TakeLaws
take_laws meeting = record {
  nothing = λ p input m. (
    waits p input m,
    λ w. (
        let other = input_waiting p w.rest w.is_going w.more w.behind w.unfinished in
        subst (λ z. take_result p z ≡ Ok steps.Nothing) (meeting p other.0 input other.1 m) other.2),
  );
  stopped = λ p input m. (
    stopped_so p input m,
    λ s. (let is : AlreadyStopped ≡ input = meeting p AlreadyStopped input s m in
        subst (λ z. take_result p z ≡ Ok steps.Stopped) is refl),
  );
}
