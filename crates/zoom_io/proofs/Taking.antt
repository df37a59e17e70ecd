-- What taking a message does to a talk.
use Rattle.std.proofs.Common.{◌≡◌, ◌∙◌, sym, ap, subst, ℕ, suc, ◌<◌, Bool, true, false, cond, List, ◌∷◌, ◌++◌, length, Result, Ok, Err, refl}
use Rattle.zorigin.specs.declared.answer.Taken.{Taken}
use Rattle.zorigin.specs.declared.answer.Taken.TheVariants as taken
use Rattle.zorigin.specs.declared.refusal.Refused.{Refused}
use Rattle.zorigin.specs.Replies.{verdict}
use Rattle.zorigin.specs.Log.{Got, standing}
use Rattle.zber.specs.declared.fault.FaultKind.TheVariants as kinds
use Rattle.zoom_questions.specs.declared.question.Question.{Question}
use Rattle.zoom_questions.specs.declared.question.MetaSettings.{MetaSettings}
use Rattle.zoom_pool.specs.declared.state.State.TheVariants as states
use Rattle.zoom_pool.specs.declared.state.Reason.TheVariants as reasons
use Rattle.zoom_pool.specs.declared.step.Step.{Step}
use Rattle.zoom_pool.specs.declared.step.Step.TheVariants as steps
use Rattle.zoom_pool.specs.declared.step.TakeError.{TakeError}
use Rattle.zoom_pool.specs.declared.step.TakeError.TheVariants as errors
use Rattle.zoom_pool.specs.States.{is_stopped, is_closing}
use Rattle.zoom_pool.specs.Inputs.{Input, AlreadyStopped, Message, Foreign, Fault, Rest, Nothing}
use Rattle.zoom_pool.specs.Transcripts.{Transcript, IsTranscript, Took, InputEnded, NextInput, take_result, take_result_of_verdict, after_take, after_reply, after_stop, end_by, truncated, state_at, past_of, is_message, HasFoundMemory}
use Rattle.zoom_pool.specs.History.{History, events_on}
use Rattle.zoom_pool.specs.PoolSteps.{IsTakeResult}
use Rattle.zoom_pool.specs.Laws.{OneInput, OneTranscript}
use Rattle.zoom_pool.specs.Metas.{MetaLinks, MetaAfterPartial, MetaTakeStep, settings_of}
use Rattle.zoom_pool.proofs.Pools.{only_same}
use Rattle.zoom_pool.proofs.Metas.{transcript_at}
use Rattle.zoom_pool.proofs.MetaTakes.{took_within}
use Rattle.zoom_io.specs.declared.talk_steps.Receipt.TheVariants as receipts
use Rattle.zoom_devices.specs.Devices.{DeviceState}
use Rattle.zoom_io.specs.TalkTraces.{Stage, Due, Listening, Waiting, Over, IsAtStage, IsNextStep, IsStoppedAt, IsGoingBefore, take_count, TalkTrace, beginning, due_sent, message_taken, none_taken, stop_taken, piece_read, input_end}
use Rattle.zoom_io.specs.TalkSteps.{AfterTakeMessage, TakingStep, receipt_of}
use Rattle.zoom_io.proofs.Going.{going_until}
use Rattle.zoom_io.proofs.Completing.{IsLive, live_going, message_live, took_whole}

-- ---- steps after which the connection is Closed or Failed

abbrev IsLast : Result Step TakeError → Type 0
IsLast (Ok steps.Ended) = Unit {0}
IsLast (Ok steps.Stopped) = Unit {0}
IsLast (Ok _) = ⊥
IsLast (Err e) = Unit {0}

process_last : (p : Transcript) (r : Result Taken Refused) → IsLast (take_result_of_verdict r) → is_stopped (state_at (after_reply p r)) ≡ true
process_last p (Ok (taken.Opened a)) l = absurd l
process_last p (Ok (taken.Rejected a)) l = absurd l
process_last p (Ok (taken.Answered a)) l = absurd l
process_last p (Ok taken.Closed) l = absurd l
process_last p (Err reason) l = refl

end_last : (p : Transcript) → is_stopped (state_at (end_by p)) ≡ true
end_last p = elim (is_closing (state_at p)) as (λ b. is_stopped (cond b states.Closed (states.Failed reasons.Ended)) ≡ true)
    [ true ↦ refl | false ↦ refl ]

rest_last : (p : Transcript) (n : ℕ) (b : Bool)
    → IsLast (cond b (Err (errors.Frame kinds.Truncated n)) (Ok steps.Nothing))
    → is_stopped (state_at (cond b (after_stop p (truncated n)) p)) ≡ true
rest_last p n true l = refl
rest_last p n false l = absurd l

none_last : (p : Transcript) (b : Bool) → IsLast (Ok (cond b steps.Ended steps.Nothing))
    → is_stopped (state_at (cond b (end_by p) p)) ≡ true
none_last p true l = end_last p
none_last p false l = absurd l

take_last : (p : Transcript) (input : Input) → NextInput p input → IsLast (take_result p input) → is_stopped (state_at (after_take p input)) ≡ true
take_last p AlreadyStopped m l = m
take_last p (Message v) m l =
    process_last (record p { taken = suc p.taken; log = Got v ∷ p.log }) (verdict (standing (past_of p)) v) l
take_last p (Foreign error) m l = refl
take_last p (Fault kind at) m l = refl
take_last p (Rest n) m l = rest_last p n p.ended l
take_last p Nothing m l = none_last p p.ended l

-- ---- the end of the input, when no message is waiting

abbrev IsNothing : Result Step TakeError → Type 0
IsNothing (Ok steps.Nothing) = Unit {0}
IsNothing (Ok _) = ⊥
IsNothing (Err e) = ⊥

outcome_some : (r : Result Taken Refused) → IsNothing (take_result_of_verdict r) → ⊥
outcome_some (Ok (taken.Opened a)) l = l
outcome_some (Ok (taken.Rejected a)) l = l
outcome_some (Ok (taken.Answered a)) l = l
outcome_some (Ok taken.Closed) l = l
outcome_some (Err reason) l = l

rest_kept : (p : Transcript) (n : ℕ) (b : Bool)
    → IsNothing (cond b (Err (errors.Frame kinds.Truncated n)) (Ok steps.Nothing))
    → cond b (after_stop p (truncated n)) p ≡ p
rest_kept p n true l = absurd l
rest_kept p n false l = refl

none_kept : (p : Transcript) (b : Bool) → IsNothing (Ok (cond b steps.Ended steps.Nothing)) → cond b (end_by p) p ≡ p
none_kept p true l = absurd l
none_kept p false l = refl

-- A take that returned `Nothing` changed nothing.
take_none : (p : Transcript) (input : Input) → IsNothing (take_result p input) → after_take p input ≡ p
take_none p AlreadyStopped l = absurd l
take_none p (Message v) l = absurd (outcome_some (verdict (standing (past_of p)) v) l)
take_none p (Foreign error) l = absurd l
take_none p (Fault kind at) l = absurd l
take_none p (Rest n) l = rest_kept p n p.ended l
take_none p Nothing l = none_kept p p.ended l

abbrev ended_at : Transcript → Transcript
ended_at p = record p { ended = true }

-- The next take stops the connection, if the input has ended since.
dry_last : OneInput → (p : Transcript) (m n : Input) → NextInput p m → IsNothing (take_result p m) → NextInput (ended_at p) n
    → is_stopped (state_at (after_take (ended_at p) n)) ≡ true
dry_last meeting p m AlreadyStopped at l then = then
dry_last meeting p m (Message v) at l then =
    absurd (outcome_some (verdict (standing (past_of p)) v)
    (subst (λ z. IsNothing (take_result p z)) (meeting p m (Message v) at then) l))
dry_last meeting p m (Foreign error) at l then = refl
dry_last meeting p m (Fault kind at_octet) at l then = refl
dry_last meeting p m (Rest n) at l then = refl
dry_last meeting p m Nothing at l then = end_last (ended_at p)

dry_stopped : OneInput → (s : MetaSettings) (c : ℕ) (h : History) → IsNextStep s c h steps.Nothing
    → IsStoppedAt s c ((c, Took) ∷ (c, InputEnded) ∷ (c, Took) ∷ h)
dry_stopped meeting s c h next p transcript =
    let mine : events_on c ((c, Took) ∷ (c, InputEnded) ∷ (c, Took) ∷ h) ≡ Took ∷ InputEnded ∷ Took ∷ events_on c h =
    only_same c Took ((c, InputEnded) ∷ (c, Took) ∷ h)
    ∙ ap (λ z. Took ∷ z) (only_same c InputEnded ((c, Took) ∷ h) ∙ ap (λ z. InputEnded ∷ z) (only_same c Took h)) in
    by (subst (λ z. IsTranscript (settings_of s) z p) mine transcript)
  where
    by : IsTranscript (settings_of s) (Took ∷ InputEnded ∷ Took ∷ events_on c h) p → is_stopped (state_at p) ≡ true
    by last =
        let ended = last.1 in
        let first = ended.1 in
        let was : Transcript = first.0 in
        let took = first.2 in
        let then = last.2 in
        let t = next was first.1 in
        let nothing : IsNothing (take_result was took.0) =
        subst (λ z. IsNothing (take_result was z)) (meeting was t.0 took.0 t.1 took.1) (subst IsNothing (sym t.2) tt) in
        let same : last.0 ≡ ended_at was = ended.2 ∙ ap ended_at (took.2 ∙ take_none was took.0 nothing) in
        subst (λ z. is_stopped (state_at z) ≡ true) (sym (then.2 ∙ ap (λ z. after_take z then.0) same))
        (dry_last meeting was took.0 then.0 took.1 nothing (subst (λ z. NextInput z then.0) same then.1))

-- A talk in which no message was waiting.
pub ends_stopped : OneInput → {q : List Question} {s : MetaSettings} {c : ℕ} {h more : History}
    {read written : List ℕ} {n : ℕ} {stage : Stage} → TalkTrace q s c h more read written n stage → stage ≡ Waiting
    → IsStoppedAt s c ((c, Took) ∷ (c, InputEnded) ∷ (more ++ h))
ends_stopped meeting {s = s} {c = c} {h = h} (none_taken {more = more} f next) is = dry_stopped meeting s c (more ++ h) next
ends_stopped meeting beginning is = absurd cc
ends_stopped meeting (due_sent calls octets f idle all) is = absurd cc
ends_stopped meeting (message_taken step f next m) is = absurd cc
ends_stopped meeting (stop_taken f) is = absurd cc
ends_stopped meeting (piece_read piece f some few) is = absurd cc
ends_stopped meeting (input_end f) is = absurd cc

-- ---- what a take returns

module _ (hearing : OneTranscript) (meeting : OneInput) (c : ℕ) (old new : MetaLinks)
    (lt : c < length old.pool.connections) (answer : Result Step TakeError) (done : HasFoundMemory answer)
    (is_answer : IsTakeResult c old.pool answer) (took : MetaTakeStep c old new)
  where
    answered : (q : List Question) (s : MetaSettings) (partial : List ℕ) (h : History) → MetaAfterPartial q s partial h old
        → (p : Transcript) → IsTranscript (settings_of s) (events_on c h) p → (input : Input) × NextInput p input × (answer ≡ take_result p input)
    answered q s partial h a p transcript =
        let now = transcript_at (settings_of s) h a.pool.transcript old.pool.connections c a.pool.stands lt in
        let is : a.pool.transcript c ≡ p = hearing (settings_of s) (events_on c h) (a.pool.transcript c) p now transcript in
        subst (λ z. (input : Input) × NextInput z input × (answer ≡ take_result z input)) is
        (is_answer (settings_of s) partial h a.pool done)

    stopped_after : IsLast answer → (q : List Question) (s : MetaSettings) (partial : List ℕ) (h : History) → MetaAfterPartial q s partial h old
        → IsStoppedAt s c ((c, Took) ∷ h)
    stopped_after last q s partial h a p transcript =
        let then = subst (λ z. IsTranscript (settings_of s) z p) (only_same c Took h) transcript in
        let was : Transcript = then.0 in
        let t = answered q s partial h a was then.1 in
        let m = then.2 in
        let one : t.0 ≡ m.0 = meeting was t.0 m.0 t.1 m.1 in
        let halves = take_last was t.0 t.1 (subst IsLast t.2 last) in
        subst (λ z. is_stopped (state_at z) ≡ true) (sym (m.2 ∙ ap (after_take was) (sym one))) halves

    -- The connection was neither Closed nor Failed before a take that did not find it so.
    lively : IsLive answer → (q : List Question) (s : MetaSettings) (partial : List ℕ) (h : History)
        (a : MetaAfterPartial q s partial h old) → is_stopped (state_at (a.pool.transcript c)) ≡ false
    lively live q s partial h a =
        let t = is_answer (settings_of s) partial h a.pool done in
        live_going (a.pool.transcript c) t.0 t.1 (subst IsLive t.2 live)

    goes : (to : Stage)
        → ((q : List Question) (s : MetaSettings) (partial : List ℕ) (h : History) → MetaAfterPartial q s partial h old
        → IsAtStage to s c ((c, Took) ∷ h))
        → ((q : List Question) (s : MetaSettings) (partial : List ℕ) (h more : History) (read written : List ℕ) (reads : ℕ)
        → MetaAfterPartial q s partial (more ++ h) old → TalkTrace q s c h more read written reads Listening
        → TalkTrace q s c h ((c, Took) ∷ more) read written reads to)
        → ((q : List Question) (s : MetaSettings) (partial : List ℕ) (h more : History) (read written : List ℕ) (reads : ℕ)
        (a : MetaAfterPartial q s partial (more ++ h) old) → TalkTrace q s c h more read written reads Listening
        → take_count more ≡ 0 → IsGoingBefore to s c h → is_stopped (state_at (a.pool.transcript c)) ≡ false)
        → (left held : DeviceState) → TakingStep c Listening to old new left held held
    goes to stands trace goes_on left held = record {
      step = record {
        on = λ q s partial h reads source sink t. record {
          more = (c, Took) ∷ t.more;
          read = t.read;
          written = t.written;
          trace = trace q s partial h t.more t.read t.written reads t.known.0 t.trace;
          known = (
            took_within c old new took q s partial (t.more ++ h) t.known.0,
            stands q s partial (t.more ++ h) t.known.0,
          );
          consumed = t.consumed;
          appended = t.appended;
        };
        reader = refl;
        writer = refl;
      };
      taken = λ q s partial h reads source sink t. refl;
      completes = λ q s partial h reads source sink t none going. record {
        more = (c, Took) ∷ t.more;
        read = t.read;
        written = t.written;
        trace = trace q s (c ∷ partial) h t.more t.read t.written reads t.known.0 t.trace;
        known = (
          took_whole c old new took q s partial (t.more ++ h) t.known.0
              (goes_on q s (c ∷ partial) h t.more t.read t.written reads t.known.0 t.trace none going),
          stands q s (c ∷ partial) (t.more ++ h) t.known.0,
        );
        consumed = t.consumed;
        appended = t.appended;
      };
    }

    over : IsLast answer → (left held : DeviceState) → TakingStep c Listening Over old new left held held
    over last =
        goes Over (stopped_after last) (λ q s partial h more read written reads a f. stop_taken f)
        (λ q s partial h more read written reads a f none going. going_until f none going (a.pool.transcript c)
        (transcript_at (settings_of s) (more ++ h) a.pool.transcript old.pool.connections c a.pool.stands lt))

    next_step : (step : Step) → answer ≡ Ok step → (q : List Question) (s : MetaSettings) (partial : List ℕ) (h : History) → MetaAfterPartial q s partial h old
        → IsNextStep s c h step
    next_step step is q s partial h a p transcript = let t = answered q s partial h a p transcript in (t.0, t.1, sym t.2 ∙ is)

    message : (step : Step) → answer ≡ Ok step → is_message step ≡ true
        → (left held : DeviceState) → TakingStep c Listening Due old new left held held
    message step is m =
        goes Due (λ q s partial h a. tt)
        (λ q s partial h more read written reads a f. message_taken step f (next_step step is q s partial (more ++ h) a) m)
        (λ q s partial h more read written reads a f none going.
        lively (subst IsLive (sym is) (message_live step m)) q s partial (more ++ h) a)

    nothing : answer ≡ Ok steps.Nothing → (left held : DeviceState) → TakingStep c Listening Waiting old new left held held
    nothing is =
        goes Waiting (λ q s partial h a. tt)
        (λ q s partial h more read written reads a f. none_taken f (next_step steps.Nothing is q s partial (more ++ h) a))
        (λ q s partial h more read written reads a f none going.
        lively (subst IsLive (sym is) tt) q s partial (more ++ h) a)

-- A take that returned a step.
pub taken_step : OneTranscript → OneInput → (c : ℕ) (old new : MetaLinks) → c < length old.pool.connections
    → (step : Step) → IsTakeResult c old.pool (Ok step) → MetaTakeStep c old new → AfterTakeMessage c (receipt_of step) old new
taken_step hearing meeting c old new lt steps.Opened a t =
    message hearing meeting c old new lt (Ok steps.Opened) tt a t steps.Opened refl refl
taken_step hearing meeting c old new lt steps.Rejected a t =
    message hearing meeting c old new lt (Ok steps.Rejected) tt a t steps.Rejected refl refl
taken_step hearing meeting c old new lt steps.Answered a t =
    message hearing meeting c old new lt (Ok steps.Answered) tt a t steps.Answered refl refl
taken_step hearing meeting c old new lt steps.Closed a t =
    message hearing meeting c old new lt (Ok steps.Closed) tt a t steps.Closed refl refl
taken_step hearing meeting c old new lt steps.Nothing a t =
    nothing hearing meeting c old new lt (Ok steps.Nothing) tt a t refl
taken_step hearing meeting c old new lt steps.Ended a t =
    over hearing meeting c old new lt (Ok steps.Ended) tt a t tt
taken_step hearing meeting c old new lt steps.Stopped a t =
    over hearing meeting c old new lt (Ok steps.Stopped) tt a t tt

-- A take that was refused, except for `Memory`.
pub taken_refusal : OneTranscript → OneInput → (c : ℕ) (old new : MetaLinks) → c < length old.pool.connections
    → (e : TakeError) → HasFoundMemory {A = Step} (Err e) → IsTakeResult c old.pool (Err e) → MetaTakeStep c old new
    → AfterTakeMessage c receipts.Over old new
taken_refusal hearing meeting c old new lt e done a t = over hearing meeting c old new lt (Err e) done a t tt
