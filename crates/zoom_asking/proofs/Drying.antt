-- A connection on which no message is waiting: once its input has ended, the next take stops it.
use Rattle.std.proofs.Common.{◌≡◌, ◌∙◌, ◌⊎◌, inl, inr, sym, ap, subst, ℕ, suc, Bool, true, false, cond, List, [], ◌∷◌, ◌++◌, map, is_some, Result, Ok, Err, refl}
use Rattle.zber.specs.Laws.{nothing}
use Rattle.zber.specs.declared.fault.FaultKind.TheVariants as kinds
use Rattle.zorigin.specs.declared.answer.Taken.{Taken}
use Rattle.zorigin.specs.declared.answer.Taken.TheVariants as taken
use Rattle.zorigin.specs.declared.refusal.Refused.{Refused}
use Rattle.zorigin.specs.declared.settings.Settings.{Settings}
use Rattle.zorigin.specs.Standings.{Call}
use Rattle.zorigin.specs.Replies.{verdict}
use Rattle.zorigin.specs.Log.{Made, Got, standing}
use Rattle.zoom_questions.specs.declared.question.Question.{Question}
use Rattle.zoom_questions.specs.declared.question.MetaSettings.{MetaSettings}
use Rattle.zoom_pool.specs.declared.state.State.TheVariants as states
use Rattle.zoom_pool.specs.declared.state.Reason.{Reason}
use Rattle.zoom_pool.specs.declared.state.Reason.TheVariants as reasons
use Rattle.zoom_pool.specs.declared.step.Step.{Step}
use Rattle.zoom_pool.specs.declared.step.Step.TheVariants as steps
use Rattle.zoom_pool.specs.declared.step.TakeError.{TakeError}
use Rattle.zoom_pool.specs.declared.step.TakeError.TheVariants as errors
use Rattle.zoom_pool.specs.States.{is_stopped, is_closing}
use Rattle.zoom_pool.specs.Inputs.{Input, AlreadyStopped, Message, Foreign, Fault, Rest, Nothing, IsBehind}
use Rattle.zoom_pool.specs.Transcripts.{Transcript, IsTranscript, Event, Called, Took, InputEnded, Stopped, NextInput, take_result, take_result_of_verdict, after_call, after_take, after_reply, after_stop, end_by, truncated, state_at, past_of}
use Rattle.zoom_pool.specs.Laws.{OneInput}
use Rattle.zoom_pool.specs.Metas.{settings_of}
use Rattle.zoom_asking.specs.Talks.{IsLastResult, IsDriven, AreTaken, one, none, last}
use Rattle.zoom_asking.specs.Laws.{HasEnded}

-- ---- steps after which the connection is Closed or Failed

-- the connection is Closed or Failed
abbrev pub IsOver : Transcript → Type 0
IsOver p = is_stopped (state_at p) ≡ true

reply_last : (p : Transcript) (r : Result Taken Refused) → IsLastResult (take_result_of_verdict r)
    → IsOver (after_reply p r)
reply_last p (Ok (taken.Opened a)) l = absurd l
reply_last p (Ok (taken.Rejected a)) l = absurd l
reply_last p (Ok (taken.Answered a)) l = absurd l
reply_last p (Ok taken.Closed) l = absurd l
reply_last p (Err reason) l = refl

end_last : (p : Transcript) → IsOver (end_by p)
end_last p =
    elim (is_closing (state_at p)) as (λ b. is_stopped (cond b states.Closed (states.Failed reasons.Ended)) ≡ true)
    [ true ↦ refl | false ↦ refl ]

rest_last : (p : Transcript) (n : ℕ) (b : Bool)
    → IsLastResult (cond b (Err (errors.Frame kinds.Truncated n)) (Ok steps.Nothing))
    → IsOver (cond b (after_stop p (truncated n)) p)
rest_last p n true l = refl
rest_last p n false l = absurd l

none_last : (p : Transcript) (b : Bool) → IsLastResult (Ok (cond b steps.Ended steps.Nothing))
    → IsOver (cond b (end_by p) p)
none_last p true l = end_last p
none_last p false l = absurd l

-- The take returned the end of the talk.
take_last : (p : Transcript) (input : Input) → NextInput p input → IsLastResult (take_result p input)
    → IsOver (after_take p input)
take_last p AlreadyStopped m l = m
take_last p (Message v) m l =
    reply_last (record p { taken = suc p.taken; log = Got v ∷ p.log }) (verdict (standing (past_of p)) v) l
take_last p (Foreign error) m l = refl
take_last p (Fault kind at) m l = refl
take_last p (Rest n) m l = rest_last p n p.ended l
take_last p Nothing m l = none_last p p.ended l

apart : {A : Type 0} (b : Bool) → b ≡ true → b ≡ false → A
apart b on off = absurd cc

-- A connection that is over stays so.
over_stays : (p : Transcript) (input : Input) → NextInput p input → IsOver p → IsOver (after_take p input)
over_stays p AlreadyStopped m over = over
over_stays p (Message v) m over = apart (is_stopped (state_at p)) over m.0
over_stays p (Foreign error) m over = apart (is_stopped (state_at p)) over m.0
over_stays p (Fault kind at) m over = apart (is_stopped (state_at p)) over m.0
over_stays p (Rest n) m over = apart (is_stopped (state_at p)) over m.0
over_stays p Nothing m over = apart (is_stopped (state_at p)) over m.0

-- ---- the end of the input, when no message is waiting

abbrev IsNothing : Result Step TakeError → Type 0
IsNothing (Ok steps.Nothing) = Unit {0}
IsNothing (Ok _) = ⊥
IsNothing (Err e) = ⊥

outcome_some : (r : Result Taken Refused) → IsNothing (take_result_of_verdict r) → ⊥
outcome_some (Ok (taken.Opened a)) l = l
outcome_some (Ok (taken.Rejected a)) l = l
outcome_some (Ok (taken.Answered a)) l = l
outcome_some (Ok taken.Closed) l = l
outcome_some (Err reason) l = l

rest_kept : (p : Transcript) (n : ℕ) (b : Bool)
    → IsNothing (cond b (Err (errors.Frame kinds.Truncated n)) (Ok steps.Nothing))
    → cond b (after_stop p (truncated n)) p ≡ p
rest_kept p n true l = absurd l
rest_kept p n false l = refl

none_kept : (p : Transcript) (b : Bool) → IsNothing (Ok (cond b steps.Ended steps.Nothing)) → cond b (end_by p) p ≡ p
none_kept p true l = absurd l
none_kept p false l = refl

-- A take that returned `Nothing` changed nothing.
take_none : (p : Transcript) (input : Input) → IsNothing (take_result p input) → after_take p input ≡ p
take_none p AlreadyStopped l = absurd l
take_none p (Message v) l = absurd (outcome_some (verdict (standing (past_of p)) v) l)
take_none p (Foreign error) l = absurd l
take_none p (Fault kind at) l = absurd l
take_none p (Rest n) l = rest_kept p n p.ended l
take_none p Nothing l = none_kept p p.ended l

abbrev ended_at : Transcript → Transcript
ended_at p = record p { ended = true }

-- The next take stops the connection, if the input has ended since.
dry_last : OneInput → (p : Transcript) (m n : Input) → NextInput p m → IsNothing (take_result p m)
    → NextInput (ended_at p) n → IsOver (after_take (ended_at p) n)
dry_last meeting p m AlreadyStopped at l then = then
dry_last meeting p m (Message v) at l then =
    absurd (outcome_some (verdict (standing (past_of p)) v)
    (subst (λ z. IsNothing (take_result p z)) (meeting p m (Message v) at then) l))
dry_last meeting p m (Foreign error) at l then = refl
dry_last meeting p m (Fault kind at_octet) at l then = refl
dry_last meeting p m (Rest n) at l then = refl
dry_last meeting p m Nothing at l then = end_last (ended_at p)

-- ---- connections on which no message is waiting

-- the next take finds no whole message
abbrev pub IsDry : Transcript → Type 0
IsDry p = (input : Input) × NextInput p input × IsNothing (take_result p input)

-- a connection with these events is over, or no message is waiting on it
abbrev pub IsDriedUp : MetaSettings → List Event → Type 0
IsDriedUp s events = (p : Transcript) → IsTranscript (settings_of s) events p → IsOver p ⊎ IsDry p

-- It was stopped.
pub stop_ends : (s : MetaSettings) (reason : Reason) (events : List Event) → HasEnded s (Stopped reason ∷ events)
stop_ends s reason events p t = ap (λ z. is_stopped (state_at z)) t.2

-- Its input ended.
pub end_ends : OneInput → (s : MetaSettings) (events : List Event) → IsDriedUp s events
    → HasEnded s (Took ∷ InputEnded ∷ events)
end_ends meeting s events dry p t = by (dry was ended.1)
  where
    ended : IsTranscript (settings_of s) (InputEnded ∷ events) t.0
    ended = t.1

    was : Transcript
    was = ended.0

    then : NextInput (ended_at was) t.2.0
    then = subst (λ z. NextInput z t.2.0) ended.2 t.2.1

    is : after_take (ended_at was) t.2.0 ≡ p
    is = sym (t.2.2 ∙ ap (λ z. after_take z t.2.0) ended.2)

    by : IsOver was ⊎ IsDry was → IsOver p
    by (inl over) = subst IsOver is (over_stays (ended_at was) t.2.0 then over)
    by (inr d) = subst IsOver is (dry_last meeting was d.0 t.2.0 d.1 d.2 then)

-- After takes up to the last.
pub taken_dries : OneInput → {s : MetaSettings} {question : Question} {old new : List Event}
    → AreTaken s question old new → IsDriedUp s new
taken_dries meeting (none old next) p t =
    let n = next t.0 t.1 in
    let same : n.0 ≡ t.2.0 = meeting t.0 n.0 t.2.0 n.1 t.2.1 in
    let found : IsNothing (take_result t.0 n.0) = subst IsNothing n.2 tt in
    let is : p ≡ t.0 = t.2.2 ∙ ap (after_take t.0) (sym same) ∙ take_none t.0 n.0 found in
    inr (subst IsDry (sym is) (n.0, n.1, found))
taken_dries meeting (last old result next end) p t =
    let n = next t.0 t.1 in
    let same : n.0 ≡ t.2.0 = meeting t.0 n.0 t.2.0 n.1 t.2.1 in
    inl (subst IsOver (sym (t.2.2 ∙ ap (after_take t.0) (sym same)))
    (take_last t.0 n.0 n.1 (subst IsLastResult n.2 end)))
taken_dries meeting (one old mid new step next is driven taken) p t = taken_dries meeting taken p t

-- ---- a connection to which no octets came

-- no octets came, and the input has not ended
record IsUnfed (p : Transcript) : Type 0 where
  stream : p.stream ≡ []
  taken : p.taken ≡ 0
  ended : p.ended ≡ false

call_unfed : (call : Call) (p : Transcript) → IsUnfed p → IsUnfed (after_call p call)
call_unfed call p u = elim (is_some p.stop) as (λ b. IsUnfed (cond b p (record p { log = Made call ∷ p.log })))
    [ true ↦ u | false ↦ record { stream = u.stream; taken = u.taken; ended = u.ended } ]

calls_unfed : (settings : Settings) (calls : List Call) (p : Transcript)
    → IsTranscript settings (map (λ call. Called call) calls ++ []) p → IsUnfed p
calls_unfed settings [] p t = subst IsUnfed (sym t) (record { stream = refl; taken = refl; ended = refl })
calls_unfed settings (call ∷ calls) p t =
    subst IsUnfed (sym t.2) (call_unfed call t.0 (calls_unfed settings calls t.0 t.1))

unfed_dry : (p : Transcript) → IsUnfed p → IsOver p ⊎ IsDry p
unfed_dry p u = by (is_stopped (state_at p)) refl
  where
    start : IsBehind [] 0 []
    start = record { messages = []; gave = nothing; count = refl }

    behind : IsBehind p.stream p.taken []
    behind = subst (λ xs. IsBehind xs p.taken []) (sym u.stream) (subst (λ k. IsBehind [] k []) (sym u.taken) start)

    found : IsNothing (take_result p Nothing)
    found = subst (λ b. IsNothing (Ok (cond b steps.Ended steps.Nothing))) (sym u.ended) tt

    by : (b : Bool) → is_stopped (state_at p) ≡ b → IsOver p ⊎ IsDry p
    by true is = inl is
    by false is = inr (Nothing, (is, [], behind, refl), found)

-- After the first calls.
pub first_dries : (s : MetaSettings) (question : Question) (new : List Event) → IsDriven s question [] new
    → IsDriedUp s new
first_dries s question new driven p t =
    let called = subst (λ z. IsTranscript (settings_of s) z p) driven.is t in
    unfed_dry p (subst IsUnfed (sym called.2) (calls_unfed (settings_of s) driven.calls called.0 called.1))
