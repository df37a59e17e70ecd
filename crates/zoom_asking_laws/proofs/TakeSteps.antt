-- What calls and takes leave of a connection's octets and of its state.
use Rattle.std.proofs.Common.{◌≡◌, ◌∙◌, subst, suc, Bool, true, false, cond, List, [], ◌∷◌, ◌++◌, map, Option, None, Some, Result, Ok, Err, refl}
use Rattle.std.specs.Prelude.{is_some}
use Rattle.std.specs.List.{find}
use Rattle.zorigin.specs.declared.answer.Answer.{Answer}
use Rattle.zorigin.specs.declared.answer.Taken.{Taken}
use Rattle.zorigin.specs.declared.answer.Taken.TheVariants as taken
use Rattle.zorigin.specs.declared.refusal.CallRefused.{CallRefused}
use Rattle.zorigin.specs.declared.refusal.Refused.{Refused}
use Rattle.zorigin.specs.declared.settings.Settings.{Settings}
use Rattle.zorigin.specs.Standings.{Call, is_open}
use Rattle.zorigin.specs.Calls.{refusal}
use Rattle.zorigin.specs.Replies.{verdict}
use Rattle.zorigin.specs.Log.{Past, Made, Got, standing, state_of, state_from, is_opening, admit_unless, after_verdict}
use Rattle.zoom_pool.specs.declared.state.State.{State}
use Rattle.zoom_pool.specs.declared.step.Step.TheVariants as steps
use Rattle.zoom_pool.specs.States.{is_stopped, state_as, or_else}
use Rattle.zoom_pool.specs.Inputs.{Input, AlreadyStopped, Message, Foreign, Fault, Rest, Nothing}
use Rattle.zoom_pool.specs.Transcripts.{Transcript, IsTranscript, Event, Called, NextInput, past_of, state_at, after_call, after_take, after_reply, after_stop, end_by, truncated, take_result, take_result_of_verdict}
use Rattle.zoom_asking.specs.Talks.{IsLastResult}

-- ---- takes

verdict_sent : (p : Past) (v : Result Taken Refused) → (after_verdict p v).sent ≡ p.sent
verdict_sent p (Ok (taken.Opened a)) = refl
verdict_sent p (Ok (taken.Rejected a)) = refl
verdict_sent p (Ok (taken.Answered a)) = refl
verdict_sent p (Ok taken.Closed) = refl
verdict_sent p (Err r) = elim (is_open (state_of p)) as (λ b. (cond b (record p { fault = Some r }) p).sent ≡ p.sent)
    [ true ↦ refl | false ↦ refl ]

reply_sent : (p : Transcript) (r : Result Taken Refused) → (past_of (after_reply p r)).sent ≡ (past_of p).sent
reply_sent p (Ok t) = refl
reply_sent p (Err reason) = refl

-- A take sends nothing.
pub take_sent : (p : Transcript) (m : Input) → (past_of (after_take p m)).sent ≡ (past_of p).sent
take_sent p AlreadyStopped = refl
take_sent p (Message v) =
    reply_sent (record p { taken = suc p.taken; log = Got v ∷ p.log }) (verdict (standing (past_of p)) v)
    ∙ verdict_sent (past_of p) (verdict (standing (past_of p)) v)
take_sent p (Foreign e) = refl
take_sent p (Fault k at) = refl
take_sent p (Rest n) = elim p.ended as (λ b. (past_of (cond b (after_stop p (truncated n)) p)).sent ≡ (past_of p).sent)
    [ true ↦ refl | false ↦ refl ]
take_sent p Nothing = elim p.ended as (λ b. (past_of (cond b (end_by p) p)).sent ≡ (past_of p).sent)
    [ true ↦ refl | false ↦ refl ]

reply_stream : (p : Transcript) (r : Result Taken Refused) → (after_reply p r).stream ≡ p.stream
reply_stream p (Ok t) = refl
reply_stream p (Err reason) = refl

-- A take feeds nothing.
pub take_stream : (p : Transcript) (m : Input) → (after_take p m).stream ≡ p.stream
take_stream p AlreadyStopped = refl
take_stream p (Message v) =
    reply_stream (record p { taken = suc p.taken; log = Got v ∷ p.log }) (verdict (standing (past_of p)) v)
take_stream p (Foreign e) = refl
take_stream p (Fault k at) = refl
take_stream p (Rest n) = elim p.ended as (λ b. (cond b (after_stop p (truncated n)) p).stream ≡ p.stream)
    [ true ↦ refl | false ↦ refl ]
take_stream p Nothing = elim p.ended as (λ b. (cond b (end_by p) p).stream ≡ p.stream) [ true ↦ refl | false ↦ refl ]

-- An APDU that was taken has another result than `Nothing`.
pub some_result : (r : Result Taken Refused) → take_result_of_verdict r ≡ Ok steps.Nothing → ⊥
some_result (Ok (taken.Opened a)) e = absurd cc
some_result (Ok (taken.Rejected a)) e = absurd cc
some_result (Ok (taken.Answered a)) e = absurd cc
some_result (Ok taken.Closed) e = absurd cc
some_result (Err reason) e = absurd cc

-- A take that returned `Nothing` changed nothing, unless the input had ended.
pub none_same : (p : Transcript) (m : Input) → p.ended ≡ false → take_result p m ≡ Ok steps.Nothing → after_take p m ≡ p
none_same p AlreadyStopped more e = refl
none_same p (Message v) more e = absurd (some_result (verdict (standing (past_of p)) v) e)
none_same p (Foreign error) more e = absurd cc
none_same p (Fault kind at) more e = absurd cc
none_same p (Rest n) more e = rw more refl
none_same p Nothing more e = rw more refl

-- the connection was over before, and is unchanged
pub record IsSpent (p q : Transcript) : Type 0 where
  pub same : q ≡ p
  pub over : is_stopped (state_at p) ≡ true

stopped_some : {A : Type 0} {x : State} → Some x ≡ None → A
stopped_some e = absurd cc

spent_reply : (p later : Transcript) (r : Result Taken Refused) → (after_reply later r).stop ≡ None
    → IsLastResult (take_result_of_verdict r) → IsSpent p (after_reply later r)
spent_reply p later (Ok (taken.Opened a)) goes l = absurd l
spent_reply p later (Ok (taken.Rejected a)) goes l = absurd l
spent_reply p later (Ok (taken.Answered a)) goes l = absurd l
spent_reply p later (Ok taken.Closed) goes l = absurd l
spent_reply p later (Err reason) goes l = stopped_some goes

-- The last take of a connection that nothing stopped found it over.
pub last_spent : (p : Transcript) (m : Input) → NextInput p m → p.ended ≡ false → (after_take p m).stop ≡ None
    → IsLastResult (take_result p m) → IsSpent p (after_take p m)
last_spent p AlreadyStopped next more goes l = record { same = refl; over = next }
last_spent p (Message v) next more goes l =
    spent_reply p (record p { taken = suc p.taken; log = Got v ∷ p.log }) (verdict (standing (past_of p)) v) goes l
last_spent p (Foreign error) next more goes l = stopped_some goes
last_spent p (Fault kind at) next more goes l = stopped_some goes
last_spent p (Rest n) next more goes l = absurd (let is : take_result p (Rest n) ≡ Ok steps.Nothing = rw more refl in
    subst IsLastResult is l)
last_spent p Nothing next more goes l = absurd (let is : take_result p Nothing ≡ Ok steps.Nothing = rw more refl in
    subst IsLastResult is l)

-- ---- calls

-- the transcript after some calls, the newest first
abbrev pub called : List Call → Transcript → Transcript
called [] p = p
called (call ∷ calls) p = after_call (called calls p) call

pub called_transcript : (settings : Settings) (calls : List Call) (events : List Event) (p : Transcript)
    → IsTranscript settings events p → IsTranscript settings (map Called calls ++ events) (called calls p)
called_transcript settings [] events p transcript = transcript
called_transcript settings (call ∷ calls) events p transcript =
    (called calls p, called_transcript settings calls events p transcript, refl)

-- a call takes nothing, feeds nothing and gets no reply
pub record IsOnlyCalled (p q : Transcript) : Type 0 where
  pub stream : q.stream ≡ p.stream
  pub taken : q.taken ≡ p.taken
  pub accepted : (past_of q).accepted ≡ (past_of p).accepted
  pub closed : (past_of q).closed ≡ (past_of p).closed

record IsOnlyAdmitted (p q : Past) : Type 0 where
  accepted : q.accepted ≡ p.accepted
  closed : q.closed ≡ p.closed

only_admitted : (p : Past) (call : Call) (o : Option CallRefused) → IsOnlyAdmitted p (admit_unless p call o)
only_admitted p call None = record { accepted = refl; closed = refl }
only_admitted p call (Some reason) = record { accepted = refl; closed = refl }

only_call : (p : Transcript) (call : Call) → IsOnlyCalled p (after_call p call)
only_call p call = elim (is_some p.stop) as (λ b. IsOnlyCalled p (cond b p (record p { log = Made call ∷ p.log }))) [
  | true ↦ record { stream = refl; taken = refl; accepted = refl; closed = refl }
  | false ↦
      let a = only_admitted (past_of p) call (refusal (standing (past_of p)) call) in
      record { stream = refl; taken = refl; accepted = a.accepted; closed = a.closed }
]

pub only_called : (calls : List Call) (p : Transcript) → IsOnlyCalled p (called calls p)
only_called [] p = record { stream = refl; taken = refl; accepted = refl; closed = refl }
only_called (call ∷ calls) p =
    let one : IsOnlyCalled (called calls p) (after_call (called calls p) call) = only_call (called calls p) call in
    let others : IsOnlyCalled p (called calls p) = only_called calls p in
    record {
      stream = one.stream ∙ others.stream;
      taken = one.taken ∙ others.taken;
      accepted = one.accepted ∙ others.accepted;
      closed = one.closed ∙ others.closed;
    }

-- ---- a connection that got no reply

on_by : (closing begun : Bool) → is_stopped (state_as (state_from None false closing begun None)) ≡ false
on_by closing true = refl
on_by closing false = refl

on_from : (fault : Option Refused) (closed closing begun : Bool) (accepted : List Answer) (stop : Option State)
    → fault ≡ None → closed ≡ false → accepted ≡ [] → stop ≡ None
    → is_stopped (or_else (state_as (state_from fault closed closing begun (find is_opening accepted))) stop) ≡ false
on_from fault closed closing begun accepted stop a b c d = rw (a, b, c, d) (on_by closing begun)

-- It is not over.
pub unheard_on : (p : Transcript) → (past_of p).fault ≡ None → (past_of p).closed ≡ false
    → (past_of p).accepted ≡ [] → p.stop ≡ None → is_stopped (state_at p) ≡ false
unheard_on p a b c d = on_from (past_of p).fault (past_of p).closed _ _ (past_of p).accepted p.stop a b c d
