-- The transcript of a connection that nothing stopped.
use Rattle.std.proofs.Common.{◌≡◌, ◌∙◌, sym, ap, subst, ℕ, ◌≤◌, Bool, true, false, cond, List, [], ◌∷◌, ◌++◌, length, is_some, Option, None, Some, Result, Ok, Err, refl, arith, length-append, true≢false}
use Rattle.std.specs.Prelude.{◌||◌, not}
use Rattle.zorigin.specs.declared.settings.Settings.{Settings}
use Rattle.zorigin.specs.declared.refusal.CallRefused.{CallRefused}
use Rattle.zorigin.specs.declared.refusal.Refused.{Refused}
use Rattle.zorigin.specs.declared.answer.Taken.{Taken}
use Rattle.zorigin.specs.declared.state.State.{State as OriginState}
use Rattle.zorigin.specs.declared.state.State.TheVariants as origins
use Rattle.zorigin.specs.Standings.{Call, Init, Search, Present, Close, is_fresh, is_ready}
use Rattle.zorigin.specs.Calls.{refusal}
use Rattle.zorigin.specs.Replies.{verdict}
use Rattle.zorigin.specs.Log.{Made, Past, standing, state_of, admit_unless}
use Rattle.zoom_pool.specs.declared.state.State.{State}
use Rattle.zoom_pool.specs.States.{is_stopped, state_as, or_else}
use Rattle.zoom_pool.specs.Inputs.{Input, AlreadyStopped, Message, Foreign, Fault, Rest, Nothing}
use Rattle.zoom_pool.specs.Transcripts.{Event, Called, Fed, Took, InputEnded, HandedOut, Stopped, Transcript, IsTranscript, NextInput, past_of, state_at, after_reply, end_by, after_stop, truncated, after_take, after_call, after_feed, fed, is_lost}
use Rattle.zorigin.proofs.Proper.{free}

no_some : {A : Type 0} {x : A} → Some x ≡ None → ⊥
no_some e = cc

-- ---- no write failed

module _ (lost : Bool) where
  abbrev NotLost : Transcript → Type 0
  NotLost p = p.stop ≡ None → lost ≡ false

  lost_call : (p : Transcript) (call : Call) → NotLost p → NotLost (after_call p call)
  lost_call p call h = elim (is_some p.stop) as (λ b. NotLost (cond b p (record p { log = Made call ∷ p.log }))) [
    | true ↦ h
    | false ↦ h
  ]

  lost_piece : (p : Transcript) (piece : List ℕ) → NotLost p → NotLost (after_feed p piece)
  lost_piece p piece h =
      elim (is_stopped (state_at p) || p.ended) as (λ b. NotLost (cond b p (record p { stream = p.stream ++ piece }))) [
        | true ↦ h
        | false ↦ h
      ]

  lost_verdict : (p : Transcript) (r : Result Taken Refused) → NotLost p → NotLost (after_reply p r)
  lost_verdict p (Ok x) h = h
  lost_verdict p (Err reason) h = λ s. absurd (no_some s)

  lost_input : (p : Transcript) (input : Input) → NotLost p → NotLost (after_take p input)
  lost_input p AlreadyStopped h = h
  lost_input p (Message v) h = lost_verdict _ (verdict (standing (past_of p)) v) h
  lost_input p (Foreign error) h = λ s. absurd (no_some s)
  lost_input p (Fault kind at) h = λ s. absurd (no_some s)
  lost_input p (Rest n) h = elim p.ended as (λ b. NotLost (cond b (after_stop p (truncated n)) p)) [
    | true ↦ λ s. absurd (no_some s)
    | false ↦ h
  ]
  lost_input p Nothing h = elim p.ended as (λ b. NotLost (cond b (end_by p) p)) [
    | true ↦ λ s. absurd (no_some s)
    | false ↦ h
  ]

pub not_lost : (settings : Settings) (events : List Event) (p : Transcript) → IsTranscript settings events p → p.stop ≡ None
    → is_lost events ≡ false
not_lost settings [] p h = λ s. refl
not_lost settings (Called call ∷ events) p h =
    subst (NotLost (is_lost events)) (sym h.2) (lost_call (is_lost events) h.0 call (not_lost settings events h.0 h.1))
not_lost settings (Fed piece ∷ events) p h =
    subst (NotLost (is_lost events)) (sym h.2) (lost_piece (is_lost events) h.0 piece (not_lost settings events h.0 h.1))
not_lost settings (Took ∷ events) p h =
    let x = h.2 in
    subst (NotLost (is_lost events)) (sym x.2) (lost_input (is_lost events) h.0 x.0 (not_lost settings events h.0 h.1))
not_lost settings (InputEnded ∷ events) p h =
    subst (NotLost (is_lost events)) (sym h.2) (not_lost settings events h.0 h.1)
not_lost settings (HandedOut octets ∷ events) p h =
    subst (NotLost (is_lost events)) (sym h.2) (not_lost settings events h.0 h.1)
not_lost settings (Stopped reason ∷ events) p h = λ s. absurd (no_some (sym (ap (λ z. z.stop) h.2) ∙ s))

-- ---- a connection that nothing stopped was not stopped before

-- no call is admitted in a state in which nothing more is taken
unstopped : (s : OriginState) → is_stopped (state_as s) ≡ true → (is_fresh s ≡ false) × (is_ready s ≡ false)
unstopped origins.Fresh e = absurd cc
unstopped origins.Initialising e = (refl, refl)
unstopped (origins.Ready v3 concurrent named) e = absurd cc
unstopped origins.Closing e = (refl, refl)
unstopped origins.Closed e = (refl, refl)
unstopped (origins.Failed reason) e = (refl, refl)

closed_to : {b : Bool} → b ≡ false → not b ≡ false → ⊥
closed_to e f = true≢false (sym (ap not e) ∙ f)

unadmitted : (p : Past) (call : Call) → is_stopped (state_as (state_of p)) ≡ true → refusal (standing p) call ≡ None
    → is_stopped (state_as (state_of (admit_unless p call None))) ≡ true
unadmitted p Init e r = absurd (closed_to (unstopped (state_of p) e).0 (free (standing p) Init r).state)
unadmitted p (Search op set ask) e r =
    absurd (closed_to (unstopped (state_of p) e).1 (free (standing p) (Search op set ask) r).state)
unadmitted p (Present op set ranges) e r =
    absurd (closed_to (unstopped (state_of p) e).1 (free (standing p) (Present op set ranges) r).state)
unadmitted p Close e r = absurd (closed_to (unstopped (state_of p) e).1 (free (standing p) Close r).state)

stopped_past : (p : Past) (call : Call) (r : Option CallRefused) → refusal (standing p) call ≡ r
    → is_stopped (state_as (state_of p)) ≡ true → is_stopped (state_as (state_of (admit_unless p call r))) ≡ true
stopped_past p call None r e = unadmitted p call e r
stopped_past p call (Some reason) r e = e

stopped_call : (p : Transcript) (call : Call) (o : Option State) → p.stop ≡ o → is_stopped (state_at p) ≡ true
    → is_stopped (state_at (after_call p call)) ≡ true
stopped_call p call None e s =
    let here : is_stopped (state_as (state_of (past_of p))) ≡ true =
    subst (λ z. is_stopped (or_else (state_as (state_of (past_of p))) z) ≡ true) e s in
    let called : Transcript = record p { log = Made call ∷ p.log } in
    let is : after_call p call ≡ called = rw e refl in
    subst (λ z. is_stopped (state_at z) ≡ true) (sym is)
    (subst (λ z. is_stopped (or_else (state_as (state_of (past_of called))) z) ≡ true) (sym e)
    (stopped_past (past_of p) call (refusal (standing (past_of p)) call) refl here))
stopped_call p call (Some state) e s =
    let is : after_call p call ≡ p = rw e refl in
    subst (λ z. is_stopped (state_at z) ≡ true) (sym is) s

pub goes_before_call : (p : Transcript) (call : Call) → is_stopped (state_at (after_call p call)) ≡ false
    → is_stopped (state_at p) ≡ false
goes_before_call p call e = by (is_stopped (state_at p)) refl
  where
    by : (b : Bool) → is_stopped (state_at p) ≡ b → is_stopped (state_at p) ≡ false
    by false f = f
    by true f = absurd (true≢false (sym (stopped_call p call p.stop refl f) ∙ e))

pub goes_before_take : (p : Transcript) (input : Input) → NextInput p input → is_stopped (state_at (after_take p input)) ≡ false
    → is_stopped (state_at p) ≡ false
goes_before_take p AlreadyStopped m e = e
goes_before_take p (Message v) m e = m.0
goes_before_take p (Foreign error) m e = m.0
goes_before_take p (Fault kind at) m e = m.0
goes_before_take p (Rest n) m e = m.0
goes_before_take p Nothing m e = m.0

-- ---- all octets fed are in the stream

-- if nothing stopped it, and its input did not end
abbrev HasWholeStream : List Event → Transcript → Type 0
HasWholeStream events p = is_stopped (state_at p) ≡ false → p.ended ≡ false → p.stream ≡ fed events

same_stream : (p : Transcript) (call : Call) → (after_call p call).stream ≡ p.stream
same_stream p call = elim (is_some p.stop) as
    (λ b. (cond b p (record p { log = Made call ∷ p.log })).stream ≡ p.stream) [
      | true ↦ refl
      | false ↦ refl
    ]

same_ended : (p : Transcript) (call : Call) → (after_call p call).ended ≡ p.ended
same_ended p call = elim (is_some p.stop) as (λ b. (cond b p (record p { log = Made call ∷ p.log })).ended ≡ p.ended) [
  | true ↦ refl
  | false ↦ refl
]

all_call : (events : List Event) (p : Transcript) (call : Call) → HasWholeStream events p → HasWholeStream events (after_call p call)
all_call events p call h e f =
    same_stream p call ∙ h (goes_before_call p call e) (sym (same_ended p call) ∙ f)

all_piece : (events : List Event) (p : Transcript) (piece : List ℕ) → HasWholeStream events p
    → HasWholeStream (Fed piece ∷ events) (after_feed p piece)
all_piece events p piece h = by (is_stopped (state_at p)) p.ended refl refl
  where
    by : (a b : Bool) → is_stopped (state_at p) ≡ a → p.ended ≡ b → HasWholeStream (Fed piece ∷ events) (after_feed p piece)
    by true b s t =
        let is : after_feed p piece ≡ p = rw s refl in
        subst (HasWholeStream (Fed piece ∷ events)) (sym is) (λ e f. absurd (true≢false (sym s ∙ e)))
    by false true s t =
        let is : after_feed p piece ≡ p = rw (s, t) refl in
        subst (HasWholeStream (Fed piece ∷ events)) (sym is) (λ e f. absurd (true≢false (sym t ∙ f)))
    by false false s t =
        let is : after_feed p piece ≡ record p { stream = p.stream ++ piece } = rw (s, t) refl in
        subst (HasWholeStream (Fed piece ∷ events)) (sym is) (λ e f. ap (λ z. z ++ piece) (h s t))

same_verdict : (p later : Transcript) (r : Result Taken Refused) → later.stream ≡ p.stream → later.ended ≡ p.ended
    → ((after_reply later r).stream ≡ p.stream) × ((after_reply later r).ended ≡ p.ended)
same_verdict p later (Ok x) e f = (e, f)
same_verdict p later (Err reason) e f = (e, f)

same_take : (p : Transcript) (input : Input) → ((after_take p input).stream ≡ p.stream) × ((after_take p input).ended ≡ p.ended)
same_take p AlreadyStopped = (refl, refl)
same_take p (Message v) = same_verdict p _ (verdict (standing (past_of p)) v) refl refl
same_take p (Foreign error) = (refl, refl)
same_take p (Fault kind at) = (refl, refl)
same_take p (Rest n) = elim p.ended as (λ b. ((cond b (after_stop p (truncated n)) p).stream ≡ p.stream)
    × ((cond b (after_stop p (truncated n)) p).ended ≡ p.ended)) [ true ↦ (refl, refl) | false ↦ (refl, refl) ]
same_take p Nothing = elim p.ended as (λ b. ((cond b (end_by p) p).stream ≡ p.stream)
    × ((cond b (end_by p) p).ended ≡ p.ended)) [ true ↦ (refl, refl) | false ↦ (refl, refl) ]

pub whole_stream : (settings : Settings) (events : List Event) (p : Transcript) → IsTranscript settings events p → HasWholeStream events p
whole_stream settings [] p h = subst (HasWholeStream []) (sym h) (λ e f. refl)
whole_stream settings (Called call ∷ events) p h =
    subst (HasWholeStream events) (sym h.2) (all_call events h.0 call (whole_stream settings events h.0 h.1))
whole_stream settings (Fed piece ∷ events) p h =
    subst (HasWholeStream (Fed piece ∷ events)) (sym h.2) (all_piece events h.0 piece (whole_stream settings events h.0 h.1))
whole_stream settings (Took ∷ events) p h =
    let x = h.2 in
    let same = same_take h.0 x.0 in
    subst (HasWholeStream events) (sym x.2)
    (λ e f. same.0 ∙ whole_stream settings events h.0 h.1 (goes_before_take h.0 x.0 x.1 e) (sym same.1 ∙ f))
whole_stream settings (InputEnded ∷ events) p h =
    subst (HasWholeStream events) (sym h.2) (λ e f. absurd (true≢false f))
whole_stream settings (HandedOut octets ∷ events) p h = subst (HasWholeStream events) (sym h.2) (whole_stream settings events h.0 h.1)
whole_stream settings (Stopped reason ∷ events) p h =
    subst (HasWholeStream events) (sym h.2) (λ e f. absurd (true≢false e))

-- ---- no more octets are in the stream than were fed

abbrev HasNoMoreStream : List Event → Transcript → Type 0
HasNoMoreStream events p = length p.stream ≤ length (fed events)

no_more_piece : (events : List Event) (p : Transcript) (piece : List ℕ) → HasNoMoreStream events p
    → HasNoMoreStream (Fed piece ∷ events) (after_feed p piece)
no_more_piece events p piece n =
    elim (is_stopped (state_at p) || p.ended) as
    (λ b. HasNoMoreStream (Fed piece ∷ events) (cond b p (record p { stream = p.stream ++ piece }))) [
      | true ↦ omega (arith, n, length-append (fed events) piece)
      | false ↦ omega (arith, n, length-append (fed events) piece, length-append p.stream piece)
    ]

pub no_more_stream : (settings : Settings) (events : List Event) (p : Transcript) → IsTranscript settings events p
    → length p.stream ≤ length (fed events)
no_more_stream settings [] p h = subst (HasNoMoreStream []) (sym h) (omega arith)
no_more_stream settings (Called call ∷ events) p h =
    subst (HasNoMoreStream events) (sym h.2) (subst (λ z. length z ≤ length (fed events)) (sym (same_stream h.0 call))
    (no_more_stream settings events h.0 h.1))
no_more_stream settings (Fed piece ∷ events) p h =
    subst (HasNoMoreStream (Fed piece ∷ events)) (sym h.2)
    (no_more_piece events h.0 piece (no_more_stream settings events h.0 h.1))
no_more_stream settings (Took ∷ events) p h =
    let x = h.2 in
    subst (HasNoMoreStream events) (sym x.2) (subst (λ z. length z ≤ length (fed events)) (sym (same_take h.0 x.0).0)
    (no_more_stream settings events h.0 h.1))
no_more_stream settings (InputEnded ∷ events) p h =
    subst (HasNoMoreStream events) (sym h.2) (no_more_stream settings events h.0 h.1)
no_more_stream settings (HandedOut octets ∷ events) p h =
    subst (HasNoMoreStream events) (sym h.2) (no_more_stream settings events h.0 h.1)
no_more_stream settings (Stopped reason ∷ events) p h =
    subst (HasNoMoreStream events) (sym h.2) (no_more_stream settings events h.0 h.1)
