-- What a connection that nothing stopped has taken, and the octets behind it.
use Rattle.std.proofs.Common.{◌≡◌, ℕ, suc, true, false, cond, List, [], ◌∷◌, ◌++◌, is_some, None, Some, Result, Ok, Err, refl, sym, subst, length-append, arith}
use Rattle.std.specs.Prelude.{◌||◌}
use Rattle.zber.specs.Laws.{nothing}
use Rattle.zber.proofs.Streams.{fed_more, gave_more}
use Rattle.zapdu.specs.declared.apdu.Apdu.{Apdu}
use Rattle.zorigin.specs.declared.settings.Settings.{Settings}
use Rattle.zorigin.specs.declared.answer.Taken.{Taken}
use Rattle.zorigin.specs.declared.refusal.Refused.{Refused}
use Rattle.zorigin.specs.Standings.{Call}
use Rattle.zorigin.specs.Replies.{verdict}
use Rattle.zorigin.specs.Log.{Made, Got, standing}
use Rattle.zoom_pool.specs.States.{is_stopped}
use Rattle.zoom_pool.specs.Inputs.{Input, AlreadyStopped, Message, Foreign, Fault, Rest, Nothing, IsBehind, HasMessage}
use Rattle.zber.specs.declared.framer.TheConstants.{MESSAGE_LIMIT}
use Rattle.zoom_pool.specs.Transcripts.{Event, Called, Fed, Took, InputEnded, HandedOut, Stopped, Transcript, IsTranscript, NextInput, empty_transcript, past_of, state_at, after_reply, end_by, after_stop, truncated, after_take, after_call, after_feed}
use Rattle.zoom_laws.proofs.ExchangeTheory.Logs.{AllTaken}

no_some : {A : Type 0} {x : A} → Some x ≡ None → ⊥
no_some e = cc

abbrev HasTakenAll : Transcript → Type 0
HasTakenAll p = p.stop ≡ None → AllTaken p.settings p.log

took_call : (p : Transcript) (call : Call) → HasTakenAll p → HasTakenAll (after_call p call)
took_call p call h = elim (is_some p.stop) as
    (λ b. HasTakenAll (cond b p (record p { log = Made call ∷ p.log }))) [ true ↦ h | false ↦ h ]

took_piece : (p : Transcript) (piece : List ℕ) → HasTakenAll p → HasTakenAll (after_feed p piece)
took_piece p piece h =
    elim (is_stopped (state_at p) || p.ended) as
    (λ b. HasTakenAll (cond b p (record p { stream = p.stream ++ piece }))) [ true ↦ h | false ↦ h ]

took_message : (p : Transcript) (v : Apdu) (r : Result Taken Refused) → verdict (standing (past_of p)) v ≡ r → HasTakenAll p
    → HasTakenAll (after_reply (record p { taken = suc p.taken; log = Got v ∷ p.log }) r)
took_message p v (Ok x) e h = λ s. ((x, e), h s)
took_message p v (Err reason) e h = λ s. absurd (no_some s)

took_input : (p : Transcript) (input : Input) → HasTakenAll p → HasTakenAll (after_take p input)
took_input p AlreadyStopped h = h
took_input p (Message v) h = took_message p v (verdict (standing (past_of p)) v) refl h
took_input p (Foreign error) h = λ s. absurd (no_some s)
took_input p (Fault kind at) h = λ s. absurd (no_some s)
took_input p (Rest n) h = elim p.ended as (λ b. HasTakenAll (cond b (after_stop p (truncated n)) p)) [
  | true ↦ λ s. absurd (no_some s)
  | false ↦ h
]
took_input p Nothing h = elim p.ended as (λ b. HasTakenAll (cond b (end_by p) p)) [
  | true ↦ λ s. absurd (no_some s)
  | false ↦ h
]

pub took_all : (settings : Settings) (events : List Event) (p : Transcript) → IsTranscript settings events p → p.stop ≡ None
    → AllTaken p.settings p.log
took_all settings [] p h = subst HasTakenAll (sym h) (λ s. tt)
took_all settings (Called call ∷ events) p h = subst HasTakenAll (sym h.2)
    (took_call h.0 call (took_all settings events h.0 h.1))
took_all settings (Fed piece ∷ events) p h = subst HasTakenAll (sym h.2)
    (took_piece h.0 piece (took_all settings events h.0 h.1))
took_all settings (Took ∷ events) p h =
    let x = h.2 in
    subst HasTakenAll (sym x.2) (took_input h.0 x.0 (took_all settings events h.0 h.1))
took_all settings (InputEnded ∷ events) p h = subst HasTakenAll (sym h.2) (took_all settings events h.0 h.1)
took_all settings (HandedOut octets ∷ events) p h = subst HasTakenAll (sym h.2) (took_all settings events h.0 h.1)
took_all settings (Stopped reason ∷ events) p h = subst HasTakenAll (sym h.2) (λ s. absurd (no_some s))

-- ---- the octets behind the messages taken

abbrev HasRest : Transcript → Type 0
HasRest p = p.stop ≡ None → (rest : List ℕ) × IsBehind p.stream p.taken rest

rest_empty : (settings : Settings) → HasRest (empty_transcript settings)
rest_empty settings s = ([], record { messages = []; gave = nothing; count = refl })

rest_call : (p : Transcript) (call : Call) → HasRest p → HasRest (after_call p call)
rest_call p call h = elim (is_some p.stop) as
    (λ b. HasRest (cond b p (record p { log = Made call ∷ p.log }))) [ true ↦ h | false ↦ h ]

rest_longer : (p : Transcript) (piece : List ℕ) → HasRest p → HasRest (record p { stream = p.stream ++ piece })
rest_longer p piece h s =
    let r = h s in
    let b = r.1 in (
      r.0 ++ piece,
      record {
        messages = b.messages;
        gave = fed_more MESSAGE_LIMIT p.stream r.0 piece b.messages b.gave;
        count = b.count;
      },
    )

rest_piece : (p : Transcript) (piece : List ℕ) → HasRest p → HasRest (after_feed p piece)
rest_piece p piece h =
    elim (is_stopped (state_at p) || p.ended) as
    (λ b. HasRest (cond b p (record p { stream = p.stream ++ piece }))) [
      | true ↦ h
      | false ↦ rest_longer p piece h
    ]

rest_message : (p : Transcript) (v : Apdu) (rest : List ℕ) → IsBehind p.stream p.taken rest → HasMessage rest (Message v)
    → (r : Result Taken Refused) → HasRest (after_reply (record p { taken = suc p.taken; log = Got v ∷ p.log }) r)
rest_message p v rest b m (Ok x) = λ s.
    let all = length-append b.messages (m.element ∷ []) in
    let before = b.count in (
      m.rest,
      record {
        messages = b.messages ++ m.element ∷ [];
        gave = gave_more MESSAGE_LIMIT p.stream rest m.rest b.messages m.element b.gave m.begins;
        count = omega (arith, all, before);
      },
    )
rest_message p v rest b m (Err reason) = λ s. absurd (no_some s)

rest_input : (p : Transcript) (input : Input) → NextInput p input → HasRest p → HasRest (after_take p input)
rest_input p AlreadyStopped m h = h
rest_input p (Message v) m h = rest_message p v m.1 m.2 m.3 (verdict (standing (past_of p)) v)
rest_input p (Foreign error) m h = λ s. absurd (no_some s)
rest_input p (Fault kind at) m h = λ s. absurd (no_some s)
rest_input p (Rest n) m h = elim p.ended as (λ b. HasRest (cond b (after_stop p (truncated n)) p)) [
  | true ↦ λ s. absurd (no_some s)
  | false ↦ h
]
rest_input p Nothing m h = elim p.ended as (λ b. HasRest (cond b (end_by p) p)) [
  | true ↦ λ s. absurd (no_some s)
  | false ↦ h
]

pub rest_behind : (settings : Settings) (events : List Event) (p : Transcript) → IsTranscript settings events p → HasRest p
rest_behind settings [] p h = subst HasRest (sym h) (rest_empty settings)
rest_behind settings (Called call ∷ events) p h = subst HasRest (sym h.2)
    (rest_call h.0 call (rest_behind settings events h.0 h.1))
rest_behind settings (Fed piece ∷ events) p h = subst HasRest (sym h.2)
    (rest_piece h.0 piece (rest_behind settings events h.0 h.1))
rest_behind settings (Took ∷ events) p h =
    let x = h.2 in
    subst HasRest (sym x.2) (rest_input h.0 x.0 x.1 (rest_behind settings events h.0 h.1))
rest_behind settings (InputEnded ∷ events) p h = subst HasRest (sym h.2) (rest_behind settings events h.0 h.1)
rest_behind settings (HandedOut octets ∷ events) p h = subst HasRest (sym h.2) (rest_behind settings events h.0 h.1)
rest_behind settings (Stopped reason ∷ events) p h = subst HasRest (sym h.2) (λ s. absurd (no_some s))
