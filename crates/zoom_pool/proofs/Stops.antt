-- What stopped a connection: it leaves the connection Closed or Failed.
use Rattle.std.proofs.Common.{◌≡◌, ℕ, suc, Bool, true, false, cond, List, [], ◌∷◌, ◌++◌, Option, None, Some}
use Rattle.std.proofs.Common.{Result, Ok, Err, refl, sym, subst, ◌∙◌, true≢false}
use Rattle.std.specs.Prelude.{is_some, ◌||◌}
use Rattle.zorigin.specs.declared.settings.Settings.{Settings}
use Rattle.zorigin.specs.declared.answer.Taken.{Taken}
use Rattle.zorigin.specs.declared.refusal.Refused.{Refused}
use Rattle.zorigin.specs.Standings.{Call}
use Rattle.zorigin.specs.Replies.{verdict}
use Rattle.zorigin.specs.Log.{Made, Got, standing, state_of}
use Rattle.zoom_pool.specs.declared.state.State.{State}
use Rattle.zoom_pool.specs.declared.state.State.TheVariants as states
use Rattle.zoom_pool.specs.declared.state.Reason.{Reason}
use Rattle.zoom_pool.specs.States.{state_as, or_else, is_stopped, is_closing}
use Rattle.zoom_pool.specs.Inputs.{Input, AlreadyStopped, Message, Foreign, Fault, Rest, Nothing}
use Rattle.zoom_pool.specs.Transcripts.{Transcript, IsTranscript, EventStep, Event, Called, Fed, Took, InputEnded, HandedOut, Stopped, after_take, after_reply}
use Rattle.zoom_pool.specs.Transcripts.{after_call, after_feed, after_stop, end_by, truncated, past_of, state_at}

abbrev IsStop : Option State → Type 0
IsStop None = Unit {0}
IsStop (Some state) = is_stopped state ≡ true

stops_call : (p : Transcript) (call : Call) → IsStop p.stop → IsStop (after_call p call).stop
stops_call p call s = elim (is_some p.stop) as (λ b. IsStop (cond b p (record p { log = Made call ∷ p.log })).stop)
    [ true ↦ s | false ↦ s ]

stops_piece : (p : Transcript) (piece : List ℕ) → IsStop p.stop → IsStop (after_feed p piece).stop
stops_piece p piece s = elim (is_stopped (state_at p) || p.ended) as
    (λ b. IsStop (cond b p (record p { stream = p.stream ++ piece })).stop) [ true ↦ s | false ↦ s ]

stops_process : (p : Transcript) (v : Result Taken Refused) → IsStop p.stop → IsStop (after_reply p v).stop
stops_process p (Ok x) s = s
stops_process p (Err reason) s = refl

ended_state : (b : Bool) (reason : Reason) → is_stopped (cond b states.Closed (states.Failed reason)) ≡ true
ended_state true reason = refl
ended_state false reason = refl

stops_take : (p : Transcript) (input : Input) → IsStop p.stop → IsStop (after_take p input).stop
stops_take p AlreadyStopped s = s
stops_take p (Message v) s = stops_process (record p { taken = suc p.taken; log = Got v ∷ p.log })
    (verdict (standing (past_of p)) v) s
stops_take p (Foreign error) s = refl
stops_take p (Fault kind at) s = refl
stops_take p (Rest n) s = elim p.ended as (λ b. IsStop (cond b (after_stop p (truncated n)) p).stop) [ true ↦ refl | false ↦ s ]
stops_take p Nothing s = elim p.ended as (λ b. IsStop (cond b (end_by p) p).stop)
    [ true ↦ ended_state (is_closing (state_at p)) _ | false ↦ s ]

stops_more : (event : Event) (p q : Transcript) → EventStep event p q → IsStop p.stop → IsStop q.stop
stops_more (Called call) p q e s = subst (λ z. IsStop z.stop) (sym e) (stops_call p call s)
stops_more (Fed piece) p q e s = subst (λ z. IsStop z.stop) (sym e) (stops_piece p piece s)
stops_more Took p q e s = subst (λ z. IsStop z.stop) (sym e.2) (stops_take p e.0 s)
stops_more InputEnded p q e s = subst (λ z. IsStop z.stop) (sym e) s
stops_more (HandedOut octets) p q e s = subst (λ z. IsStop z.stop) (sym e) s
stops_more (Stopped reason) p q e s = subst (λ z. IsStop z.stop) (sym e) refl

stop_stands : (settings : Settings) (events : List Event) (p : Transcript) → IsTranscript settings events p → IsStop p.stop
stop_stands settings [] p e = subst (λ z. IsStop z.stop) (sym e) tt
stop_stands settings (event ∷ events) p e = stops_more event e.0 p e.2 (stop_stands settings events e.0 e.1)

-- nothing stopped a connection that goes on
pub goes : (settings : Settings) (events : List Event) (p : Transcript) → IsTranscript settings events p
    → is_stopped (state_at p) ≡ false → p.stop ≡ None
goes settings events p transcript s = by p.stop refl
  where
    by : (o : Option State) → p.stop ≡ o → p.stop ≡ None
    by None e = e
    by (Some state) e =
        let t : is_stopped state ≡ true = subst IsStop e (stop_stands settings events p transcript) in
        let f : is_stopped state ≡ false = subst (λ z. is_stopped (or_else (state_as (state_of (past_of p))) z) ≡ false) e s in
        absurd (true≢false (sym t ∙ f))
