-- A connection that is Closed got all that its question brings from the target that it exchanged octets with alone.
use Rattle.std.proofs.Common.{◌≡◌, ◌∙◌, ◌⊎◌, inl, inr, sym, ap, subst, Bool, true, false, cond, List, [], ◌∷◌, Option, None, Some, refl, true≢false}
use Rattle.std.specs.List.{list_any}
use Rattle.std.proofs.lemmas.Bool.{or_right}
use Rattle.zapdu.specs.declared.apdu.Apdu.{Apdu}
use Rattle.zapdu.specs.declared.apdu.Apdu.TheVariants as apdus
use Rattle.zorigin.specs.declared.answer.Answer.{Answer}
use Rattle.zorigin.specs.declared.refusal.Refused.{Refused}
use Rattle.zorigin.specs.declared.state.State.TheVariants as origins
use Rattle.zorigin.specs.Replies.{verdict}
use Rattle.zorigin.specs.Log.{standing, state_of, state_from, state_by, closing_state, opening, is_close_call, is_init_call}
use Rattle.zoom_questions.specs.declared.question.Question.{Question}
use Rattle.zoom_questions.specs.declared.question.MetaSettings.{MetaSettings}
use Rattle.zoom_pool.specs.declared.state.State.{State}
use Rattle.zoom_pool.specs.declared.state.State.TheVariants as states
use Rattle.zoom_pool.specs.declared.state.Reason.{Reason}
use Rattle.zoom_pool.specs.declared.state.Reason.TheVariants as reasons
use Rattle.zoom_pool.specs.States.{is_stopped, is_closing, state_as}
use Rattle.zoom_pool.specs.Inputs.{Input, AlreadyStopped, Message, Foreign, Fault, Rest, Nothing}
use Rattle.zoom_pool.specs.Transcripts.{Transcript, IsTranscript, Event, Took, InputEnded, Stopped, NextInput, after_take, past_of, state_at}
use Rattle.zoom_pool.specs.Laws.{IsWaiting}
use Rattle.zoom_pool.specs.Steering.{is_rejected}
use Rattle.zoom_pool.specs.Metas.{settings_of}
use Rattle.zoom_pool.specs.Hosts.{HostState, HostEvent, Holdings}
use Rattle.zoom_laws.specs.Accord.{IsConversation}
use Rattle.zoom_laws.specs.Exchange.{IsSoundExchange, HasTakenAll}
use Rattle.zoom_laws.specs.Schedules.{IsCompleteTranscript}
use Rattle.zoom_laws.proofs.ExchangeTheory.Endings.{stands}
use Rattle.zoom_laws.proofs.ExchangeTheory.States.{Rejects, as_closing, closing_so, stopped_so}
use Rattle.zoom_asking_laws.proofs.TakeSteps.{some_result}
use Rattle.zoom_asking_laws.proofs.Exchanges.{IsExchanged, Laws}

-- ---- states

closing_is : (state : State) → is_closing state ≡ true → state ≡ states.Closing
closing_is states.Fresh is = absurd (true≢false (sym is))
closing_is states.Initialising is = absurd (true≢false (sym is))
closing_is (states.Ready v3 concurrent named) is = absurd (true≢false (sym is))
closing_is states.Closing is = refl
closing_is states.Closed is = absurd (true≢false (sym is))
closing_is (states.Failed reason) is = absurd (true≢false (sym is))

not_failed : (reason : Reason) → states.Failed reason ≡ states.Closed → ⊥
not_failed reason is = absurd cc

-- the end of its input closed it only if it was Closing
closed_from : (b : Bool) → cond b states.Closed (states.Failed reasons.Ended) ≡ states.Closed → b ≡ true
closed_from true is = refl
closed_from false is = absurd (not_failed reasons.Ended is)

rejects_closed : (reply : Apdu) → Rejects reply → state_by reply ≡ origins.Closed
rejects_closed (apdus.InitRequest v) r = refl
rejects_closed (apdus.InitResponse v) r = rw r refl
rejects_closed (apdus.SearchRequest v) r = refl
rejects_closed (apdus.SearchResponse v) r = refl
rejects_closed (apdus.PresentRequest v) r = refl
rejects_closed (apdus.PresentResponse v) r = refl
rejects_closed (apdus.Close v) r = refl

-- of an origin that refused no reply: if it is over, it is Closed
over_closed : (fault : Option Refused) (closed closing begun : Bool) (answer : Option Answer) → fault ≡ None
    → is_stopped (state_as (state_from fault closed closing begun answer)) ≡ true
    → state_from fault closed closing begun answer ≡ origins.Closed
over_closed (Some reason) closed closing begun answer is over = absurd cc
over_closed None true closing begun answer is over = refl
over_closed None false closing begun answer is over = by (stopped_so None false closing begun answer refl over)
  where
    by : (false ≡ true) ⊎ ((a : Answer) × (answer ≡ Some a) × Rejects a.reply)
        → state_from None false closing begun answer ≡ origins.Closed
    by (inl never) = absurd (true≢false (sym never))
    by (inr x) =
        ap (λ z. state_from None false closing begun z) x.1
        ∙ ap (λ z. closing_state closing z) (rejects_closed x.0.reply x.2)

-- ---- a connection that was answered

-- The association was rejected or Close was sent, and each reply that it accepted is owed to its requests.
pub record IsAnswered (holdings : Holdings) (p : Transcript) : Type 0 where
  pub complete : IsCompleteTranscript p
  pub conversed : IsConversation holdings.databases holdings.settings p.settings p.log

module _ (s : MetaSettings) (holdings : Holdings) where
  -- if a connection with these events is Closed, it was answered
  abbrev pub IsAnsweredIfClosed : List Event → Type 0
  IsAnsweredIfClosed events =
      (p : Transcript) → IsTranscript (settings_of s) events p → state_at p ≡ states.Closed → IsAnswered holdings p

  -- a connection with these events is Closed, and it was answered
  abbrev pub IsClosedAndAnswered : List Event → Type 0
  IsClosedAndAnswered events =
      (p : Transcript) → IsTranscript (settings_of s) events p → (state_at p ≡ states.Closed) × IsAnswered holdings p

  -- One without events is not Closed.
  pub none_answered : IsAnsweredIfClosed []
  none_answered p t closed =
      absurd (let is : states.Fresh ≡ states.Closed = sym (ap state_at t) ∙ closed in let no : ⊥ = cc in no)

  -- One that was stopped is not.
  pub stopped_answered : (reason : Reason) (events : List Event) → IsAnsweredIfClosed (Stopped reason ∷ events)
  stopped_answered reason events p t closed = absurd (not_failed reason (sym (ap state_at t.2) ∙ closed))

-- ---- an exchange with a target

module _ (laws : Laws) (s : MetaSettings) (question : Question) (holdings : Holdings) (xs : List HostEvent)
    (end : HostState) (old : List Event) (p : Transcript) (e : IsExchanged s question holdings xs end old p)
  where
    sound : IsSoundExchange holdings (settings_of s) old p xs end
    sound = e.under.sound

    conversed : IsConversation holdings.databases holdings.settings p.settings p.log
    conversed = laws.exchange.conversation holdings (settings_of s) old p xs end sound

    stands_so : state_at p ≡ state_as (state_of (past_of p))
    stands_so = stands holdings (settings_of s) old p xs end sound

    same : (q : Transcript) → IsTranscript (settings_of s) old q → p ≡ q
    same q t = laws.transcripts (settings_of s) old p q sound.transcript t

    -- One that is over is Closed, and was answered.
    closed_over : is_stopped (state_at p) ≡ true → state_at p ≡ states.Closed
    closed_over over =
        let r = past_of p in
        stands_so ∙ ap state_as (over_closed r.fault r.closed (list_any is_close_call r.admitted)
        (list_any is_init_call r.admitted) (opening r) sound.sound (ap is_stopped (sym stands_so) ∙ over))

    pub over_answered : is_stopped (state_at p) ≡ true → IsClosedAndAnswered s holdings old
    over_answered over q t =
        subst (λ z. (state_at z ≡ states.Closed) × IsAnswered holdings z) (same q t) (
          closed_over over,
          record {
            complete = laws.exchange.ends holdings (settings_of s) old p xs end sound over;
            conversed = conversed;
          },
        )

    -- One that is not over is not Closed.
    module _ (on : is_stopped (state_at p) ≡ false) where
      pub going_answered : IsAnsweredIfClosed s holdings old
      going_answered q t closed =
          absurd (true≢false (sym (ap is_stopped (ap state_at (same q t) ∙ closed)) ∙ on))

      -- ---- the end of its input

      abbrev ended : Transcript → Transcript
      ended q = record q { ended = true }

      waits : HasTakenAll p → IsWaiting p
      waits all = record {
        is_going = on;
        more = sound.goes_on;
        rest = all.0;
        behind = all.1;
        unfinished = all.2;
      }

      complete_closing : is_closing (state_at p) ≡ true → IsCompleteTranscript p
      complete_closing closing =
          let r = past_of p in
          or_right (is_rejected (opening r)) (list_any is_close_call r.admitted)
          (closing_so r.fault r.closed (list_any is_close_call r.admitted) (list_any is_init_call r.admitted)
          (opening r) (as_closing (state_of r) (sym stands_so ∙ closing_is (state_at p) closing))).1

      last_answered : (input : Input) → NextInput (ended p) input
          → state_at (after_take (ended p) input) ≡ states.Closed → IsAnswered holdings (after_take (ended p) input)
      last_answered AlreadyStopped next closed = absurd (true≢false (sym next ∙ on))
      last_answered (Message v) next closed =
          absurd (some_result (verdict (standing (past_of p)) v)
          ((laws.takes.nothing p (Message v) next).1 (waits (e.taken on))))
      last_answered (Foreign error) next closed = absurd (not_failed _ closed)
      last_answered (Fault kind at) next closed = absurd (not_failed _ closed)
      last_answered (Rest n) next closed = absurd (not_failed _ closed)
      last_answered Nothing next closed = record {
        complete = complete_closing (closed_from (is_closing (state_at p)) closed);
        conversed = conversed;
      }

      -- Then it is Closed only if it had sent its Close.
      pub ended_answered : IsAnsweredIfClosed s holdings (Took ∷ InputEnded ∷ old)
      ended_answered q t closed =
          let was : ended p ≡ t.0 = ap ended (same t.1.0 t.1.1) ∙ sym t.1.2 in
          let next : NextInput (ended p) t.2.0 = subst (λ z. NextInput z t.2.0) (sym was) t.2.1 in
          let is : after_take (ended p) t.2.0 ≡ q = ap (λ z. after_take z t.2.0) was ∙ sym t.2.2 in
          subst (IsAnswered holdings) is (last_answered t.2.0 next (ap state_at is ∙ closed))
