-- Transcripts that are alike stay alike: the same event makes the same of both.
use Rattle.std.proofs.Common.{◌≡◌, ℕ, suc, Bool, true, false, cond, List, ◌∷◌, ◌++◌, Some, Result, Ok, Err, refl, sym, ap, subst, ◌∙◌}
use Rattle.std.specs.Prelude.{◌||◌}
use Rattle.zorigin.specs.declared.answer.Taken.{Taken}
use Rattle.zorigin.specs.declared.refusal.Refused.{Refused}
use Rattle.zorigin.specs.declared.settings.Settings.{Settings}
use Rattle.zorigin.specs.Replies.{verdict}
use Rattle.zorigin.specs.Log.{Entry, Made, Got, standing, state_of, with_entry}
use Rattle.zorigin.specs.Calls.{refusal}
use Rattle.zoom_pool.specs.declared.state.Reason.{Reason}
use Rattle.zoom_pool.specs.declared.state.Reason.TheVariants as reasons
use Rattle.zoom_pool.specs.declared.state.State.{State}
use Rattle.zoom_pool.specs.declared.state.State.TheVariants as states
use Rattle.zoom_pool.specs.declared.step.Step.TheVariants as steps
use Rattle.zoom_pool.specs.declared.step.TakeError.TheVariants as errors
use Rattle.zber.specs.declared.fault.FaultKind.TheVariants as kinds
use Rattle.zoom_pool.specs.Inputs.{Input, AlreadyStopped, Message, Foreign, Fault, Rest, Nothing, IsBehind}
use Rattle.zoom_pool.specs.States.{state_as, or_else, is_stopped, is_closing}
use Rattle.zoom_pool.specs.Transcripts.{Transcript, IsTranscript, Event, Called, Fed, Took, InputEnded, HandedOut, Stopped, EventStep, NextInput, state_at, past_of, given, take_result, take_result_of_verdict, after_take, after_reply, after_feed, after_stop, end_by, truncated}
use Rattle.zoom_pool.specs.Laws.{OneInput}
use Rattle.zoom_pool.specs.Driving.{events_of, made_event, got_event}
use Rattle.zoom_pool.specs.Steering.{Errand}
use Rattle.zoom_asking.specs.Laws.{AreAlike}

-- any event but a call
abbrev pub IsNoCall : Event → Type 0
IsNoCall (Called call) = ⊥
IsNoCall _ = Unit {0}

module _ (e : Errand) where
  pub alike_self : (p : Transcript) → AreAlike e p p
  alike_self p = record {
    settings = refl;
    stream = refl;
    taken = refl;
    past = refl;
    plan = refl;
    ended = refl;
    stop = refl;
  }

  -- what equals alike transcripts is alike
  pub carried : (p q x y : Transcript) → x ≡ p → y ≡ q → AreAlike e p q → AreAlike e x y
  carried p q x y s t a = subst (λ z. AreAlike e z y) (sym s) (subst (λ z. AreAlike e p z) (sym t) a)

  pub same_state : (p q : Transcript) → AreAlike e p q → state_at p ≡ state_at q
  same_state p q a = λ i. or_else (state_as (state_of (a.past i))) (a.stop i)

  -- ---- what the next take finds

  still_going : (p q : Transcript) → AreAlike e p q → is_stopped (state_at p) ≡ false → is_stopped (state_at q) ≡ false
  still_going p q a going = sym (ap is_stopped (same_state p q a)) ∙ going

  still_behind : (p q : Transcript) → AreAlike e p q → (rest : List ℕ) → IsBehind p.stream p.taken rest
      → IsBehind q.stream q.taken rest
  still_behind p q a rest b =
      subst (λ n. IsBehind q.stream n rest) a.taken (subst (λ l. IsBehind l p.taken rest) a.stream b)

  pub same_input : (p q : Transcript) → AreAlike e p q → (input : Input) → NextInput p input → NextInput q input
  same_input p q a AlreadyStopped n = sym (ap is_stopped (same_state p q a)) ∙ n
  same_input p q a (Message v) n = (still_going p q a n.0, n.1, still_behind p q a n.1 n.2, n.3)
  same_input p q a (Foreign error) n = (still_going p q a n.0, n.1, still_behind p q a n.1 n.2, n.3)
  same_input p q a (Fault kind at) n = (still_going p q a n.0, n.1, still_behind p q a n.1 n.2, n.3)
  same_input p q a (Rest k) n = (still_going p q a n.0, n.1, still_behind p q a n.1 n.2, n.3)
  same_input p q a Nothing n = (still_going p q a n.0, n.1, still_behind p q a n.1 n.2, n.3)

  pub same_result : (p q : Transcript) → AreAlike e p q → (input : Input) → take_result p input ≡ take_result q input
  same_result p q a AlreadyStopped = refl
  same_result p q a (Message v) = ap (λ x. take_result_of_verdict (verdict (standing x) v)) a.past
  same_result p q a (Foreign error) = refl
  same_result p q a (Fault kind at) = refl
  same_result p q a (Rest n) = ap (λ b. cond b (Err (errors.Frame kinds.Truncated n)) (Ok steps.Nothing)) a.ended
  same_result p q a Nothing = ap (λ b. Ok (cond b steps.Ended steps.Nothing)) a.ended

  -- ---- after it

  pub stopped_alike : (p q : Transcript) → AreAlike e p q → (state other : State) → state ≡ other
      → AreAlike e (record p { stop = Some state }) (record q { stop = Some other })
  stopped_alike p q a state other same = record {
    settings = a.settings;
    stream = a.stream;
    taken = a.taken;
    past = a.past;
    plan = a.plan;
    ended = a.ended;
    stop = ap Some same;
  }

  -- one message more was taken, and the origin did not hear of it
  passed_alike : (p q : Transcript) → AreAlike e p q
      → AreAlike e (record p { taken = suc p.taken }) (record q { taken = suc q.taken })
  passed_alike p q a = record {
    settings = a.settings;
    stream = a.stream;
    taken = ap suc a.taken;
    past = a.past;
    plan = a.plan;
    ended = a.ended;
    stop = a.stop;
  }

  -- the same entry was added to the plan
  planned : (p q : Transcript) (x : Entry) → AreAlike e p q
      → events_of e.ask p.settings (x ∷ p.log) ≡ events_of e.ask q.settings (x ∷ q.log)
  planned p q (Made call) a = λ i. made_event (refusal (standing (a.past i)) call) call (a.plan i)
  planned p q (Got v) a =
      λ i. got_event e.ask (with_entry (Got v) (a.past i)) (verdict (standing (a.past i)) v) (a.plan i)

  -- the origin heard a message
  heard_alike : (p q : Transcript) (x : Entry) → AreAlike e p q
      → AreAlike e (record p { taken = suc p.taken; log = x ∷ p.log })
      (record q { taken = suc q.taken; log = x ∷ q.log })
  heard_alike p q x a = record {
    settings = a.settings;
    stream = a.stream;
    taken = ap suc a.taken;
    past = ap (with_entry x) a.past;
    plan = planned p q x a;
    ended = a.ended;
    stop = a.stop;
  }

  reply_alike : (p q : Transcript) (r : Result Taken Refused) → AreAlike e p q
      → AreAlike e (after_reply p r) (after_reply q r)
  reply_alike p q (Ok taken) a = a
  reply_alike p q (Err reason) a =
      stopped_alike p q a (states.Failed (reasons.Refused reason)) (states.Failed (reasons.Refused reason)) refl

  -- of a pair that goes one of two ways, both go the same way
  both : (x y u v : Transcript) (b c : Bool) → b ≡ c → AreAlike e x u → AreAlike e y v
      → AreAlike e (cond b x y) (cond c u v)
  both x y u v b c same one other = subst (λ d. AreAlike e (cond b x y) (cond d u v)) same (by b)
    where
      by : (d : Bool) → AreAlike e (cond d x y) (cond d u v)
      by true = one
      by false = other

  ended_alike : (p q : Transcript) → AreAlike e p q → AreAlike e (end_by p) (end_by q)
  ended_alike p q a = stopped_alike p q a (cond (is_closing (state_at p)) states.Closed (states.Failed reasons.Ended))
      (cond (is_closing (state_at q)) states.Closed (states.Failed reasons.Ended))
      (ap (λ t. cond (is_closing t) states.Closed (states.Failed reasons.Ended)) (same_state p q a))

  failed_alike : (p q : Transcript) (reason : Reason) → AreAlike e p q
      → AreAlike e (after_stop p reason) (after_stop q reason)
  failed_alike p q reason a = stopped_alike p q a (states.Failed reason) (states.Failed reason) refl

  pub taken_alike : (p q : Transcript) → AreAlike e p q → (input : Input)
      → AreAlike e (after_take p input) (after_take q input)
  taken_alike p q a AlreadyStopped = a
  taken_alike p q a (Message v) =
      let x : Transcript = record p { taken = suc p.taken; log = Got v ∷ p.log } in
      let y : Transcript = record q { taken = suc q.taken; log = Got v ∷ q.log } in
      subst
      (λ h. AreAlike e (after_reply x (verdict (standing (past_of p)) v)) (after_reply y (verdict (standing h) v)))
      a.past (reply_alike x y (verdict (standing (past_of p)) v) (heard_alike p q (Got v) a))
  taken_alike p q a (Foreign error) =
      failed_alike (record p { taken = suc p.taken }) (record q { taken = suc q.taken }) (reasons.Decode error)
      (passed_alike p q a)
  taken_alike p q a (Fault kind at) = failed_alike p q (reasons.Frame kind at) a
  taken_alike p q a (Rest n) =
      both (after_stop p (truncated n)) p (after_stop q (truncated n)) q p.ended q.ended a.ended
      (failed_alike p q (truncated n) a) a
  taken_alike p q a Nothing =
      both (end_by p) p (end_by q) q p.ended q.ended a.ended (ended_alike p q a) a

  -- ---- events

  fed_alike : (p q : Transcript) (piece : List ℕ) → AreAlike e p q
      → AreAlike e (after_feed p piece) (after_feed q piece)
  fed_alike p q piece a =
      both p (record p { stream = p.stream ++ piece }) q (record q { stream = q.stream ++ piece })
      (is_stopped (state_at p) || p.ended) (is_stopped (state_at q) || q.ended)
      (λ i. is_stopped (same_state p q a i) || a.ended i) a (record {
        settings = a.settings;
        stream = ap (λ l. l ++ piece) a.stream;
        taken = a.taken;
        past = a.past;
        plan = a.plan;
        ended = a.ended;
        stop = a.stop;
      })

  over_alike : (p q : Transcript) → AreAlike e p q → AreAlike e (record p { ended = true }) (record q { ended = true })
  over_alike p q a = record {
    settings = a.settings;
    stream = a.stream;
    taken = a.taken;
    past = a.past;
    plan = a.plan;
    ended = refl;
    stop = a.stop;
  }

  -- a take of alike transcripts has the same input
  pub one_take : OneInput → (p q : Transcript) → AreAlike e p q → (m n : Input) → NextInput p m → NextInput q n → m ≡ n
  one_take meeting p q a m n x y = meeting q m n (same_input p q a m x) y

  pub event_alike : OneInput → (x : Event) → IsNoCall x → (p q r s : Transcript) → AreAlike e p q
      → EventStep x p r → EventStep x q s → AreAlike e r s
  event_alike meeting (Called call) quiet p q r s a f g = absurd quiet
  event_alike meeting (Fed piece) quiet p q r s a f g =
      carried (after_feed p piece) (after_feed q piece) r s f g (fed_alike p q piece a)
  event_alike meeting Took quiet p q r s a f g =
      carried (after_take p f.0) (after_take q f.0) r s f.2
      (g.2 ∙ ap (after_take q) (sym (one_take meeting p q a f.0 g.0 f.1 g.1))) (taken_alike p q a f.0)
  event_alike meeting InputEnded quiet p q r s a f g =
      carried (record p { ended = true }) (record q { ended = true }) r s f g (over_alike p q a)
  event_alike meeting (HandedOut octets) quiet p q r s a f g = carried p q r s f g a
  event_alike meeting (Stopped reason) quiet p q r s a f g =
      carried (after_stop p reason) (after_stop q reason) r s f g (failed_alike p q reason a)

  -- ---- events of two connections that amount to the same

  pub record AreSame (settings : Settings) (one other : List Event) : Type 0 where
    pub alike : (p q : Transcript) → IsTranscript settings one p → IsTranscript settings other q → AreAlike e p q
    pub given : given one ≡ given other

  -- what an event hands out
  given_more : (x : Event) (one other : List Event) → given one ≡ given other → given (x ∷ one) ≡ given (x ∷ other)
  given_more (Called call) one other same = same
  given_more (Fed piece) one other same = same
  given_more Took one other same = same
  given_more InputEnded one other same = same
  given_more (HandedOut octets) one other same = ap (λ l. l ++ octets) same
  given_more (Stopped reason) one other same = same

  pub same_more : OneInput → (settings : Settings) (x : Event) → IsNoCall x → (one other : List Event)
      → AreSame settings one other → AreSame settings (x ∷ one) (x ∷ other)
  same_more meeting settings x quiet one other s = record {
    alike = λ p q f g. event_alike meeting x quiet f.0 g.0 p q (s.alike f.0 g.0 f.1 g.1) f.2 g.2;
    given = given_more x one other s.given;
  }
