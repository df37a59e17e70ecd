-- The calls that are due are decided by what has been: two drives from events that amount to the same end alike.
use Rattle.std.proofs.Common.{◌≡◌, ◌<◌, true, false, List, [], ◌∷◌, ◌++◌, map, Option, Some, None, refl, sym, ap, subst, ◌∙◌, true≢false}
use Rattle.zplan.specs.Positions.{IsWanted}
use Rattle.zplan.specs.Ranges.{positions}
use Rattle.zplan.specs.Laws.{NumberLaw}
use Rattle.zorigin.specs.declared.settings.Settings.{Settings}
use Rattle.zorigin.specs.declared.state.State.{State as OriginState}
use Rattle.zorigin.specs.declared.state.State.TheVariants as origins
use Rattle.zorigin.specs.Standings.{Call}
use Rattle.zorigin.specs.Log.{Log, Made, past, state_of}
use Rattle.zoom_questions.specs.declared.question.Question.{Question}
use Rattle.zoom_questions.specs.declared.question.MetaSettings.{MetaSettings}
use Rattle.zoom_pool.specs.declared.state.State.{State}
use Rattle.zoom_pool.specs.States.{state_as, or_else, is_stopped}
use Rattle.zoom_pool.specs.Transcripts.{Transcript, IsTranscript, Event, Called, past_of, is_lost, sent}
use Rattle.zoom_pool.specs.Laws.{OneInput, OneTranscript}
use Rattle.zoom_pool.specs.Driving.{events_of, DrivenLaws}
use Rattle.zoom_pool.specs.Steering.{Errand, errand_of, may_call}
use Rattle.zoom_pool.specs.Metas.{IsIdleUnlessStopped, settings_of}
use Rattle.zoom_pool.proofs.Advancing.{transcript_before}
use Rattle.zoom_pool.proofs.DriveLaws.{IsAtRest, turned, same_end, called, uncalled}
use Rattle.zoom_asking.specs.Laws.{AreAlike}
use Rattle.zoom_asking.specs.Talks.{IsDriven}
use Rattle.zoom_asking.proofs.Alike.{AreSame, carried}
use Rattle.zoom_asking.proofs.Steady.{IsSteady, AreSound}

-- the laws that the proofs below rest on
pub record Laws : Type 0 where
  pub numbers : NumberLaw
  pub driven : DrivenLaws
  pub input : OneInput
  pub transcript : OneTranscript

-- ---- logs at rest

-- a connection whose origin takes calls goes on
callable : (state : OriginState) → may_call state ≡ true → is_stopped (state_as state) ≡ false
callable origins.Fresh t = refl
callable origins.Initialising t = refl
callable (origins.Ready v3 concurrent named) t = refl
callable origins.Closing t = refl
callable origins.Closed t = absurd (true≢false (sym t))
callable (origins.Failed reason) t = absurd (true≢false (sym t))

-- no call is next on a connection that nothing stopped
at_rest : (e : Errand) (p : Transcript) → p.stop ≡ None → IsSteady e p → IsIdleUnlessStopped e p
    → IsAtRest e p.settings p.log
at_rest e p stop steady idle = record {
  steered = steady.0;
  driven = steady.1;
  none = λ call next. idle
      (ap (λ o. is_stopped (or_else (state_as (state_of (past_of p))) o)) stop
      ∙ callable (state_of (past_of p)) next.stands) call next;
}

module _ (l : Laws) (e : Errand) (w : IsWanted e.wanted) (lo : 0 < e.step) where
  -- the logs amount to the same
  abbrev Amount : Settings → Settings → Log → Log → Type 0
  Amount one other log more =
      (past one log ≡ past other more) × (events_of e.ask one log ≡ events_of e.ask other more)

  -- two drives from logs that amount to the same, by these settings
  abbrev EndSame : List Call → List Call → Log → Log → Settings → Settings → Type 0
  EndSame calls others log more one other =
      Amount one other log more → IsAtRest e one (map Made calls ++ log) → IsAtRest e other (map Made others ++ more)
      → Amount one other (map Made calls ++ log) (map Made others ++ more)

  ends_same : (calls others : List Call) (log more : Log) (settings : Settings)
      → EndSame calls others log more settings settings
  ends_same calls others log more settings same a b =
      let made = turned log calls in
      let remade = turned more others in
      let end = same_end e settings l.numbers l.driven w lo made.0 remade.0 log more
      (record { past = same.0; events = same.1 }) (subst (IsAtRest e settings) made.1 a)
      (subst (IsAtRest e settings) remade.1 b) in (
        ap (past settings) made.1 ∙ end.past ∙ sym (ap (past settings) remade.1),
        ap (events_of e.ask settings) made.1 ∙ end.events ∙ sym (ap (events_of e.ask settings) remade.1),
      )

  ends_alike : (p q : Transcript) (calls others : List Call) → AreAlike e p q
      → IsAtRest e p.settings (map Made calls ++ p.log) → IsAtRest e q.settings (map Made others ++ q.log)
      → AreAlike e (record p { log = map Made calls ++ p.log }) (record q { log = map Made others ++ q.log })
  ends_alike p q calls others a x y =
      let end = subst (EndSame calls others p.log q.log p.settings) a.settings
      (ends_same calls others p.log q.log p.settings) (a.past, a.plan) x y in
      record {
        settings = a.settings;
        stream = a.stream;
        taken = a.taken;
        past = end.0;
        plan = end.1;
        ended = a.ended;
        stop = a.stop;
      }

-- ---- events

-- a call loses nothing
lost_calls : (calls : List Call) (events : List Event)
    → is_lost (map (λ call. Called call) calls ++ events) ≡ is_lost events
lost_calls [] events = refl
lost_calls (call ∷ calls) events = lost_calls calls events

-- events of two connections that amount to the same, and lost nothing
pub record AreWhole (s : MetaSettings) (question : Question) (one other : List Event) : Type 0 where
  pub same : AreSame (errand_of s question) (settings_of s) one other
  pub first : is_lost one ≡ false
  pub second : is_lost other ≡ false

module _ (l : Laws) (s : MetaSettings) (question : Question) (w : IsWanted (positions question.wanted))
    (lo : 0 < s.step) where
  -- after the calls of a drive, the log is at rest
  rests : (old new : List Event) (d : IsDriven s question old new) (p : Transcript) → AreSound s question new
      → IsTranscript (settings_of s) (map (λ call. Called call) d.calls ++ old) p → p.stop ≡ None
      → IsAtRest (errand_of s question) p.settings p.log
  rests old new d p sound is none =
      let t = subst (λ events. IsTranscript (settings_of s) events sound.transcript) d.is sound.is in
      let same : sound.transcript ≡ p = t.2
      ∙ l.transcript (settings_of s) (map (λ call. Called call) d.calls ++ old) t.0 p t.1 is in
      at_rest (errand_of s question) p none (subst (IsSteady (errand_of s question)) same sound.steady) (d.idle p is).0

  driven_alike : (old new more most : List Event) (d : IsDriven s question old new) (f : IsDriven s question more most)
      → AreSame (errand_of s question) (settings_of s) old more → AreSound s question new → AreSound s question most
      → (p q : Transcript) → IsTranscript (settings_of s) (map (λ call. Called call) d.calls ++ old) p
      → IsTranscript (settings_of s) (map (λ call. Called call) f.calls ++ more) q
      → AreAlike (errand_of s question) p q
  driven_alike old new more most d f same one other p q x y = by first.0.stop refl
    where
      first : (r : Transcript) × IsTranscript (settings_of s) old r
      first = transcript_before (settings_of s) (map (λ call. Called call) d.calls) old p x

      second : (r : Transcript) × IsTranscript (settings_of s) more r
      second = transcript_before (settings_of s) (map (λ call. Called call) f.calls) more q y

      alike : AreAlike (errand_of s question) first.0 second.0
      alike = same.alike first.0 second.0 first.1 second.1

      by : (o : Option State) → first.0.stop ≡ o → AreAlike (errand_of s question) p q
      by (Some state) stop =
          carried (errand_of s question) first.0 second.0 p q
          (uncalled l.transcript (settings_of s) old first.0 first.1 state stop d.calls p x)
          (uncalled l.transcript (settings_of s) more second.0 second.1 state (sym alike.stop ∙ stop) f.calls q y) alike
      by None stop =
          let p_is = called l.transcript (settings_of s) old first.0 first.1 stop d.calls p x in
          let q_is = called l.transcript (settings_of s) more second.0 second.1 (sym alike.stop ∙ stop) f.calls q y in
          let here = rests old new d p one x (ap (λ (z : Transcript). z.stop) p_is ∙ stop) in
          let there = rests more most f q other y (ap (λ (z : Transcript). z.stop) q_is ∙ sym alike.stop ∙ stop) in
          let e = errand_of s question in
          carried e (record first.0 { log = map Made d.calls ++ first.0.log })
          (record second.0 { log = map Made f.calls ++ second.0.log }) p q p_is q_is
          (ends_alike l e w lo first.0 second.0 d.calls f.calls alike
          (subst (λ (z : Transcript). IsAtRest e z.settings z.log) p_is here)
          (subst (λ (z : Transcript). IsAtRest e z.settings z.log) q_is there))

  whole_driven : (old new : List Event) → IsDriven s question old new → is_lost old ≡ false → is_lost new ≡ false
  whole_driven old new d whole = ap is_lost d.is ∙ lost_calls d.calls old ∙ whole

  pub driven_same : (old new more most : List Event) → IsDriven s question old new → IsDriven s question more most
      → AreWhole s question old more → AreSound s question new → AreSound s question most → AreWhole s question new most
  driven_same old new more most d f a one other =
      let all : (p q : Transcript) → IsTranscript (settings_of s) new p → IsTranscript (settings_of s) most q
      → AreAlike (errand_of s question) p q = λ p q x y.
      let t = subst (λ events. IsTranscript (settings_of s) events p) d.is x in
      let u = subst (λ events. IsTranscript (settings_of s) events q) f.is y in
      carried (errand_of s question) t.0 u.0 p q t.2 u.2
      (driven_alike old new more most d f a.same one other t.0 u.0 t.1 u.1) in
      let first = whole_driven old new d a.first in
      let second = whole_driven more most f a.second in
      record {
        same = record {
          alike = all;
          given = d.all one.transcript one.is first
              ∙ ap sent (all one.transcript other.transcript one.is other.is).past
              ∙ sym (f.all other.transcript other.is second);
        };
        first = first;
        second = second;
      }
