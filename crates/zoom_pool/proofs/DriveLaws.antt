-- What a driven connection sends is decided by its history.
use Rattle.std.proofs.Common.{◌≡◌, ℕ, ◌+◌, ◌<◌, Bool, true, false, cond, List, [], ◌∷◌, ◌++◌, map, slice_get, Option, None, Some, refl, sym, ap, subst, ◌∙◌, true≢false}
use Rattle.std.specs.Prelude.{is_some}
use Rattle.zplan.specs.Plan as plan
use Rattle.zplan.specs.Plan.{PlanEvent, RequestSent, CloseSent, IsNextEvent}
use Rattle.zplan.specs.Positions.{IsWanted, first_of}
use Rattle.zplan.specs.Ranges.{positions}
use Rattle.zplan.specs.Laws.{NumberLaw}
use Rattle.zorigin.specs.declared.settings.Settings.{Settings}
use Rattle.zorigin.specs.declared.refusal.CallRefused.{CallRefused}
use Rattle.zorigin.specs.declared.state.State.{State as OriginState}
use Rattle.zorigin.specs.declared.state.State.TheVariants as origins
use Rattle.zorigin.specs.Standings.{Call, Init, Search, Present, Close}
use Rattle.zorigin.specs.Calls.{refusal}
use Rattle.zorigin.specs.Log.{Log, Made, past, standing, state_of, admit_unless}
use Rattle.zoom_questions.specs.declared.question.Question.{Question}
use Rattle.zoom_questions.specs.declared.question.MetaSettings.{MetaSettings}
use Rattle.zoom_pool.specs.declared.state.State.{State}
use Rattle.zoom_pool.specs.States.{state_as, or_else, is_stopped}
use Rattle.zoom_pool.specs.Transcripts.{Transcript, IsTranscript, Event, Called, after_call, past_of, state_at}
use Rattle.zoom_pool.specs.History.{History, events_on}
use Rattle.zoom_pool.specs.Laws.{OneTranscript}
use Rattle.zoom_pool.specs.Driving.{plan_of, events_of, made_event, IsNumbered, IsDrivenLog, DrivenLaws}
use Rattle.zoom_pool.specs.Steering.{Errand, errand_of, may_call, room_in, IsCallOf, IsNextCall, HasFewestRanges, IsDriverCall, IsSteeredCall, IsSteered}
use Rattle.zoom_pool.specs.Drivers.{IsDriver}
use Rattle.zoom_pool.specs.Metas.{MetaLinks, MetaAfterPartial, IsIdleUnlessStopped, call_events, settings_of}
use Rattle.zoom_pool.specs.DriveLaws.{OneCallLaw, OneDriveLaw, DriveLaws}
use Rattle.zoom_pool.proofs.Fewest.{same_ranges, one_event}
use Rattle.zoom_pool.proofs.MetaLaws.{driver_of}
use Rattle.zoom_pool.proofs.Advancing.{only_made, transcript_before, transcript_of_call}

-- ---- one call

-- two calls of an errand for the same event of the plan are the same call, if both have the fewest ranges
same_call : (e : Errand) (one other : Call) → IsCallOf e one → IsCallOf e other → IsNumbered one
    → IsNumbered other → HasFewestRanges one → HasFewestRanges other → plan_of one ≡ plan_of other → one ≡ other
same_call e Init Init a b m n f g q = refl
same_call e (Search op set ask) (Search number of query) a b m n f g q =
    λ i. Search ((m ∙ sym n) i) ((a.0 ∙ sym b.0) i) ((a.1 ∙ sym b.1) i)
same_call e (Present op set ranges) (Present number of others) a b m n f g q =
    let list : positions ranges ≡ positions others = cc in
    let same = same_ranges ranges others f g list in
    λ i. Present ((m ∙ ap (λ l. first_of l + 1) list ∙ sym n) i) ((a ∙ sym b) i) (same i)
same_call e Close Close a b m n f g q = refl
same_call e Init (Search number of query) a b m n f g q = absurd (cc)
same_call e Init (Present number of others) a b m n f g q = absurd (cc)
same_call e Init Close a b m n f g q = absurd (cc)
same_call e (Search op set ask) Init a b m n f g q = absurd (cc)
same_call e (Search op set ask) (Present number of others) a b m n f g q = absurd (cc)
same_call e (Search op set ask) Close a b m n f g q = absurd (cc)
same_call e (Present op set ranges) Init a b m n f g q = absurd (cc)
same_call e (Present op set ranges) (Search number of query) a b m n f g q = absurd (cc)
same_call e (Present op set ranges) Close a b m n f g q = absurd (cc)
same_call e Close Init a b m n f g q = absurd (cc)
same_call e Close (Search number of query) a b m n f g q = absurd (cc)
same_call e Close (Present number of others) a b m n f g q = absurd (cc)

pub one_call : NumberLaw → (e : Errand) (settings : Settings) (log : Log) → IsWanted e.wanted → 0 < e.step
    → plan.IsDriven e.wanted e.step (events_of e.ask settings log) → (one other : Call)
    → IsDriverCall e settings log one → IsDriverCall e settings log other → one ≡ other
one_call numbers e settings log w lo driven one other a b =
    same_call e one other a.0.of b.0.of a.0.numbered b.0.numbered a.1 b.1
    (one_event numbers e.wanted e.step (room_in e.window (past settings log)) (events_of e.ask settings log) w lo driven
    (plan_of one) (plan_of other) a.0.next b.0.next)

pub one_call_of : NumberLaw → DrivenLaws → OneCallLaw
one_call_of numbers laws = λ e settings log d one other k a b.
    one_call numbers e settings log k.wanted k.steps (laws.driven e.ask e.wanted e.step settings log k.driven) one
    other a b

-- ---- calls after a log

-- the log after these calls, the oldest first
abbrev pub after_calls : Log → List Call → Log
after_calls log [] = log
after_calls log (call ∷ calls) = after_calls (Made call ∷ log) calls

pub after_last : (log : Log) (calls : List Call) (call : Call)
    → Made call ∷ after_calls log calls ≡ after_calls log (calls ++ call ∷ [])
after_last log [] call = refl
after_last log (x ∷ calls) call = after_last (Made x ∷ log) calls call

-- the same calls, the newest first
pub turned : (log : Log) (calls : List Call) → (others : List Call) × (map Made calls ++ log ≡ after_calls log others)
turned log [] = ([], refl)
turned log (call ∷ calls) =
    let t = turned log calls in (t.0 ++ call ∷ [], ap (λ l. Made call ∷ l) t.1 ∙ after_last log t.0 call)

-- two logs amount to the same
pub record SameSent (e : Errand) (settings : Settings) (log more : Log) : Type 0 where
  pub past : past settings log ≡ past settings more
  pub events : events_of e.ask settings log ≡ events_of e.ask settings more

-- each call of the log was the driver's, and none is next
pub record IsAtRest (e : Errand) (settings : Settings) (log : Log) : Type 0 where
  pub steered : IsSteered e settings log
  pub driven : IsDrivenLog e.ask e.wanted e.step settings log
  pub none : (call : Call) → IsNextCall e settings log call → ⊥

module _ (e : Errand) (settings : Settings) where
  pub same_self : (log : Log) → SameSent e settings log log
  same_self log = record { past = refl; events = refl }

  pub same_back : (log more : Log) → SameSent e settings log more → SameSent e settings more log
  same_back log more s = record { past = sym s.past; events = sym s.events }

  pub same_then : (log more most : Log) → SameSent e settings log more → SameSent e settings more most
      → SameSent e settings log most
  same_then log more most s t = record { past = s.past ∙ t.past; events = s.events ∙ t.events }

  pub same_more : (log more : Log) (call : Call) → SameSent e settings log more
      → SameSent e settings (Made call ∷ log) (Made call ∷ more)
  same_more log more call s = record {
    past = ap (λ p. admit_unless p call (refusal (standing p) call)) s.past;
    events = λ i. made_event (refusal (standing (s.past i)) call) call (s.events i);
  }

  pub same_refused : (log : Log) (call : Call) (reason : CallRefused)
      → refusal (standing (past settings log)) call ≡ Some reason → SameSent e settings log (Made call ∷ log)
  same_refused log call reason q = record {
    past = sym (ap (admit_unless (past settings log) call) q);
    events = sym (ap (λ r. made_event r call (events_of e.ask settings log)) q);
  }

  next_same : (log more : Log) → SameSent e settings log more → (call : Call) → IsNextCall e settings log call
      → IsNextCall e settings more call
  next_same log more s call n = record {
    stands = subst (λ p. may_call (state_of p) ≡ true) s.past n.stands;
    of = n.of;
    numbered = n.numbered;
    next = subst (λ z. IsNextEvent e.wanted e.step (room_in e.window (past settings more)) z (plan_of call)) s.events
        (subst (λ p. IsNextEvent e.wanted e.step (room_in e.window p) (events_of e.ask settings log) (plan_of call))
        s.past n.next);
  }

  pub steered_before : (log : Log) (calls : List Call) → IsSteered e settings (after_calls log calls)
      → IsSteered e settings log
  steered_before log [] s = s
  steered_before log (call ∷ calls) s = (steered_before (Made call ∷ log) calls s).1

  pub driven_before : (log : Log) (calls : List Call) → IsDrivenLog e.ask e.wanted e.step settings (after_calls log calls)
      → IsDrivenLog e.ask e.wanted e.step settings log
  driven_before log [] d = d
  driven_before log (call ∷ calls) d = (driven_before (Made call ∷ log) calls d).1

  -- an admitted call was the driver's
  driver_call : (log : Log) (call : Call) → IsSteered e settings (Made call ∷ log)
      → refusal (standing (past settings log)) call ≡ None → IsDriverCall e settings log call
  driver_call log call s q = subst (λ r. IsSteeredCall e settings log r call) q s.0

  -- if no call is next, none is admitted
  abbrev Stays : List Call → Type 0
  Stays calls =
      (log : Log) → IsSteered e settings (after_calls log calls)
      → ((call : Call) → IsNextCall e settings log call → ⊥) → SameSent e settings log (after_calls log calls)

  stays : (calls : List Call) → Stays calls
  stays [] log s none = same_self log
  stays (call ∷ calls) log s none = by (stays calls) (refusal (standing (past settings log)) call) refl
    where
      by : Stays calls → (r : Option CallRefused) → refusal (standing (past settings log)) call ≡ r
          → SameSent e settings log (after_calls (Made call ∷ log) calls)
      by later None q = absurd (none call (driver_call log call (steered_before (Made call ∷ log) calls s) q).0)
      by later (Some reason) q =
          let same = same_refused log call reason q in
          let back = same_back log (Made call ∷ log) same in
          same_then log (Made call ∷ log) (after_calls (Made call ∷ log) calls) same
          (later (Made call ∷ log) s (λ x n. none x (next_same (Made call ∷ log) log back x n)))

  -- the first call that was admitted
  record FirstSent (log : Log) (calls : List Call) : Type 0 where
    pub call : Call
    pub at : Log
    pub later : List Call
    pub same : SameSent e settings log at
    pub admitted : refusal (standing (past settings at)) call ≡ None
    pub rest : after_calls log calls ≡ after_calls (Made call ∷ at) later

  -- if a call is next and none is next in the end, one was admitted
  abbrev HasFirst : List Call → Type 0
  HasFirst calls =
      (log : Log) (next : Call) → IsNextCall e settings log next
      → ((call : Call) → IsNextCall e settings (after_calls log calls) call → ⊥) → FirstSent log calls

  first_sent : (calls : List Call) → HasFirst calls
  first_sent [] log next n none = absurd (none next n)
  first_sent (call ∷ calls) log next n none = by (first_sent calls) (refusal (standing (past settings log)) call) refl
    where
      by : HasFirst calls → (r : Option CallRefused) → refusal (standing (past settings log)) call ≡ r
          → FirstSent log (call ∷ calls)
      by later None q = record { call = call; at = log; later = calls; same = same_self log; admitted = q; rest = refl }
      by later (Some reason) q =
          let same = same_refused log call reason q in
          let f = later (Made call ∷ log) next (next_same log (Made call ∷ log) same next n) none in
          record {
            call = f.call;
            at = f.at;
            later = f.later;
            same = same_then log (Made call ∷ log) f.at same f.same;
            admitted = f.admitted;
            rest = f.rest;
          }

  -- ---- two drives

  module _ (numbers : NumberLaw) (laws : DrivenLaws) (w : IsWanted e.wanted) (lo : 0 < e.step) where
    abbrev pub SameEnd : List Call → Type 0
    SameEnd calls =
        (others : List Call) (log more : Log) → SameSent e settings log more
        → IsAtRest e settings (after_calls log calls) → IsAtRest e settings (after_calls more others)
        → SameSent e settings (after_calls log calls) (after_calls more others)

    pub same_end : (calls : List Call) → SameEnd calls
    same_end [] others log more same a b =
        same_then log more (after_calls more others) same
        (stays others more b.steered (λ call n. a.none call (next_same more log (same_back log more same) call n)))
    same_end (call ∷ calls) others log more same a b =
        by (same_end calls) (refusal (standing (past settings log)) call) refl
      where
        by : SameEnd calls → (r : Option CallRefused) → refusal (standing (past settings log)) call ≡ r
            → SameSent e settings (after_calls (Made call ∷ log) calls) (after_calls more others)
        by later (Some reason) q =
            let step = same_refused log call reason q in
            later others (Made call ∷ log) more
            (same_then (Made call ∷ log) log more (same_back log (Made call ∷ log) step) same) a b
        by later None q =
            let due = driver_call log call (steered_before (Made call ∷ log) calls a.steered) q in
            let f = first_sent others more call (next_same log more same call due.0) b.none in
            let end : IsAtRest e settings (after_calls (Made f.call ∷ f.at) f.later) =
            subst (IsAtRest e settings) f.rest b in
            let all = same_then log more f.at same f.same in
            let is : call ≡ f.call = one_call numbers e settings f.at w lo
            (laws.driven e.ask e.wanted e.step settings f.at
            (driven_before (Made f.call ∷ f.at) f.later end.driven).1)
            call f.call (next_same log f.at all call due.0, due.1)
            (driver_call f.at f.call (steered_before (Made f.call ∷ f.at) f.later end.steered) f.admitted) in
            let step = subst (λ x. SameSent e settings (Made call ∷ log) (Made x ∷ f.at)) is
            (same_more log f.at call all) in
            subst (SameSent e settings (after_calls (Made call ∷ log) calls)) (sym f.rest)
            (later f.later (Made call ∷ log) (Made f.call ∷ f.at) step a end)

-- ---- transcripts

-- a connection whose origin takes calls goes on
callable : (state : OriginState) → may_call state ≡ true → is_stopped (state_as state) ≡ false
callable origins.Fresh t = refl
callable origins.Initialising t = refl
callable (origins.Ready v3 concurrent named) t = refl
callable origins.Closing t = refl
callable origins.Closed t = absurd (true≢false (sym t))
callable (origins.Failed reason) t = absurd (true≢false (sym t))

module _ (hearing : OneTranscript) (settings : Settings) (events : List Event) (base : Transcript)
    (transcript : IsTranscript settings events base) where
  -- the transcript after calls on a connection that nothing stopped
  pub called : base.stop ≡ None → (calls : List Call) (p : Transcript)
      → IsTranscript settings (map (λ call. Called call) calls ++ events) p
      → p ≡ record base { log = map Made calls ++ base.log }
  called none [] p x = hearing settings events p base x transcript
  called none (call ∷ calls) p x =
      x.2 ∙ ap (λ z. after_call z call) (called none calls x.0 x.1)
      ∙ transcript_of_call (record base { log = map Made calls ++ base.log }) call none

  -- calls on a connection that was stopped change nothing
  pub uncalled : (state : State) → base.stop ≡ Some state → (calls : List Call) (p : Transcript)
      → IsTranscript settings (map (λ call. Called call) calls ++ events) p → p ≡ base
  uncalled state stop [] p x = hearing settings events p base x transcript
  uncalled state stop (call ∷ calls) p x =
      x.2 ∙ ap (λ z. after_call z call) (uncalled state stop calls x.0 x.1)
      ∙ ap (λ o. cond (is_some o) base (record base { log = Made call ∷ base.log })) stop

-- if no call is next, the log is at rest
rests : (questions : List Question) (s : MetaSettings) (partial : List ℕ) (c : ℕ) (question : Question) (h : History)
    (meta : MetaLinks) (p : Transcript) → slice_get questions c ≡ Some question
    → MetaAfterPartial questions s partial h meta → p.stop ≡ None → IsTranscript (settings_of s) (events_on c h) p
    → IsIdleUnlessStopped (errand_of s question) p
    → IsAtRest (errand_of s question) p.settings p.log × IsWanted (positions question.wanted) × (0 < s.step)
rests questions s partial c question h meta p at a stop x none =
    let d = driver_of questions meta.drivers c question a.driven.size at in
    let k = a.driven.each c question d.0 p at d.1 x in
    let rest : IsAtRest (errand_of s question) p.settings p.log = record {
      steered = k.steered;
      driven = k.driven;
      none = λ call next. none
          (ap (λ o. is_stopped (or_else (state_as (state_of (past_of p))) o)) stop
          ∙ callable (state_of (past_of p)) next.stands) call next;
    } in
    (rest, k.wanted, k.steps)

pub one_drive_of : NumberLaw → DrivenLaws → OneTranscript → OneDriveLaw
one_drive_of numbers laws hearing questions s some more c question h calls others one other p q at a b x y n m =
    by base.0.stop refl
  where
    first : IsTranscript (settings_of s) (map (λ call. Called call) calls ++ events_on c h) p
    first = subst (λ l. IsTranscript (settings_of s) l p) (only_made c calls h) x

    second : IsTranscript (settings_of s) (map (λ call. Called call) others ++ events_on c h) q
    second = subst (λ l. IsTranscript (settings_of s) l q) (only_made c others h) y

    base : (r : Transcript) × IsTranscript (settings_of s) (events_on c h) r
    base = transcript_before (settings_of s) (map (λ call. Called call) calls) (events_on c h) p first

    by : (o : Option State) → base.0.stop ≡ o → past_of p ≡ past_of q
    by (Some state) e =
        let p_is = uncalled hearing (settings_of s) (events_on c h) base.0 base.1 state e calls p first in
        let q_is = uncalled hearing (settings_of s) (events_on c h) base.0 base.1 state e others q second in
        ap past_of (p_is ∙ sym q_is)
    by None e =
        let r = base.0 in
        let errand = errand_of s question in
        let p_is = called hearing (settings_of s) (events_on c h) r base.1 e calls p first in
        let q_is = called hearing (settings_of s) (events_on c h) r base.1 e others q second in
        let over = rests questions s some c question (call_events c calls ++ h) one p at a
        (ap (λ (z : Transcript). z.stop) p_is ∙ e) x n in
        let done = rests questions s more c question (call_events c others ++ h) other q at b
        (ap (λ (z : Transcript). z.stop) q_is ∙ e) y m in
        let made = turned r.log calls in
        let remade = turned r.log others in
        let same = same_end errand r.settings numbers laws over.1 over.2 made.0 remade.0 r.log r.log
        (same_self errand r.settings r.log)
        (subst (IsAtRest errand r.settings) made.1
        (subst (λ (z : Transcript). IsAtRest errand z.settings z.log) p_is over.0))
        (subst (IsAtRest errand r.settings) remade.1
        (subst (λ (z : Transcript). IsAtRest errand z.settings z.log) q_is done.0)) in
        ap past_of p_is ∙ ap (past r.settings) made.1 ∙ same.past ∙ sym (ap (past r.settings) remade.1)
        ∙ sym (ap past_of q_is)

pub drive_laws_of : NumberLaw → DrivenLaws → OneTranscript → DriveLaws
drive_laws_of numbers laws hearing = record {
  call = one_call_of numbers laws;
  drive = one_drive_of numbers laws hearing;
}
