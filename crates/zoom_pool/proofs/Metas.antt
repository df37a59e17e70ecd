-- Driven connections after one more event.
use Rattle.std.proofs.Common.{◌≡◌, ℕ, zero, suc, ◌<◌, ◌≤◌, ◌==◌, Bool, true, false, cond}
use Rattle.std.proofs.Common.{List, [], ◌∷◌, ◌++◌, length, slice_get, slice_set, Some}
use Rattle.std.proofs.Common.{Result, Ok, Err, refl, sym, ap, subst, ◌∙◌, arith}
use Rattle.std.specs.Prelude.{◌||◌}
use Rattle.std.proofs.lemmas.Bool.Decides.{nat_tests}
use Rattle.std.proofs.lemmas.Option.{same_Some, slice_get_within}
use Rattle.std.proofs.Math.ListN.{length-set}
use Rattle.zber.specs.declared.fault.FaultKind.TheVariants as kinds
use Rattle.zapdu.specs.declared.apdu.Apdu.{Apdu}
use Rattle.zorigin.specs.declared.settings.Settings.{Settings}
use Rattle.zorigin.specs.declared.answer.Taken.{Taken}
use Rattle.zorigin.specs.declared.refusal.Refused.{Refused}
use Rattle.zorigin.specs.Replies.{verdict}
use Rattle.zorigin.specs.Log.{Got, standing}
use Rattle.zoom_questions.specs.declared.question.Question.{Question}
use Rattle.zoom_questions.specs.declared.question.MetaSettings.{MetaSettings}
use Rattle.zoom_pool.specs.declared.state.State.{State}
use Rattle.zoom_pool.specs.declared.step.Outcome.{Outcome}
use Rattle.zoom_pool.specs.declared.step.Outcome.TheVariants as outcome
use Rattle.zoom_pool.specs.declared.step.TakeError.{TakeError}
use Rattle.zoom_pool.specs.declared.step.TakeError.TheVariants as errors
use Rattle.zoom_pool.specs.States.{is_stopped}
use Rattle.zoom_pool.specs.Inputs.{Input, AlreadyStopped, Message, Foreign, Fault, Rest, Nothing}
use Rattle.zoom_pool.specs.Transcripts.{Transcript, IsTranscript, EventStep, Event, Called, Fed, Took, InputEnded, HandedOut, Stopped, NextInput, after_take, after_reply}
use Rattle.zoom_pool.specs.Transcripts.{after_feed, after_stop, end_by, truncated, past_of, state_at, outcome_of_reply, outcome_of, HasFoundMemory}
use Rattle.zoom_pool.specs.Links.{Link}
use Rattle.zoom_pool.specs.History.{History, events_on, AreTranscripts, After, AfterPartial}
use Rattle.zoom_questions.specs.Askable.{IsAskable, AreFit, AreAskable}
use Rattle.zoom_pool.specs.Steering.{Errand, errand_with, errand_of}
use Rattle.zoom_pool.specs.Drivers.{DriverState, IsDriver, NoteReplyStep, RefusedLaw}
use Rattle.zoom_pool.specs.Metas.{MetaLinks, settings_of, AreDriven, MetaAfter, MetaAfterPartial, MetaTakeStep, DriverTakeStep, NoteTakeStep, AreNewDrivers, IsTranscriptValueUpTo}
use Rattle.zoom_pool.specs.Laws.{OneInput, OneTranscript}
use Rattle.zoom_pool.specs.PoolSteps.{IsStateAt, IsTakeOutcome, TakeStep}
use Rattle.zoom_pool.proofs.Pools.{only_same, only_other, get_same, get_other}

-- ---- one more event

pub driven_more : (questions : List Question) (s : MetaSettings) (h : History) (old new : List DriverState) (c : ℕ)
    (event : Event) → AreDriven questions s h old → length new ≡ length old
    → ((i : ℕ) → (c == i) ≡ false → slice_get new i ≡ slice_get old i)
    → ((q : Question) (d : DriverState) (p r : Transcript) → slice_get questions c ≡ Some q → slice_get new c ≡ Some d
    → IsTranscript (settings_of s) (events_on c h) p → EventStep event p r → IsDriver (errand_of s q) r.settings r.log d)
    → AreDriven questions s ((c, event) ∷ h) new
driven_more questions s h old new c event a size same here = record {
  size = size ∙ a.size;
  each = λ i q d r asked drives transcript. by i q d r asked drives transcript (c == i) refl;
}
  where
    at_c : (q : Question) (d : DriverState) (r : Transcript) → slice_get questions c ≡ Some q → slice_get new c ≡ Some d
        → IsTranscript (settings_of s) (events_on c ((c, event) ∷ h)) r → IsDriver (errand_of s q) r.settings r.log d
    at_c q d r asked drives transcript =
        let more = subst (λ l. IsTranscript (settings_of s) l r) (only_same c event h) transcript in
        here q d more.0 r asked drives more.1 more.2

    by : (i : ℕ) (q : Question) (d : DriverState) (r : Transcript) → slice_get questions i ≡ Some q → slice_get new i ≡ Some d
        → IsTranscript (settings_of s) (events_on i ((c, event) ∷ h)) r → (b : Bool) → (c == i) ≡ b
        → IsDriver (errand_of s q) r.settings r.log d
    by i q d r asked drives transcript true t =
        let at : c ≡ i = grind (arith, nat_tests) in
        subst (λ n. slice_get questions n ≡ Some q → slice_get new n ≡ Some d
        → IsTranscript (settings_of s) (events_on n ((c, event) ∷ h)) r → IsDriver (errand_of s q) r.settings r.log d) at
        (at_c q d r) asked drives transcript
    by i q d r asked drives transcript false f = a.each i q d r asked (sym (same i f) ∙ drives)
        (subst (λ l. IsTranscript (settings_of s) l r) (only_other c i event h f) transcript)

-- the event makes no call and takes nothing, so the log is unchanged
abbrev pub IsQuiet : Event → Type 0
IsQuiet (Called call) = ⊥
IsQuiet Took = ⊥
IsQuiet _ = Unit {0}

abbrev IsSameLog : Transcript → Transcript → Type 0
IsSameLog p r = (r.settings ≡ p.settings) × (r.log ≡ p.log)

same_piece : (p : Transcript) (piece : List ℕ) → IsSameLog p (after_feed p piece)
same_piece p piece = elim (is_stopped (state_at p) || p.ended) as
    (λ b. IsSameLog p (cond b p (record p { stream = p.stream ++ piece }))) [ true ↦ (refl, refl) | false ↦ (refl, refl) ]

quiet : (event : Event) (p r : Transcript) → IsQuiet event → EventStep event p r → IsSameLog p r
quiet (Called call) p r q e = absurd q
quiet (Fed piece) p r q e = subst (IsSameLog p) (sym e) (same_piece p piece)
quiet Took p r q e = absurd q
quiet InputEnded p r q e = subst (IsSameLog p) (sym e) (refl, refl)
quiet (HandedOut octets) p r q e = subst (IsSameLog p) (sym e) (refl, refl)
quiet (Stopped reason) p r q e = subst (IsSameLog p) (sym e) (refl, refl)

pub known_still : (e : Errand) (d : DriverState) (p r : Transcript) → IsSameLog p r → IsDriver e p.settings p.log d
    → IsDriver e r.settings r.log d
known_still e d p r same k = subst (λ z. IsDriver e z r.log d) (sym same.0)
    (subst (λ z. IsDriver e p.settings z d) (sym same.1) k)

pub quiet_after : (questions : List Question) (s : MetaSettings) (partial : List ℕ) (h : History) (old new : MetaLinks)
    (c : ℕ) (event : Event)
    → IsQuiet event → MetaAfterPartial questions s partial h old → AfterPartial (settings_of s) partial ((c, event) ∷ h) new.pool
    → new.drivers ≡ old.drivers → length new.pool.connections ≡ length old.pool.connections
    → MetaAfterPartial questions s partial ((c, event) ∷ h) new
quiet_after questions s partial h old new c event is a pool drivers size = record {
  fit = a.fit;
  askable = a.askable;
  pool = pool;
  driven = subst (AreDriven questions s ((c, event) ∷ h)) (sym drivers)
      (driven_more questions s h old.drivers old.drivers c event a.driven refl (λ i f. refl)
      (λ q d p r asked drives transcript is_step. known_still (errand_of s q) d p r (quiet event p r is is_step)
      (a.driven.each c q d p asked drives transcript)));
  size = size ∙ a.size;
}

-- ---- a Take

-- what the origin took
pub took_log : (p : Transcript) (input : Input) (taken : Taken) → Ok (outcome.Took taken) ≡ outcome_of p input
    → (v : Apdu) × (verdict (standing (past_of p)) v ≡ Ok taken) × ((after_take p input).log ≡ Got v ∷ p.log)
    × ((after_take p input).settings ≡ p.settings)
took_log p AlreadyStopped taken e = absurd (cc)
took_log p (Message v) taken e = let t = by (verdict (standing (past_of p)) v) e in (v, t.0, t.1, t.2)
  where
    q : Transcript
    q = record p { taken = suc p.taken; log = Got v ∷ p.log }

    by : (w : Result Taken Refused) → Ok (outcome.Took taken) ≡ outcome_of_reply w
        → (w ≡ Ok taken) × ((after_reply q w).log ≡ Got v ∷ p.log) × ((after_reply q w).settings ≡ p.settings)
    by (Ok x) f = (let same : x ≡ taken = cc in ap (λ z. Ok z) same, refl, refl)
    by (Err reason) f = absurd (cc)
took_log p (Foreign error) taken e = absurd (cc)
took_log p (Fault kind at) taken e = absurd (cc)
took_log p (Rest n) taken e = absurd (by p.ended e)
  where
    by : (b : Bool) → Ok (outcome.Took taken) ≡ cond b (Err (errors.Frame kinds.Truncated n)) (Ok outcome.Nothing) → ⊥
    by true f = cc
    by false f = cc
took_log p Nothing taken e = absurd (by p.ended e)
  where
    by : (b : Bool) → ◌≡◌ {A = Result Outcome TakeError} (Ok (outcome.Took taken)) (Ok (cond b outcome.Ended outcome.Nothing)) → ⊥
    by true f = cc
    by false f = cc

pub knows_taken : (taken : Taken) (old new : DriverState) → NoteReplyStep taken old new → DriverTakeStep (Ok (outcome.Took taken)) old new
knows_taken taken old new k = λ e p input is answer.
    let t = took_log p input taken answer in
    subst (λ z. IsDriver e z (after_take p input).log new) (sym t.3)
    (subst (λ z. IsDriver e p.settings z new) (sym t.2) (k e p.settings p.log t.0 is t.1))

abbrev IsOther : Result Outcome TakeError → Type 0
IsOther answer = (taken : Taken) → answer ≡ Ok (outcome.Took taken) → ⊥

-- nothing was taken, or the origin refused the reply
pub knows_other : RefusedLaw → (answer : Result Outcome TakeError) (d : DriverState) → IsOther answer → DriverTakeStep answer d d
knows_other law answer d other e p AlreadyStopped is t = is
knows_other law answer d other e p (Message v) is t = by (verdict (standing (past_of p)) v) refl t
  where
    q : Transcript
    q = record p { taken = suc p.taken; log = Got v ∷ p.log }

    by : (w : Result Taken Refused) → verdict (standing (past_of p)) v ≡ w → answer ≡ outcome_of_reply w
        → IsDriver e (after_reply q w).settings (after_reply q w).log d
    by (Ok x) w f = absurd (other x f)
    by (Err reason) w f = law e p.settings p.log d v reason is w
knows_other law answer d other e p (Foreign error) is t = is
knows_other law answer d other e p (Fault kind at) is t = is
knows_other law answer d other e p (Rest n) is t = elim p.ended as
    (λ b. IsDriver e (cond b (after_stop p (truncated n)) p).settings (cond b (after_stop p (truncated n)) p).log d)
    [ true ↦ is | false ↦ is ]
knows_other law answer d other e p Nothing is t = elim p.ended as
    (λ b. IsDriver e (cond b (end_by p) p).settings (cond b (end_by p) p).log d) [ true ↦ is | false ↦ is ]

-- the driver notes the outcome
pub learns : RefusedLaw → (x : Outcome) (old new : DriverState) → NoteTakeStep x old new → DriverTakeStep (Ok x) old new
learns law (outcome.Took taken) old new k = knows_taken taken old new k
learns law outcome.Nothing old new k = subst (DriverTakeStep (Ok outcome.Nothing) old) (sym k)
    (knows_other law (Ok outcome.Nothing) old (λ taken e. absurd (cc)))
learns law outcome.Ended old new k = subst (DriverTakeStep (Ok outcome.Ended) old) (sym k)
    (knows_other law (Ok outcome.Ended) old (λ taken e. absurd (cc)))
learns law outcome.Stopped old new k = subst (DriverTakeStep (Ok outcome.Stopped) old) (sym k)
    (knows_other law (Ok outcome.Stopped) old (λ taken e. absurd (cc)))

pub slice_some : {X : Type 0} (xs : List X) (c : ℕ) → c < length xs → (x : X) × (slice_get xs c ≡ Some x)
slice_some [] c lt = absurd (omega arith)
slice_some (x ∷ xs) zero lt = (x, refl)
slice_some (x ∷ xs) (suc c) lt = slice_some xs c (omega arith)

pub transcript_at : (settings : Settings) (h : History) (transcript : ℕ → Transcript) (cs : List Link) (c : ℕ)
    → AreTranscripts settings h transcript cs → c < length cs → IsTranscript settings (events_on c h) (transcript c)
transcript_at settings h transcript cs c s lt = let k = slice_some cs c lt in (s.each c k.0 k.1).transcript

-- a value of the connection's state is a value of its transcript
pub state_tells : OneTranscript → (value : State → Bool) (c : ℕ) (meta : MetaLinks) (state : State)
    → c < length meta.pool.connections → IsStateAt c meta.pool state
    → IsTranscriptValueUpTo c meta (λ p. value (state_at p)) (value state)
state_tells hearing value c meta state lt is q s partial h p a transcript =
    let now = transcript_at (settings_of s) h a.pool.transcript meta.pool.connections c a.pool.stands lt in
    let same : a.pool.transcript c ≡ p = hearing (settings_of s) (events_on c h) (a.pool.transcript c) p now transcript in
    ap value (is (settings_of s) partial h a.pool ∙ ap state_at same)

-- a Take with this outcome
pub taken_more : OneInput → OneTranscript → (questions : List Question) (s : MetaSettings) (partial : List ℕ) (h : History)
    (old : MetaLinks) (drivers : List DriverState) (c : ℕ) (answer : Result Outcome TakeError)
    → MetaAfterPartial questions s partial h old → IsTakeOutcome c old.pool answer → HasFoundMemory answer
    → c < length old.pool.connections → length drivers ≡ length old.drivers
    → ((i : ℕ) → (c == i) ≡ false → slice_get drivers i ≡ slice_get old.drivers i)
    → ((d : DriverState) → slice_get drivers c ≡ Some d
    → (was : DriverState) × (slice_get old.drivers c ≡ Some was) × DriverTakeStep answer was d)
    → AreDriven questions s ((c, Took) ∷ h) drivers
taken_more meeting hearing questions s partial h old drivers c answer a outcome done lt size same knows =
    driven_more questions s h old.drivers drivers c Took a.driven size same (λ q d p r asked drives transcript is_step.
    let now = transcript_at (settings_of s) h a.pool.transcript old.pool.connections c a.pool.stands lt in
    let is : a.pool.transcript c ≡ p = hearing (settings_of s) (events_on c h) (a.pool.transcript c) p now transcript in
    let t = outcome (settings_of s) partial h a.pool done in
    let input : t.0 ≡ is_step.0 = meeting p t.0 is_step.0 (subst (λ z. NextInput z t.0) is t.1) is_step.1 in
    let answers : answer ≡ outcome_of p is_step.0 = subst (λ z. answer ≡ outcome_of p z) input
    (subst (λ z. answer ≡ outcome_of z t.0) is t.2) in
    let k = knows d drives in
    subst (λ (z : Transcript). IsDriver (errand_of s q) z.settings z.log d) (sym is_step.2)
    (k.2 (errand_of s q) p is_step.0 (a.driven.each c q k.0 p asked k.1 transcript) answers))

pub took_meta : OneInput → OneTranscript → (c : ℕ) (old new : MetaLinks) (was x : DriverState) (answer : Result Outcome TakeError)
    → IsTakeOutcome c old.pool answer → HasFoundMemory answer → TakeStep c old.pool new.pool
    → c < length old.pool.connections → slice_get old.drivers c ≡ Some was
    → DriverTakeStep answer was x → new.drivers ≡ slice_set old.drivers c x
    → length new.pool.connections ≡ length old.pool.connections → MetaTakeStep c old new
took_meta meeting hearing c old new was x answer outcome done took lt at knows ds size =
    λ questions s partial h a. record {
      fit = a.fit;
      askable = a.askable;
      pool = took (settings_of s) partial h a.pool;
      driven = subst (AreDriven questions s ((c, Took) ∷ h)) (sym ds)
          (taken_more meeting hearing questions s partial h old (slice_set old.drivers c x) c answer a outcome done lt
          (length-set old.drivers c x) (λ i f. get_other old.drivers c i x f) (λ d is. (
            was,
            at,
            subst (DriverTakeStep answer was)
                (same_Some x d (sym (get_same old.drivers c x (slice_get_within old.drivers c was at)) ∙ is)) knows,
          )));
      size = size ∙ a.size;
    }

-- a Take whose reply the origin refused
pub refused_meta : OneInput → OneTranscript → RefusedLaw → (c : ℕ) (old new : MetaLinks) (error : TakeError)
    → IsTakeOutcome c old.pool (Err error) → HasFoundMemory {A = Outcome} (Err error) → TakeStep c old.pool new.pool
    → c < length old.pool.connections → new.drivers ≡ old.drivers
    → length new.pool.connections ≡ length old.pool.connections → MetaTakeStep c old new
refused_meta meeting hearing law c old new error outcome done took lt ds size =
    λ questions s partial h a. record {
      fit = a.fit;
      askable = a.askable;
      pool = took (settings_of s) partial h a.pool;
      driven = subst (AreDriven questions s ((c, Took) ∷ h)) (sym ds)
          (taken_more meeting hearing questions s partial h old old.drivers c (Err error) a outcome done lt refl (λ i f. refl)
          (λ d is. (d, is, knows_other law (Err error) d (λ taken e. absurd (cc)))));
      size = size ∙ a.size;
    }

-- ---- before any event

pub askable_at : (xs : List Question) (q : Question) (ys : List Question) → AreAskable (xs ++ q ∷ ys) → IsAskable q
askable_at [] q ys a = a.0
askable_at (x ∷ xs) q ys a = askable_at xs q ys a.1

pub stand_push : (qs : List Question) (step window : ℕ) (ds : List DriverState) (q : Question) (d : DriverState)
    → AreNewDrivers qs step window ds
    → ((settings : Settings) → length settings.name ≤ 2000000 → IsDriver (errand_with q step window) settings [] d)
    → AreNewDrivers (qs ++ q ∷ []) step window (ds ++ d ∷ [])
stand_push [] step window [] q d s k = (k, tt)
stand_push [] step window (x ∷ ds) q d s k = absurd s
stand_push (x ∷ qs) step window [] q d s k = absurd s
stand_push (x ∷ qs) step window (y ∷ ds) q d s k = (s.0, stand_push qs step window ds q d s.1 k)

pub stand_size : (qs : List Question) (step window : ℕ) (ds : List DriverState) → AreNewDrivers qs step window ds
    → length ds ≡ length qs
stand_size [] step window [] s = refl
stand_size [] step window (x ∷ ds) s = absurd s
stand_size (x ∷ qs) step window [] s = absurd s
stand_size (x ∷ qs) step window (y ∷ ds) s = let n = stand_size qs step window ds s.1 in ap (λ m. suc m) n

stand_at : (qs : List Question) (step window : ℕ) (ds : List DriverState) (c : ℕ) (q : Question) (d : DriverState)
    → AreNewDrivers qs step window ds → slice_get qs c ≡ Some q → slice_get ds c ≡ Some d → (settings : Settings)
    → length settings.name ≤ 2000000 → IsDriver (errand_with q step window) settings [] d
stand_at [] step window ds c q d s a e settings name = absurd (cc)
stand_at (x ∷ qs) step window [] c q d s a e settings name = absurd s
stand_at (x ∷ qs) step window (y ∷ ds) zero q d s a e settings name =
    let f : x ≡ q = cc in
    let g : y ≡ d = cc in
    subst (λ z. IsDriver (errand_with z step window) settings [] d) f
    (subst (λ z. IsDriver (errand_with x step window) settings [] z) g (s.0 settings name))
stand_at (x ∷ qs) step window (y ∷ ds) (suc c) q d s a e settings name =
    stand_at qs step window ds c q d s.1 a e settings name

pub new_after : (questions : List Question) (s : MetaSettings) (meta : MetaLinks) → AreFit s → AreAskable questions
    → After (settings_of s) [] meta.pool → length meta.pool.connections ≡ length questions
    → AreNewDrivers questions s.step s.window meta.drivers → MetaAfter questions s [] meta
new_after questions s meta fit askable pool size stand = record {
  fit = fit;
  askable = askable;
  pool = pool;
  driven = record {
    size = stand_size questions s.step s.window meta.drivers stand;
    each = λ c q d p asked drives transcript. subst (λ (z : Transcript). IsDriver (errand_of s q) z.settings z.log d) (sym transcript)
        (stand_at questions s.step s.window meta.drivers c q d stand asked drives (settings_of s) fit.name);
  };
  size = size;
}
