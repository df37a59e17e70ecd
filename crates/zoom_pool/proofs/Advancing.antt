-- Calls that are made on a connection that is driven.
use Rattle.std.proofs.Common.{◌≡◌, ◌≢◌, ℕ, ◌+◌, ◌<◌, ◌≤◌, ◌==◌, Bool, true, false, cond}
use Rattle.std.proofs.Common.{List, [], ◌∷◌, ◌++◌, map, length, slice_get, slice_set, get_or, Option, None, Some}
use Rattle.std.proofs.Common.{Result, Ok, Err, refl, sym, ap, subst, ◌∙◌, arith, true≢false, length-append}
use Rattle.std.specs.Prelude.{is_some}
use Rattle.std.specs.Result.{IsErr}
use Rattle.std.proofs.lemmas.Bool.Decides.{nat_tests}
use Rattle.std.proofs.lemmas.Option.{same_Some, slice_get_within}
use Rattle.std.proofs.Math.ListN.{length-set}
use Rattle.zapdu.specs.declared.apdu.Apdu.{Apdu}
use Rattle.zorigin.specs.declared.settings.Settings.{Settings}
use Rattle.zorigin.specs.declared.refusal.CallRefused.{CallRefused}
use Rattle.zorigin.specs.declared.refusal.CallRefused.TheVariants as calls
use Rattle.zorigin.specs.Standings.{Call, Standing}
use Rattle.zorigin.specs.Calls.{refusal, call_result, call_result_by}
use Rattle.zorigin.specs.Sending.{request_of, sent_of}
use Rattle.zorigin.specs.Laws.{HasRequest}
use Rattle.zorigin.specs.Log.{Log, Made, Past, past, standing, state_of, admit_unless}
use Rattle.zoom_questions.specs.declared.question.Question.{Question}
use Rattle.zoom_questions.specs.declared.question.MetaSettings.{MetaSettings}
use Rattle.zoom_pool.specs.declared.state.State.{State}
use Rattle.zoom_pool.specs.declared.call.Call.{Call as RustCall}
use Rattle.zoom_pool.specs.CallsOf.{call_of}
use Rattle.zoom_pool.specs.States.{state_as, or_else, is_stopped}
use Rattle.zoom_pool.specs.Transcripts.{Transcript, IsTranscript, Event, Called, after_call, connection_call_result, dropped, past_of, state_at}
use Rattle.zoom_pool.specs.Links.{Link, Links}
use Rattle.zoom_pool.specs.History.{History, events_on, AfterPartial}
use Rattle.zoom_pool.specs.PoolSteps.{Recorded, IsStateAt, IsCallResult, IsPoolFinished}
use Rattle.zoom_pool.specs.Laws.{OneTranscript}
use Rattle.zoom_pool.specs.Steering.{Errand, errand_of}
use Rattle.zoom_pool.specs.Drivers.{DriverState, IsDriver, SameDriver, IsOffer, IsIdleLog, NextCallResult, NoteSentStep, NoteRefusedStep}
use Rattle.zoom_pool.specs.Metas.{MetaLinks, settings_of, AreDriven, MetaAfterPartial, call_events, Progress, CompleteDrive}
use Rattle.zoom_pool.specs.Metas.{left_of, left_at, IsGivenCall, AdvanceResultAt, AdvanceResult, IssueResult, DriveResult}
use Rattle.zoom_pool.specs.Metas.{IsTranscriptValue, IsTranscriptValueUpTo, is_skipped, is_complete, IsFinished, IsFinishedUpTo}
use Rattle.zoom_pool.specs.declared.meta.Advance.{Advance}
use Rattle.zoom_pool.specs.declared.meta.Advance.TheVariants as stages
use Rattle.zoom_pool.proofs.Pools.{only_same, got, get_same, get_other}
use Rattle.zoom_pool.proofs.Stops.{goes}
use Rattle.zoom_pool.proofs.Metas.{driven_more, transcript_at, slice_some}

-- ---- calls as events

pub only_made : (c : ℕ) (cs : List Call) (h : History) → events_on c (call_events c cs ++ h) ≡ map (λ call. Called call) cs ++ events_on c h
only_made c [] h = refl
only_made c (x ∷ cs) h = only_same c (Called x) (call_events c cs ++ h) ∙ ap (λ l. Called x ∷ l) (only_made c cs h)

made_more : (c : ℕ) (ds cs : List Call) (h : History) → call_events c (ds ++ cs) ++ h ≡ call_events c ds ++ (call_events c cs ++ h)
made_more c [] cs h = refl
made_more c (d ∷ ds) cs h = ap (λ l. (c, Called d) ∷ l) (made_more c ds cs h)

pub transcript_before : (settings : Settings) (xs ys : List Event) (q : Transcript) → IsTranscript settings (xs ++ ys) q
    → (r : Transcript) × IsTranscript settings ys r
transcript_before settings [] ys q e = (q, e)
transcript_before settings (x ∷ xs) ys q e = transcript_before settings xs ys e.0 e.1

-- ---- progress

pub progress_none : OneTranscript → (questions : List Question) (s : MetaSettings) (partial : List ℕ) (c : ℕ) (h : History) (new : MetaLinks)
    → MetaAfterPartial questions s partial h new → Progress questions s partial c h 0 new
progress_none hearing questions s partial c h new a = record {
  calls = [];
  after = a;
  count = λ p q x y.
      let is = hearing (settings_of s) (events_on c h) p q x y in
      let n : length (past_of q).admitted ≡ length (past_of p).admitted = ap (λ (z : Transcript). length (past_of z).admitted) (sym is) in
      let m : length (past_of q).admitted ≡ length (past_of p).admitted + 0 = omega (arith, n) in m;
}

-- as many calls as the origin admitted
abbrev pub so_many : Option CallRefused → ℕ
so_many None = 1
so_many (Some reason) = 0

admitted_more : (p : Past) (call : Call) (r : Option CallRefused)
    → length (admit_unless p call r).admitted ≡ length p.admitted + so_many r
admitted_more p call None = length-append p.admitted (call ∷ [])
admitted_more p call (Some reason) = let e : length p.admitted ≡ length p.admitted + 0 = omega arith in e

pub transcript_of_call : (p : Transcript) (call : Call) → p.stop ≡ None → after_call p call ≡ record p { log = Made call ∷ p.log }
transcript_of_call p call none = ap (λ o. cond (is_some o) p (record p { log = Made call ∷ p.log })) none

pub progress_one : OneTranscript → (questions : List Question) (s : MetaSettings) (partial : List ℕ) (c : ℕ) (h : History) (new : MetaLinks)
    (call : Call) (r : Option CallRefused) → MetaAfterPartial questions s partial ((c, Called call) ∷ h) new
    → ((p : Transcript) → IsTranscript (settings_of s) (events_on c h) p
    → (p.stop ≡ None) × (refusal (standing (past_of p)) call ≡ r))
    → Progress questions s partial c h (so_many r) new
progress_one hearing questions s partial c h new call r a so = record {
  calls = call ∷ [];
  after = a;
  count = λ p q x y.
      let z = subst (λ l. IsTranscript (settings_of s) l q) (only_same c (Called call) h) y in
      let is : z.0 ≡ p = hearing (settings_of s) (events_on c h) z.0 p z.1 x in
      let q_is : q ≡ record p { log = Made call ∷ p.log } = z.2 ∙ ap (λ t. after_call t call) is
      ∙ transcript_of_call p call (so p x).0 in
      ap (λ (t : Transcript). length (past_of t).admitted) q_is
      ∙ ap (λ o. length (admit_unless (past_of p) call o).admitted) (so p x).1
      ∙ admitted_more (past_of p) call r;
}

pub progress_join : (questions : List Question) (s : MetaSettings) (partial : List ℕ) (c : ℕ) (h : History) (n m : ℕ) (mid new : MetaLinks)
    → (x : Progress questions s partial c h n mid) → Progress questions s partial c (call_events c x.calls ++ h) m new
    → Progress questions s partial c h (n + m) new
progress_join questions s partial c h n m mid new x y = record {
  calls = y.calls ++ x.calls;
  after = subst (λ l. MetaAfterPartial questions s partial l new) (sym (made_more c y.calls x.calls h)) y.after;
  count = λ p q a b.
      let b' = subst (λ l. IsTranscript (settings_of s) (events_on c l) q) (made_more c y.calls x.calls h) b in
      let mid = transcript_before (settings_of s) (map (λ call. Called call) y.calls) (events_on c (call_events c x.calls ++ h)) q
      (subst (λ l. IsTranscript (settings_of s) l q) (only_made c y.calls (call_events c x.calls ++ h)) b') in
      let first = x.count p mid.0 a mid.1 in
      let second = y.count mid.0 q mid.1 b' in
      let e : length (past_of q).admitted ≡ length (past_of p).admitted + (n + m) = omega (arith, first, second) in e;
}

pub drives_join : (questions : List Question) (s : MetaSettings) (partial : List ℕ) (c : ℕ) (h : History) (n m : ℕ) (mid new : MetaLinks)
    → (x : Progress questions s partial c h n mid) → CompleteDrive questions s partial c (call_events c x.calls ++ h) m new
    → CompleteDrive questions s partial c h (n + m) new
unfolding progress_join
drives_join questions s partial c h n m mid new x y = record {
  progress = progress_join questions s partial c h n m mid new x y.progress;
  rests = λ question q asked transcript. y.rests question q asked
      (subst (λ l. IsTranscript (settings_of s) (events_on c l) q) (made_more c y.progress.calls x.calls h) transcript);
  tried = λ q transcript. y.tried q
      (subst (λ l. IsTranscript (settings_of s) (events_on c l) q) (made_more c y.progress.calls x.calls h) transcript);
}

-- ---- the result of a call

ok_call : (p : Transcript) (call : Call) → p.stop ≡ None → Ok tt ≡ connection_call_result p call → refusal (standing (past_of p)) call ≡ None
ok_call p call none e = by (refusal (standing (past_of p)) call) (request_of (standing (past_of p)) call)
    (e ∙ ap (λ o. cond (is_some o) (Err calls.WrongState) (dropped (call_result (standing (past_of p)) call))) none)
  where
    by : (r : Option CallRefused) (o : Option Apdu) → Ok tt ≡ dropped (call_result_by r o) → r ≡ None
    by None o f = refl
    by (Some reason) o f = absurd (cc)

err_call : ((s : Standing) (call : Call) → refusal s call ≡ None → HasRequest s call) → (p : Transcript) (call : Call)
    (reason : CallRefused) → p.stop ≡ None → Err reason ≡ connection_call_result p call
    → refusal (standing (past_of p)) call ≡ Some reason
err_call law p call reason none e = by (refusal (standing (past_of p)) call) refl
    (e ∙ ap (λ o. cond (is_some o) (Err calls.WrongState) (dropped (call_result (standing (past_of p)) call))) none)
  where
    by : (r : Option CallRefused) → refusal (standing (past_of p)) call ≡ r
        → Err reason ≡ dropped (call_result (standing (past_of p)) call) → refusal (standing (past_of p)) call ≡ Some reason
    by None is f =
        let g : Err reason ≡ dropped (Ok (sent_of (law (standing (past_of p)) call is).request)) =
        f ∙ ap dropped (law (standing (past_of p)) call is).returned in
        absurd (cc)
    by (Some other) is f =
        let g : Err reason ≡ dropped (call_result_by (Some other) (request_of (standing (past_of p)) call)) =
        f ∙ ap (λ z. dropped (call_result_by z (request_of (standing (past_of p)) call))) is in
        let same : reason ≡ other = cc in
        is ∙ ap (λ z. Some z) (sym same)

-- ---- a call that was made

-- the driver of connection `c` after the call
set_is : (ds : List DriverState) (c : ℕ) (was x d : DriverState) → slice_get ds c ≡ Some was
    → slice_get (slice_set ds c x) c ≡ Some d → x ≡ d
set_is ds c was x d at e = same_Some x d (sym (get_same ds c x (slice_get_within ds c was at)) ∙ e)

pub call_after : (questions : List Question) (s : MetaSettings) (partial : List ℕ) (h : History) (old new : MetaLinks) (c : ℕ) (call : Call)
    (r : Option CallRefused) (was x : DriverState) → MetaAfterPartial questions s partial h old → IsGivenCall questions s c h call old
    → ((p : Transcript) → IsTranscript (settings_of s) (events_on c h) p → p.stop ≡ None
    → refusal (standing (past_of p)) call ≡ r)
    → Recorded c (Called call) old.pool new.pool → slice_get old.drivers c ≡ Some was
    → ((e : Errand) (settings : Settings) (log : Log) → IsOffer e settings log was call
    → refusal (standing (past settings log)) call ≡ r → IsDriver e settings (Made call ∷ log) x)
    → new.drivers ≡ slice_set old.drivers c x → length new.pool.connections ≡ length old.pool.connections
    → MetaAfterPartial questions s partial ((c, Called call) ∷ h) new
call_after questions s partial h old new c call r was x a gave so recorded at knows ds size = record {
  fit = a.fit;
  askable = a.askable;
  pool = recorded (settings_of s) partial h a.pool;
  driven = subst (AreDriven questions s ((c, Called call) ∷ h)) (sym ds)
      (driven_more questions s h old.drivers (slice_set old.drivers c x) c (Called call) a.driven
      (length-set old.drivers c x) (λ i f. get_other old.drivers c i x f) (λ q d p t asked drives transcript is_step.
      let g = gave q was p asked at transcript in
      let is : record p { log = Made call ∷ p.log } ≡ t = sym (transcript_of_call p call g.0) ∙ sym is_step in
      subst (λ z. IsDriver (errand_of s q) t.settings t.log z) (set_is old.drivers c was x d at drives)
      (subst (λ (z : Transcript). IsDriver (errand_of s q) z.settings z.log x) is
      (knows (errand_of s q) p.settings p.log g.1 (so p transcript g.0)))));
  size = size ∙ a.size;
}

-- the driver of a connection, by index
pub driver_at : (ds : List DriverState) (cs : List Link) (c : ℕ) (d was : DriverState) → length ds ≡ length cs
    → c < length cs → was ≡ get_or ds c d → slice_get ds c ≡ Some was
driver_at ds cs c d was n lt e = got ds c d was (let le : c < length ds = omega (arith, n, lt) in le) e

-- how many calls are left
left_then : (ds es : List DriverState) (c : ℕ) (was x : DriverState) → slice_get ds c ≡ Some was
    → es ≡ slice_set ds c x → x.left < was.left → left_of (slice_get es c) < left_of (slice_get ds c)
left_then ds es c was x at e lt =
    let new : left_of (slice_get es c) ≡ x.left = ap (λ z. left_of (slice_get z c)) e
    ∙ ap left_of (get_same ds c x (slice_get_within ds c was at)) in
    let old : left_of (slice_get ds c) ≡ was.left = ap left_of at in
    omega (arith, new, old, lt)

-- the question of a connection
question_at : (questions : List Question) (s : MetaSettings) (partial : List ℕ) (h : History) (meta : MetaLinks) (c : ℕ)
    → MetaAfterPartial questions s partial h meta → c < length meta.pool.connections → (q : Question) × (slice_get questions c ≡ Some q)
question_at questions s partial h meta c a lt = let n = a.size in
    slice_some questions c (let le : c < length questions = omega (arith, lt, n) in le)

transcript_now : (questions : List Question) (s : MetaSettings) (partial : List ℕ) (h : History) (meta : MetaLinks) (c : ℕ)
    → (a : MetaAfterPartial questions s partial h meta) → c < length meta.pool.connections
    → IsTranscript (settings_of s) (events_on c h) (a.pool.transcript c)
transcript_now questions s partial h meta c a lt = transcript_at (settings_of s) h a.pool.transcript meta.pool.connections c a.pool.stands lt

pub admitted_to : (E : Type 0) → OneTranscript → (c : ℕ) (call : Call) (old new : MetaLinks) (was x : DriverState)
    → c < length old.pool.connections → Recorded c (Called call) old.pool new.pool
    → IsCallResult c call old.pool (Ok tt) → slice_get old.drivers c ≡ Some was → NoteSentStep call was x
    → new.drivers ≡ slice_set old.drivers c x → length new.pool.connections ≡ length old.pool.connections
    → IssueResult {E = E} c call (Ok stages.Admitted) old new
admitted_to E hearing c call old new was x lt recorded answer at knows ds size questions s partial h a gave = (
  progress_one hearing questions s partial c h new call None
      (call_after questions s partial h old new c call None was x a gave none recorded at
      (λ e settings log o n. (knows e settings log o n).0) ds size) (λ p transcript. (stop p transcript, none p transcript (stop p transcript))),
  left_then old.drivers new.drivers c was x at ds less,
)
  where
    question : (q : Question) × (slice_get questions c ≡ Some q)
    question = question_at questions s partial h old c a lt

    now : IsTranscript (settings_of s) (events_on c h) (a.pool.transcript c)
    now = transcript_now questions s partial h old c a lt

    stop : (p : Transcript) → IsTranscript (settings_of s) (events_on c h) p → p.stop ≡ None
    stop p transcript = (gave question.0 was p question.1 at transcript).0

    none : (p : Transcript) → IsTranscript (settings_of s) (events_on c h) p → p.stop ≡ None → refusal (standing (past_of p)) call ≡ None
    none p transcript n = ok_call p call n (subst (λ z. Ok tt ≡ connection_call_result z call)
        (hearing (settings_of s) (events_on c h) (a.pool.transcript c) p now transcript) (answer (settings_of s) partial h a.pool tt))

    less : x.left < was.left
    less =
        let p = a.pool.transcript c in
        (knows (errand_of s question.0) p.settings p.log (gave question.0 was p question.1 at now).1
        (none p now (stop p now))).1

pub refused_to : (E : Type 0) → OneTranscript → ((s : Standing) (call : Call) → refusal s call ≡ None → HasRequest s call)
    → (c : ℕ) (call : Call) (reason : CallRefused) (old new : MetaLinks) (was x : DriverState)
    → reason ≢ calls.Memory
    → c < length old.pool.connections → Recorded c (Called call) old.pool new.pool
    → IsCallResult c call old.pool (Err reason) → slice_get old.drivers c ≡ Some was → NoteRefusedStep was x
    → new.drivers ≡ slice_set old.drivers c x → length new.pool.connections ≡ length old.pool.connections
    → IssueResult {E = E} c call (Ok stages.Skipped) old new
refused_to E hearing law c call reason old new was x other lt recorded answer at knows ds size questions s partial h a gave = (
  progress_one hearing questions s partial c h new call (Some reason)
      (call_after questions s partial h old new c call (Some reason) was x a gave none recorded at
      (λ e settings log o n. (knows e settings log call reason o n).0) ds size)
      (λ p transcript. (stop p transcript, none p transcript (stop p transcript))),
  left_then old.drivers new.drivers c was x at ds (let p = a.pool.transcript c in
      (knows (errand_of s question.0) p.settings p.log call reason (offers question.0 p question.1 now)
      (none p now (stop p now))).1),
)
  where
    question : (q : Question) × (slice_get questions c ≡ Some q)
    question = question_at questions s partial h old c a lt

    now : IsTranscript (settings_of s) (events_on c h) (a.pool.transcript c)
    now = transcript_now questions s partial h old c a lt

    stop : (p : Transcript) → IsTranscript (settings_of s) (events_on c h) p → p.stop ≡ None
    stop p transcript = (gave question.0 was p question.1 at transcript).0

    none : (p : Transcript) → IsTranscript (settings_of s) (events_on c h) p → p.stop ≡ None
        → refusal (standing (past_of p)) call ≡ Some reason
    none p transcript n = err_call law p call reason n (subst (λ z. Err reason ≡ connection_call_result z call)
        (hearing (settings_of s) (events_on c h) (a.pool.transcript c) p now transcript) (answer (settings_of s) partial h a.pool other))

    offers : (q : Question) (p : Transcript) → slice_get questions c ≡ Some q → IsTranscript (settings_of s) (events_on c h) p
        → IsOffer (errand_of s q) p.settings p.log was call
    offers q p asked transcript = (gave q was p asked at transcript).1

-- no memory was found: nothing changed
pub kept_to : (E : Type 0) → OneTranscript → (c : ℕ) (call : Call) (old new : MetaLinks) (error : E) → new ≡ old
    → IssueResult c call (Err error) old new
kept_to E hearing c call old new error same questions s partial h a gave =
    progress_none hearing questions s partial c h new (subst (MetaAfterPartial questions s partial h) (sym same) a)

-- ---- looking for the next call

pub stays_after : (questions : List Question) (s : MetaSettings) (partial : List ℕ) (h : History) (old new : MetaLinks) (c : ℕ)
    (was x : DriverState) → MetaAfterPartial questions s partial h old → new.pool ≡ old.pool → slice_get old.drivers c ≡ Some was
    → new.drivers ≡ slice_set old.drivers c x → SameDriver was x → MetaAfterPartial questions s partial h new
stays_after questions s partial h old new c was x a pool at ds stays = record {
  fit = a.fit;
  askable = a.askable;
  pool = subst (AfterPartial (settings_of s) partial h) (sym pool) a.pool;
  driven = subst (AreDriven questions s h) (sym ds) (record {
    size = length-set old.drivers c x ∙ a.driven.size;
    each = λ i q d p asked drives transcript. by i q d p asked drives transcript (c == i) refl;
  });
  size = ap (λ (z : Links). length z.connections) pool ∙ a.size;
}
  where
    at_c : (q : Question) (d : DriverState) (p : Transcript) → slice_get questions c ≡ Some q
        → slice_get (slice_set old.drivers c x) c ≡ Some d → IsTranscript (settings_of s) (events_on c h) p
        → IsDriver (errand_of s q) p.settings p.log d
    at_c q d p asked drives transcript = subst (IsDriver (errand_of s q) p.settings p.log)
        (set_is old.drivers c was x d at drives)
        (stays.0 (errand_of s q) p.settings p.log (a.driven.each c q was p asked at transcript))

    by : (i : ℕ) (q : Question) (d : DriverState) (p : Transcript) → slice_get questions i ≡ Some q
        → slice_get (slice_set old.drivers c x) i ≡ Some d → IsTranscript (settings_of s) (events_on i h) p → (b : Bool)
        → (c == i) ≡ b → IsDriver (errand_of s q) p.settings p.log d
    by i q d p asked drives transcript true t =
        let is : c ≡ i = grind (arith, nat_tests) in
        subst (λ n. slice_get questions n ≡ Some q → slice_get (slice_set old.drivers c x) n ≡ Some d
        → IsTranscript (settings_of s) (events_on n h) p → IsDriver (errand_of s q) p.settings p.log d) is
        (at_c q d p) asked drives transcript
    by i q d p asked drives transcript false f = a.driven.each i q d p asked
        (sym (get_other old.drivers c i x f) ∙ drives) transcript

-- the state of the connection
pub state_is : OneTranscript → (questions : List Question) (s : MetaSettings) (partial : List ℕ) (h : History) (meta : MetaLinks) (c : ℕ)
    (state : State) → MetaAfterPartial questions s partial h meta → c < length meta.pool.connections → IsStateAt c meta.pool state
    → (p : Transcript) → IsTranscript (settings_of s) (events_on c h) p → state ≡ state_at p
state_is hearing questions s partial h meta c state a lt is p transcript =
    is (settings_of s) partial h a.pool
    ∙ ap state_at (hearing (settings_of s) (events_on c h) (a.pool.transcript c) p (transcript_now questions s partial h meta c a lt) transcript)

origin_state : (settings : Settings) (events : List Event) (p : Transcript) → IsTranscript settings events p
    → is_stopped (state_at p) ≡ false → state_at p ≡ state_as (state_of (past_of p))
origin_state settings events p transcript f = ap (or_else (state_as (state_of (past_of p)))) (goes settings events p transcript f)

-- a connection that is stopped
pub stopped_to : (E : Type 0) → OneTranscript → (c : ℕ) (old : MetaLinks) (state : State) → c < length old.pool.connections
    → IsStateAt c old.pool state → is_stopped state ≡ true → AdvanceResult {E = E} c (Ok stages.Idle) old old
unfolding progress_none
stopped_to E hearing c old state lt is stopped questions s partial h a = record {
  progress = progress_none hearing questions s partial c h old a;
  rests = λ q p asked transcript. λ f.
      let e = state_is hearing questions s partial h old c state a lt is p transcript in
      absurd (true≢false (sym stopped ∙ ap is_stopped e ∙ f));
  tried = λ p transcript. λ f o.
      let e = state_is hearing questions s partial h old c state a lt is p transcript in
      absurd (true≢false (sym stopped ∙ ap is_stopped e ∙ f));
}

-- the driver gave no call
pub idle_to : (E : Type 0) → OneTranscript → (c : ℕ) (old new : MetaLinks) (state : State) (was x : DriverState)
    → c < length old.pool.connections → IsStateAt c old.pool state → new.pool ≡ old.pool
    → slice_get old.drivers c ≡ Some was → new.drivers ≡ slice_set old.drivers c x → SameDriver was x
    → NextCallResult state None x → AdvanceResult {E = E} c (Ok stages.Idle) old new
unfolding progress_none
idle_to E hearing c old new state was x lt is pool at ds stays gives questions s partial h a =
    let b = stays_after questions s partial h old new c was x a pool at ds stays in
    let drives : slice_get new.drivers c ≡ Some x = ap (λ z. slice_get z c) ds
    ∙ get_same old.drivers c x (slice_get_within old.drivers c was at) in
    let here = question_at questions s partial h old c a lt in
    let rests : (q : Question) (p : Transcript) → slice_get questions c ≡ Some q → IsTranscript (settings_of s) (events_on c h) p
    → is_stopped (state_at p) ≡ false → IsIdleLog (errand_of s q) p.settings p.log = λ q p asked transcript f.
    gives (errand_of s q) p.settings p.log (b.driven.each c q x p asked drives transcript)
    (state_is hearing questions s partial h old c state a lt is p transcript
    ∙ origin_state (settings_of s) (events_on c h) p transcript f) in
    record {
      progress = progress_none hearing questions s partial c h new b;
      rests = λ q p asked transcript. λ f call next. (rests q p asked transcript f).none call next;
      tried = λ p transcript. λ f o. (rests here.0 p here.1 transcript f).tried
          (sym (ap is_stopped (origin_state (settings_of s) (events_on c h) p transcript f)) ∙ f) o;
    }

-- no memory was found
pub wanting_to : (E : Type 0) → OneTranscript → (c : ℕ) (old new : MetaLinks) (error : E) (was x : DriverState)
    → new.pool ≡ old.pool → slice_get old.drivers c ≡ Some was → new.drivers ≡ slice_set old.drivers c x → SameDriver was x
    → AdvanceResult c (Err error) old new
wanting_to E hearing c old new error was x pool at ds stays questions s partial h a =
    progress_none hearing questions s partial c h new (stays_after questions s partial h old new c was x a pool at ds stays)

advances_from : (E : Type 0) → (questions : List Question) (s : MetaSettings) (partial : List ℕ) (c : ℕ) (h : History) (answer : Result Advance E)
    (old mid new : MetaLinks) → left_at mid c ≡ left_at old c → AdvanceResultAt questions s partial c h answer mid new
    → AdvanceResultAt questions s partial c h answer old new
advances_from E questions s partial c h (Ok stages.Admitted) old mid new e p = (p.0, subst (λ n. left_at new c < n) e p.1)
advances_from E questions s partial c h (Ok stages.Skipped) old mid new e p = (p.0, subst (λ n. left_at new c < n) e p.1)
advances_from E questions s partial c h (Ok stages.Idle) old mid new e p = p
advances_from E questions s partial c h (Err error) old mid new e p = p

-- the driver gave a call, and it was made
pub issued_to : (E : Type 0) → OneTranscript → (c : ℕ) (old mid new : MetaLinks) (state : State) (was x : DriverState) (call : RustCall)
    (answer : Result Advance E) → c < length old.pool.connections → IsStateAt c old.pool state
    → is_stopped state ≡ false → mid.pool ≡ old.pool → slice_get old.drivers c ≡ Some was
    → mid.drivers ≡ slice_set old.drivers c x → SameDriver was x → NextCallResult state (Some call) x
    → IssueResult c (call_of call) answer mid new → AdvanceResult c answer old new
issued_to E hearing c old mid new state was x call answer lt is going pool at ds stays gives issues questions s partial h a =
    let b = stays_after questions s partial h old mid c was x a pool at ds stays in
    let drives : slice_get mid.drivers c ≡ Some x = ap (λ z. slice_get z c) ds
    ∙ get_same old.drivers c x (slice_get_within old.drivers c was at) in
    let left : left_at mid c ≡ left_at old c = ap left_of drives ∙ stays.1 ∙ sym (ap left_of at) in
    advances_from E questions s partial c h answer old mid new left (issues questions s partial h b (λ q d p asked same transcript.
    let e = state_is hearing questions s partial h old c state a lt is p transcript in
    let f : is_stopped (state_at p) ≡ false = sym (ap is_stopped e) ∙ going in
    let d_is : x ≡ d = same_Some x d (sym drives ∙ same) in (
      goes (settings_of s) (events_on c h) p transcript f,
      subst (λ z. IsOffer (errand_of s q) p.settings p.log z (call_of call)) d_is
          (gives (errand_of s q) p.settings p.log (b.driven.each c q x p asked drives transcript)
          (e ∙ origin_state (settings_of s) (events_on c h) p transcript f)),
    )))

-- ---- driving

-- `n` calls were admitted, and at least `k` fewer are left
abbrev pub Drove : ℕ → ℕ → ℕ → MetaLinks → MetaLinks → Type 0
Drove c n k old now =
    (questions : List Question) (s : MetaSettings) (partial : List ℕ) (h : History) → MetaAfterPartial questions s partial h old
    → Progress questions s partial c h n now × (left_at now c + k ≤ left_at old c)

pub drove_admitted : (E : Type 0) → (c n k : ℕ) (old mid new : MetaLinks) → Drove c n k old mid
    → AdvanceResult {E = E} c (Ok stages.Admitted) mid new → Drove c (n + 1) (k + 1) old new
drove_admitted E c n k old mid new d adv questions s partial h a =
    let x = d questions s partial h a in
    let y = adv questions s partial (call_events c x.0.calls ++ h) x.0.after in
    (progress_join questions s partial c h n 1 mid new x.0 y.0, omega (arith, x.1, y.1))

pub drove_skipped : (E : Type 0) → (c n k : ℕ) (old mid new : MetaLinks) → Drove c n k old mid
    → AdvanceResult {E = E} c (Ok stages.Skipped) mid new → Drove c n (k + 1) old new
drove_skipped E c n k old mid new d adv questions s partial h a =
    let x = d questions s partial h a in
    let y = adv questions s partial (call_events c x.0.calls ++ h) x.0.after in
    let e : n + 0 ≡ n = omega arith in (
      subst (λ m. Progress questions s partial c h m new) e (progress_join questions s partial c h n 0 mid new x.0 y.0),
      omega (arith, x.1, y.1),
    )

pub drove_rests : (E : Type 0) → (c n k : ℕ) (old mid new : MetaLinks) → Drove c n k old mid
    → AdvanceResult {E = E} c (Ok stages.Idle) mid new → DriveResult {E = E} c (Ok n) old new
drove_rests E c n k old mid new d adv questions s partial h a =
    let x = d questions s partial h a in
    let y = adv questions s partial (call_events c x.0.calls ++ h) x.0.after in
    let e : n + 0 ≡ n = omega arith in
    subst (λ m. CompleteDrive questions s partial c h m new) e (drives_join questions s partial c h n 0 mid new x.0 y)

few_in : (e : Errand) (settings : Settings) (log : Log) (o : Option DriverState)
    → ((d : DriverState) → o ≡ Some d → IsDriver e settings log d) → left_of o ≤ 3 + e.window
few_in e settings log None each = omega arith
few_in e settings log (Some d) each = (each d refl).few

-- fewer than 68 calls are left at any time
pub drove_all : (E : Type 0) → (c n k : ℕ) (old new : MetaLinks) → Drove c n k old new → c < length old.pool.connections → 68 ≤ k
    → DriveResult {E = E} c (Ok n) old new
drove_all E c n k old new d lt many questions s partial h a =
    let x = d questions s partial h a in
    let q = question_at questions s partial h old c a lt in
    let p = a.pool.transcript c in
    let few = few_in (errand_of s q.0) p.settings p.log (slice_get old.drivers c)
    (λ t is. a.driven.each c q.0 t p q.1 is (transcript_now questions s partial h old c a lt)) in
    let wide = a.fit.widest in
    absurd (omega (arith, x.1, few, wide, many))

-- ---- results about one connection

pub finished_meta : OneTranscript → (meta : MetaLinks) (answer : Bool) → IsPoolFinished meta.pool answer
    → IsFinishedUpTo meta answer
finished_meta hearing meta answer fin questions s partial h a =
    let f = fin (settings_of s) partial h a.pool in
    let now : (c : ℕ) → c < length meta.pool.connections → IsTranscript (settings_of s) (events_on c h) (a.pool.transcript c) =
    λ c lt. transcript_at (settings_of s) h a.pool.transcript meta.pool.connections c a.pool.stands lt in (
      λ t c p lt transcript.
          let in_pool : c < length meta.pool.connections = subst (λ n. c < n) (sym a.size) lt in
          subst (λ z. is_stopped (state_at z) ≡ true)
          (hearing (settings_of s) (events_on c h) (a.pool.transcript c) p (now c in_pool) transcript)
          (f.0 t c in_pool),
      λ all. f.1 (λ c lt. all c (a.pool.transcript c) (subst (λ n. c < n) a.size lt) (now c lt)),
    )

pub skipped_tells : (meta : MetaLinks) (c : ℕ) (d : DriverState) → c < length meta.pool.connections
    → slice_get meta.drivers c ≡ Some d → IsTranscriptValueUpTo c meta is_skipped d.skipped
skipped_tells meta c d lt at questions s partial h p a transcript =
    let q = question_at questions s partial h meta c a lt in
    (a.driven.each c q.0 d p q.1 at transcript).skipped

pub complete_tells : (meta : MetaLinks) (c : ℕ) (d : DriverState) → c < length meta.pool.connections
    → slice_get meta.drivers c ≡ Some d → IsTranscriptValueUpTo c meta is_complete d.complete
complete_tells meta c d lt at questions s partial h p a transcript =
    let q = question_at questions s partial h meta c a lt in
    (a.driven.each c q.0 d p q.1 at transcript).complete

-- ---- if every Take found memory

pub tells_after : (c : ℕ) (meta : MetaLinks) (value : Transcript → Bool) (answer : Bool) → IsTranscriptValueUpTo c meta value answer
    → IsTranscriptValue c meta value answer
tells_after c meta value answer t questions s h p a transcript = t questions s [] h p a transcript

pub finished_after : (meta : MetaLinks) (answer : Bool) → IsFinishedUpTo meta answer → IsFinished meta answer
finished_after meta answer f questions s h a = f questions s [] h a

-- ---- missing memory, as `?` returns it

pub wanting_any : (E F : Type 0) → OneTranscript → (c : ℕ) (old new : MetaLinks) (answer : Result Advance F) → IsErr answer
    → (was x : DriverState) → new.pool ≡ old.pool → slice_get old.drivers c ≡ Some was
    → new.drivers ≡ slice_set old.drivers c x → SameDriver was x → AdvanceResult c answer old new
wanting_any E F hearing c old new (Ok stage) is was x pool at ds stays = absurd (true≢false (sym is))
wanting_any E F hearing c old new (Err error) is was x pool at ds stays =
    wanting_to F hearing c old new error was x pool at ds stays

pub drove_wanting : (E F : Type 0) → (c n k : ℕ) (old mid new : MetaLinks) (error : E) (answer : Result ℕ F) → IsErr answer
    → Drove c n k old mid → AdvanceResult c (Err error) mid new → DriveResult c answer old new
drove_wanting E F c n k old mid new error (Ok m) is d adv questions s partial h a = absurd (true≢false (sym is))
drove_wanting E F c n k old mid new error (Err other) is d adv questions s partial h a =
    let x = d questions s partial h a in
    let y = adv questions s partial (call_events c x.0.calls ++ h) x.0.after in
    (n + 0, progress_join questions s partial c h n 0 mid new x.0 y)
