-- When a tick does something, and what it does.
use Rattle.std.proofs.Common.{◌≡◌, ◌⊎◌, inl, inr, ℕ, ◌+◌, ◌<◌, ◌≤◌, min, max, Bool, true, false, cond, not, ◌||◌, ◌&&◌, nat_le, is_some, [], ◌∷◌, Option, None, Some, refl, sym, ap, ap₂, subst, arith}
use Rattle.zoom_clock.specs.declared.action.Task.TheVariants.{Connect}
use Rattle.zoom_clock.specs.declared.attempts.Attempts.{Attempts}
use Rattle.zoom_clock.specs.declared.attempts.TheConstants.{ATTEMPT_DELAY}
use Rattle.zoom_clock.specs.declared.course.Course.{Course}
use Rattle.zoom_clock.specs.declared.limits.Limits.{Limits}
use Rattle.zoom_clock.specs.declared.signal.Ending.{Ending}
use Rattle.zoom_clock.specs.declared.signal.Ending.TheVariants as endings
use Rattle.zoom_clock.specs.declared.signal.Signal.TheVariants as signals
use Rattle.zoom_clock.specs.declared.stage.Stage.{Stage}
use Rattle.zoom_clock.specs.declared.stage.Stage.TheVariants.{NotChosen, Resolving, Connecting, Talking, Over}
use Rattle.zoom_clock.specs.Times.{never, total_end}
use Rattle.zoom_clock.specs.Attempts.{next_of, next_at, with_begun}
use Rattle.zoom_clock.specs.Stages.{Ruling, ruling, connect_end, talk_end, wake_in, beginning, beginning_next, giving_up, verdict}
use Rattle.zoom_clock.specs.Courses.{Event, event, is_settled, is_idle, wake_of, time_of, wanted_after, ruling_of, step, tasks_of}
use Rattle.zoom_clock.specs.Laws.{HasMoved}
use Rattle.zoom_clock.proofs.Choices.{at_either, or_true, not_true, from_not_true, comes_not, has_come, has_not_come}

-- ---- a course by its parts

abbrev pub course : Limits → ℕ → ℕ → Bool → Stage → Course
course limits start latest wanted stage =
    record { limits = limits; start = start; latest = latest; wanted = wanted; stage = stage }

-- the course once a signal that is not idle was told
abbrev pub moved : Event → Course → Course
moved e p = record p {
  latest = time_of e p;
  wanted = wanted_after e.what p.wanted;
  stage = (ruling_of e p).stage;
}

abbrev pub tick : ℕ → Event
tick now = event now signals.Tick

-- ---- a tick before the time to wake changes nothing

pub idle_before : (p : Course) (now : ℕ) → now < wake_of p → is_idle (tick now) p ≡ true
idle_before p now lt =
    or_true (is_settled p.stage) (not (nat_le (wake_of p) now))
    (not_true (nat_le (wake_of p) now) (has_not_come (wake_of p) now lt))

before_wake : (wake now : ℕ) → not (nat_le wake now) ≡ true → now < wake
before_wake wake now h = comes_not wake now (from_not_true (nat_le wake now) h)

pub step_idle : (e : Event) (p : Course) → is_idle e p ≡ true → step e p ≡ p
step_idle e p h = ap (λ b. cond b p (moved e p)) h

pub tasks_idle : (e : Event) (p : Course) → is_idle e p ≡ true → tasks_of e p ≡ []
tasks_idle e p h = ap (λ b. cond b [] (ruling_of e p).tasks) h

-- ---- a tick from then on ends the connection, or begins an attempt

moving : (p : Course) (now : ℕ) → is_settled p.stage ≡ false → wake_of p ≤ now → is_idle (tick now) p ≡ false
moving p now unsettled le = ap₂ (λ s b. s || (true && not b)) unsettled (has_come (wake_of p) now le)

pub step_moved : (e : Event) (p : Course) → is_idle e p ≡ false → step e p ≡ moved e p
step_moved e p h = ap (λ b. cond b p (moved e p)) h

-- what a ruling does: it ends the connection, or begins an attempt
abbrev pub Moves : Ruling → Type 0
Moves r =
    ((ending : Ending) × (r.stage ≡ Over ending))
    ⊎ ((a : Attempts) × (k : ℕ) × (r.stage ≡ Connecting a) × (r.tasks ≡ Connect k ∷ []))

-- the attempts are given up at one time, and the next is due at another
begins : (now t end : ℕ) (o : Option ℕ) (a : Attempts) → now ≤ t → t < end → now < never
    → min end (cond (is_some o) (a.since + ATTEMPT_DELAY) never) ≤ now → Moves (beginning t o a)
begins now t end None a before lt top le = absurd (omega arith)
begins now t end (Some k) a before lt top le = inr (with_begun t k a, k, refl, refl)

stage_moves : (limits : Limits) (start now t : ℕ) (w : Bool) (s : Stage) → is_settled s ≡ false → now ≤ t → now < never
    → wake_in limits start w s ≤ now → Moves (ruling limits start t w signals.Tick s)
stage_moves limits start now t w NotChosen unsettled before top le = cc
stage_moves limits start now t w Resolving unsettled before top le = inl (endings.Connect, refl)
stage_moves limits start now t w (Connecting a) unsettled before top le =
    at_either Moves (nat_le (connect_end limits start a.began) t) (giving_up endings.Connect a) (beginning_next t a)
    (λ _. inl (endings.Connect, refl))
    (λ f.
    begins now t (connect_end limits start a.began) (next_of a.states) a before
    (comes_not (connect_end limits start a.began) t f) top le)
stage_moves limits start now t w (Talking talk) unsettled before top le = inl (verdict talk endings.Read, refl)
stage_moves limits start now t w (Over ending) unsettled before top le = cc

pub moves_at : (p : Course) (now : ℕ) → is_settled p.stage ≡ false → now < never → wake_of p ≤ now
    → HasMoved p (step (tick now) p) (tasks_of (tick now) p)
moves_at p now unsettled top le =
    subst (λ b. HasMoved p (cond b p (moved (tick now) p)) (cond b [] (ruling_of (tick now) p).tasks))
    (sym (moving p now unsettled le))
    (stage_moves p.limits p.start now (max p.latest now) p.wanted p.stage unsettled (omega arith) top le)

-- ---- after a tick, no time has come

-- the time of the stage has not come
abbrev pub IsAhead : Limits → ℕ → Bool → ℕ → Stage → Type 0
IsAhead limits start w now NotChosen = Unit {0}
IsAhead limits start w now Resolving = now < total_end limits.total start
IsAhead limits start w now (Connecting a) = (now < connect_end limits start a.began) × (now < never → now < next_at a)
IsAhead limits start w now (Talking t) = now < talk_end limits start w t
IsAhead limits start w now (Over ending) = Unit {0}

begun_ahead : (now t k : ℕ) (a : Attempts) → now ≤ t → now < never → now < next_at (with_begun t k a)
begun_ahead now t k a before top =
    at_either (λ x. now < x) (is_some (next_of (with_begun t k a).states)) (t + ATTEMPT_DELAY) never
    (λ _. omega arith) (λ _. top)

beginning_ahead : (limits : Limits) (start now t : ℕ) (w : Bool) (o : Option ℕ) (a : Attempts) → next_of a.states ≡ o
    → now ≤ t → t < connect_end limits start a.began → IsAhead limits start w now (beginning t o a).stage
beginning_ahead limits start now t w None a e before lt =
    (omega arith, λ top. subst (λ o. now < cond (is_some o) (a.since + ATTEMPT_DELAY) never) (sym e) top)
beginning_ahead limits start now t w (Some k) a e before lt = (omega arith, λ top. begun_ahead now t k a before top)

ruling_ahead : (limits : Limits) (start now t : ℕ) (w : Bool) (s : Stage) → now ≤ t
    → IsAhead limits start w now (ruling limits start t w signals.Tick s).stage
ruling_ahead limits start now t w NotChosen before = tt
ruling_ahead limits start now t w Resolving before = tt
ruling_ahead limits start now t w (Connecting a) before =
    at_either (λ (r : Ruling). IsAhead limits start w now r.stage)
    (nat_le (connect_end limits start a.began) t) (giving_up endings.Connect a) (beginning_next t a)
    (λ _. tt)
    (λ f.
    beginning_ahead limits start now t w (next_of a.states) a refl before
    (comes_not (connect_end limits start a.began) t f))
ruling_ahead limits start now t w (Talking talk) before = tt
ruling_ahead limits start now t w (Over ending) before = tt

idle_ahead : (limits : Limits) (start latest now : ℕ) (w : Bool) (s : Stage)
    → is_idle (tick now) (course limits start latest w s) ≡ true → IsAhead limits start w now s
idle_ahead limits start latest now w NotChosen h = tt
idle_ahead limits start latest now w Resolving h = before_wake (wake_in limits start w Resolving) now h
idle_ahead limits start latest now w (Connecting a) h =
    let lt = before_wake (wake_in limits start w (Connecting a)) now h in
    (omega arith, λ _. omega arith)
idle_ahead limits start latest now w (Talking t) h = before_wake (wake_in limits start w (Talking t)) now h
idle_ahead limits start latest now w (Over ending) h = tt

ahead_by : (b : Bool) (p : Course) (now : ℕ) → is_idle (tick now) p ≡ b
    → IsAhead p.limits p.start p.wanted now (step (tick now) p).stage
ahead_by true p now h =
    subst (λ (q : Course). IsAhead p.limits p.start p.wanted now q.stage) (sym (step_idle (tick now) p h))
    (idle_ahead p.limits p.start p.latest now p.wanted p.stage h)
ahead_by false p now h =
    subst (λ (q : Course). IsAhead p.limits p.start p.wanted now q.stage) (sym (step_moved (tick now) p h))
    (ruling_ahead p.limits p.start now (max p.latest now) p.wanted p.stage (omega arith))

pub after_tick : (p : Course) (now : ℕ) → IsAhead p.limits p.start p.wanted now (step (tick now) p).stage
after_tick p now = ahead_by (is_idle (tick now) p) p now refl

-- ---- the time to wake after a tick

-- a tick keeps the limits, the start, and whether octets are wanted
kept_by_tick : (b : Bool) (p : Course) (now : ℕ)
    → wake_of (cond b p (moved (tick now) p)) ≡ wake_in p.limits p.start p.wanted (cond b p (moved (tick now) p)).stage
kept_by_tick true p now = refl
kept_by_tick false p now = refl

wake_from_ahead : (limits : Limits) (start now : ℕ) (w : Bool) (s : Stage) → now < never → IsAhead limits start w now s
    → now < wake_in limits start w s
wake_from_ahead limits start now w NotChosen top h = top
wake_from_ahead limits start now w Resolving top h = h
wake_from_ahead limits start now w (Connecting a) top h = let m = h.0 in let n = h.1 top in omega arith
wake_from_ahead limits start now w (Talking t) top h = h
wake_from_ahead limits start now w (Over ending) top h = top

pub wakes_later : (p : Course) (now : ℕ) → now < never → now < wake_of (step (tick now) p)
wakes_later p now top =
    subst (λ t. now < t) (sym (kept_by_tick (is_idle (tick now) p) p now))
    (wake_from_ahead p.limits p.start now p.wanted (step (tick now) p).stage top (after_tick p now))
