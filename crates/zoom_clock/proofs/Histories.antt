-- An induction over the history of a connection, by its stages.
use Rattle.std.proofs.Common.{◌≡◌, ℕ, ◌≤◌, max, Bool, true, false, cond, not, ◌&&◌, ◌||◌, nat_le, List, [], ◌∷◌, ◌++◌, refl, sym, ap₂, subst, subst₂, append-nil, arith}
use Rattle.zoom_clock.specs.declared.action.Task.{Task}
use Rattle.zoom_clock.specs.declared.attempts.Attempts.{Attempts}
use Rattle.zoom_clock.specs.declared.course.Course.{Course}
use Rattle.zoom_clock.specs.declared.limits.Limits.{Limits}
use Rattle.zoom_clock.specs.declared.signal.Signal.{Signal}
use Rattle.zoom_clock.specs.declared.stage.Stage.{Stage}
use Rattle.zoom_clock.specs.declared.stage.Stage.TheVariants.{NotChosen, Resolving, Connecting, Talking, Over}
use Rattle.zoom_clock.specs.declared.talk.Talk.{Talk}
use Rattle.zoom_clock.specs.Times.{total_end}
use Rattle.zoom_clock.specs.Stages.{Ruling, ruling, first_stage, resolving_ruling, connecting_ruling, talking_ruling, talk_end}
use Rattle.zoom_clock.specs.Courses.{Event, event, is_tick, is_settled, wanted_after, wake_of, is_idle, ruling_of, step, tasks_of, course_after, tasks_after}
use Rattle.zoom_clock.specs.Accounts.{latest_in}
use Rattle.zoom_clock.proofs.Choices.{at_either, comes, from_not_false}
use Rattle.zoom_clock.proofs.Waking.{course, tick, moved, IsAhead, after_tick}

-- ---- what a history keeps

module _ (limits : Limits) (chosen : Bool) (start : ℕ) (wanted : Bool) where
  pub limits_kept : (es : List Event) → (course_after limits chosen start wanted es).limits ≡ limits
  limits_kept [] = refl
  limits_kept (e ∷ es) =
      let p = course_after limits chosen start wanted es in
      at_either (λ (q : Course). q.limits ≡ limits) (is_idle e p) p (moved e p)
      (λ _. limits_kept es) (λ _. limits_kept es)

  pub start_kept : (es : List Event) → (course_after limits chosen start wanted es).start ≡ start
  start_kept [] = refl
  start_kept (e ∷ es) =
      let p = course_after limits chosen start wanted es in
      at_either (λ (q : Course). q.start ≡ start) (is_idle e p) p (moved e p)
      (λ _. start_kept es) (λ _. start_kept es)

  pub latest_kept : (es : List Event) → (course_after limits chosen start wanted es).latest ≤ latest_in start es
  latest_kept [] = omega arith
  latest_kept (e ∷ es) =
      let p = course_after limits chosen start wanted es in
      let before : p.latest ≤ latest_in start es = latest_kept es in
      at_either (λ (q : Course). q.latest ≤ latest_in start (e ∷ es)) (is_idle e p) p (moved e p)
      (λ _. omega arith) (λ _. omega arith)

  -- after a tick, no time has come
  ahead_after : (now : ℕ) (es : List Event)
      → IsAhead limits start (course_after limits chosen start wanted es).wanted now
      (course_after limits chosen start wanted (tick now ∷ es)).stage
  ahead_after now es =
      let p = course_after limits chosen start wanted es in
      subst₂ (λ l s. IsAhead l s p.wanted now (course_after limits chosen start wanted (tick now ∷ es)).stage)
      (limits_kept es) (start_kept es) (after_tick p now)

  pub ahead_at : (now : ℕ) (es : List Event) (s : Stage)
      → (course_after limits chosen start wanted (tick now ∷ es)).stage ≡ s
      → IsAhead limits start (course_after limits chosen start wanted es).wanted now s
  ahead_at now es s h =
      subst (IsAhead limits start (course_after limits chosen start wanted es).wanted now) h (ahead_after now es)

-- ---- what holds of every history

-- the time at which a signal counts
pub record IsNow (start now : ℕ) (e : Event) (es : List Event) : Type 0 where
  pub after : e.at ≤ now
  pub before : now ≤ latest_in start (e ∷ es)

-- it is settled, or a tick was told
abbrev pub IsIdle : Event → Stage → Type 0
IsIdle e s = (is_settled s || is_tick e.what) ≡ true

idle_is : (b t c : Bool) → (b || (t && c)) ≡ true → (b || t) ≡ true
idle_is true t c h = refl
idle_is false true c h = refl
idle_is false false c h = h

comes_if : (t c : Bool) → (t && not c) ≡ false → t ≡ true → c ≡ true
comes_if true c h e = from_not_false c h
comes_if false c h e = cc

module _ (limits : Limits) (chosen : Bool) (start : ℕ) (wanted : Bool)
    (P : List Event → List Task → Bool → Stage → Type 0) where
  -- it holds after a ruling
  abbrev pub Ruled : List Event → List Task → Bool → Ruling → Type 0
  Ruled es ts w r = P es (ts ++ r.tasks) w r.stage

  -- it holds at the start, and each signal keeps it
  pub record IsKept : Type 0 where
    pub first : P [] [] wanted (first_stage chosen)
    pub idle : (e : Event) (es : List Event) (ts : List Task) (w : Bool) (s : Stage) → P es ts w s → IsIdle e s
        → P (e ∷ es) ts w s
    pub resolving : (at now : ℕ) (what : Signal) (es : List Event) (ts : List Task) (w : Bool)
        → IsNow start now (event at what) es → (is_tick what ≡ true → total_end limits.total start ≤ at)
        → P es ts w Resolving → Ruled (event at what ∷ es) ts (wanted_after what w) (resolving_ruling now what)
    pub connecting : (at now : ℕ) (what : Signal) (es : List Event) (ts : List Task) (w : Bool) (a : Attempts)
        → IsNow start now (event at what) es → P es ts w (Connecting a)
        → Ruled (event at what ∷ es) ts (wanted_after what w) (connecting_ruling limits start now w what a)
    pub talking : (at now : ℕ) (what : Signal) (es : List Event) (ts : List Task) (w : Bool) (t : Talk)
        → IsNow start now (event at what) es → (is_tick what ≡ true → talk_end limits start w t ≤ at)
        → P es ts w (Talking t) → Ruled (event at what ∷ es) ts (wanted_after what w) (talking_ruling now w what t)

  -- it holds once this was told
  abbrev Told : Event → List Event → List Task → Course → Type 0
  Told e es ts q = P (e ∷ es) (ts ++ tasks_of e q) (step e q).wanted (step e q).stage

  -- the same, by whether the signal is idle
  abbrev ToldBy : Event → List Event → List Task → Course → Bool → Type 0
  ToldBy e es ts q b =
      P (e ∷ es) (ts ++ cond b [] (ruling_of e q).tasks) (cond b q (moved e q)).wanted (cond b q (moved e q)).stage

  ruled : IsKept → (e : Event) (es : List Event) (ts : List Task) (latest : ℕ) (w : Bool) (s : Stage)
      → latest ≤ latest_in start es → is_idle e (course limits start latest w s) ≡ false → P es ts w s
      → Ruled (e ∷ es) ts (wanted_after e.what w) (ruling limits start (max latest e.at) w e.what s)
  ruled k e es ts latest w NotChosen bound h p = cc
  ruled k e es ts latest w Resolving bound h p =
      k.resolving e.at (max latest e.at) e.what es ts w (record { after = omega arith; before = omega arith })
      (λ tick.
      comes (total_end limits.total start) e.at
      (comes_if (is_tick e.what) (nat_le (total_end limits.total start) e.at) h tick))
      p
  ruled k e es ts latest w (Connecting a) bound h p =
      k.connecting e.at (max latest e.at) e.what es ts w a (record { after = omega arith; before = omega arith }) p
  ruled k e es ts latest w (Talking t) bound h p =
      k.talking e.at (max latest e.at) e.what es ts w t (record { after = omega arith; before = omega arith })
      (λ tick.
      comes (talk_end limits start w t) e.at
      (comes_if (is_tick e.what) (nat_le (talk_end limits start w t) e.at) h tick))
      p
  ruled k e es ts latest w (Over ending) bound h p = cc

  told : IsKept → (b : Bool) (e : Event) (es : List Event) (ts : List Task) (latest : ℕ) (w : Bool) (s : Stage)
      → latest ≤ latest_in start es → is_idle e (course limits start latest w s) ≡ b → P es ts w s
      → Told e es ts (course limits start latest w s)
  told k true e es ts latest w s bound h p =
      let q = course limits start latest w s in
      subst (ToldBy e es ts q) (sym h)
      (subst (λ l. P (e ∷ es) l w s) (sym (append-nil ts))
      (k.idle e es ts w s p (idle_is (is_settled s) (is_tick e.what) (not (nat_le (wake_of q) e.at)) h)))
  told k false e es ts latest w s bound h p =
      let q = course limits start latest w s in
      subst (ToldBy e es ts q) (sym h)
      (ruled k e es ts latest w s bound h p)

  -- so it holds of every history
  pub always : IsKept → (es : List Event)
      → P es (tasks_after limits chosen start wanted es) (course_after limits chosen start wanted es).wanted
      (course_after limits chosen start wanted es).stage
  always k [] = k.first
  always k (e ∷ es) =
      let p = course_after limits chosen start wanted es in
      let ts = tasks_after limits chosen start wanted es in
      let same : course limits start p.latest p.wanted p.stage ≡ p =
      ap₂ (λ l s. course l s p.latest p.wanted p.stage) (sym (limits_kept limits chosen start wanted es))
      (sym (start_kept limits chosen start wanted es)) in
      subst (Told e es ts) same
      (told k (is_idle e (course limits start p.latest p.wanted p.stage)) e es ts p.latest p.wanted p.stage
      (latest_kept limits chosen start wanted es) refl (always k es))

  -- and of the stage that a history leads to
  pub always_at : IsKept → (es : List Event) (s : Stage) → (course_after limits chosen start wanted es).stage ≡ s
      → P es (tasks_after limits chosen start wanted es) (course_after limits chosen start wanted es).wanted s
  always_at k es s h =
      let p = course_after limits chosen start wanted es in
      subst (P es (tasks_after limits chosen start wanted es) p.wanted) h (always k es)
