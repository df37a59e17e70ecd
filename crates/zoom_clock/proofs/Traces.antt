-- An induction over the history of a connection, by what becomes of its attempts.
use Rattle.std.proofs.Common.{◌≡◌, ◌⊎◌, inl, inr, ℕ, zero, suc, ◌==◌, ◌≤◌, Bool, true, false, cond, nat_le, List, [], ◌∷◌, ◌++◌, slice_set, Option, None, Some, refl, sym, subst, append-nil, arith}
use Rattle.std.specs.List.{list_all}
use Rattle.zoom_clock.specs.declared.action.Task.{Task}
use Rattle.zoom_clock.specs.declared.action.Task.TheVariants.{Connect, Read, Leave}
use Rattle.zoom_clock.specs.declared.attempt.Attempt.TheVariants.{Failed}
use Rattle.zoom_clock.specs.declared.attempts.Attempts.{Attempts}
use Rattle.zoom_clock.specs.declared.limits.Limits.{Limits}
use Rattle.zoom_clock.specs.declared.signal.Ending.{Ending}
use Rattle.zoom_clock.specs.declared.signal.Ending.TheVariants as endings
use Rattle.zoom_clock.specs.declared.signal.Signal.{Signal}
use Rattle.zoom_clock.specs.declared.signal.Signal.TheVariants as signals
use Rattle.zoom_clock.specs.declared.signal.Condition.{Condition}
use Rattle.zoom_clock.specs.declared.signal.Condition.TheVariants as conditions
use Rattle.zoom_clock.specs.declared.stage.Stage.{Stage}
use Rattle.zoom_clock.specs.declared.stage.Stage.TheVariants.{Resolving, Connecting, Talking, Over}
use Rattle.zoom_clock.specs.declared.talk.Talk.{Talk}
use Rattle.zoom_clock.specs.Attempts.{is_open, has_failed, next_of, leaves, first_attempts, with_begun, with_failed, with_waiting}
use Rattle.zoom_clock.specs.Times.{total_end}
use Rattle.zoom_clock.specs.Stages.{Ruling, staying, connect_end, resolving_ruling, first_talk, beginning, beginning_next, giving_up, failing, reading, winning, connecting_ruling, ending_talk, verdict, with_piece, is_used_up, going_on, talking_ruling}
use Rattle.zoom_clock.specs.Courses.{Event, event, is_tick, wanted_after}
use Rattle.zoom_clock.specs.Accounts.{latest_in, WasLate}
use Rattle.zoom_clock.proofs.Choices.{at_either, comes}
use Rattle.zoom_clock.proofs.Histories.{IsNow, IsKept}
use Rattle.zoom_clock.proofs.Addresses.{IsQuiet, idle_quiet}

-- octets are wanted only if they were before, or if the turn has come
abbrev pub IsTurn : Event → Bool → Bool → Type 0
IsTurn e w v = v ≡ true → (w ≡ true) ⊎ (e.what ≡ signals.Turn)

-- a talk does not end as a connection that could not be reached
verdict_is_not : (t : Talk) (ending : Ending) → (ending ≡ endings.Connect → ⊥) → verdict t ending ≡ endings.Connect → ⊥
verdict_is_not t ending other =
    at_either (λ x. x ≡ endings.Connect → ⊥) t.leaving endings.InputEnded (cond t.lost endings.Write ending)
    (λ _ h. cc)
    (λ _. at_either (λ x. x ≡ endings.Connect → ⊥) t.lost endings.Write ending (λ _ h. cc) (λ _. other))

not_both : (b : Bool) → b ≡ true → b ≡ false → ⊥
not_both b h f = cc

module _ (limits : Limits) (start : ℕ) (wanted : Bool) (P : List Event → List Task → Bool → Stage → Type 0) where
  -- it holds at the start, and whatever becomes of the attempts keeps it
  pub record IsTraced : Type 0 where
    pub first : P [] [] wanted Resolving
    pub passing : (e : Event) (es : List Event) (ts : List Task) (w v : Bool) (s : Stage) → IsTurn e w v → IsQuiet e s
        → P es ts w s → P (e ∷ es) ts v s
    -- the name has addresses
    pub resolved : (at now n : ℕ) (es : List Event) (ts : List Task) (w : Bool)
        → IsNow start now (event at (signals.Resolved (suc n))) es → P es ts w Resolving
        → P (event at (signals.Resolved (suc n)) ∷ es) (ts ++ (Connect 0 ∷ [])) w
        (Connecting (first_attempts (suc n) now))
    -- the name has none
    pub unresolved : (at : ℕ) (es : List Event) (ts : List Task) (w : Bool) → P es ts w Resolving
        → P (event at (signals.Resolved 0) ∷ es) ts w (Over endings.Connect)
    -- the total was over before the name was resolved
    pub overdue : (at : ℕ) (es : List Event) (ts : List Task) (w : Bool)
        → WasLate limits start (event at signals.Tick ∷ es) → P es ts w Resolving
        → P (event at signals.Tick ∷ es) ts w (Over endings.Connect)
    pub abandoned : (at : ℕ) (es : List Event) (ts : List Task) (w : Bool) → P es ts w Resolving
        → P (event at signals.GiveUp ∷ es) ts w (Over endings.Turns)
    -- attempt k has connected
    pub won : (at now k : ℕ) (es : List Event) (ts : List Task) (w : Bool) (a : Attempts) → is_open k a.states ≡ true
        → P es ts w (Connecting a)
        → P (event at (signals.Connected k) ∷ es) (ts ++ (leaves (slice_set a.states k Failed) ++ reading w)) w
        (Talking (first_talk limits now k))
    -- attempt k has no socket
    pub waiting : (at now k : ℕ) (es : List Event) (ts : List Task) (w : Bool) (a : Attempts)
        → is_open k a.states ≡ true → P es ts w (Connecting a)
        → P (event at (signals.NoSocket k) ∷ es) ts w (Connecting (with_waiting now k a))
    -- attempt k has failed, and no other begins
    pub failed : (at k : ℕ) (es : List Event) (ts : List Task) (w : Bool) (a : Attempts) → is_open k a.states ≡ true
        → ((k == a.last) ≡ true → next_of (with_failed k a).states ≡ None) → P es ts w (Connecting a)
        → P (event at (signals.Unreachable k) ∷ es) ts w (Connecting (with_failed k a))
    -- attempt k has failed, and j begins
    pub replaced : (at now k j : ℕ) (es : List Event) (ts : List Task) (w : Bool) (a : Attempts)
        → is_open k a.states ≡ true → next_of (with_failed k a).states ≡ Some j → P es ts w (Connecting a)
        → P (event at (signals.Unreachable k) ∷ es) (ts ++ (Connect j ∷ [])) w
        (Connecting (with_begun now j (with_failed k a)))
    -- all have failed
    pub unreached : (at k : ℕ) (es : List Event) (ts : List Task) (w : Bool) (a : Attempts) → is_open k a.states ≡ true
        → list_all has_failed (with_failed k a).states ≡ true → P es ts w (Connecting a)
        → P (event at (signals.Unreachable k) ∷ es) ts w (Over endings.Connect)
    -- attempt j was due
    pub due : (at now j : ℕ) (es : List Event) (ts : List Task) (w : Bool) (a : Attempts) → next_of a.states ≡ Some j
        → P es ts w (Connecting a)
        → P (event at signals.Tick ∷ es) (ts ++ (Connect j ∷ [])) w (Connecting (with_begun now j a))
    pub late : (at : ℕ) (es : List Event) (ts : List Task) (w : Bool) (a : Attempts)
        → connect_end limits start a.began ≤ latest_in start (event at signals.Tick ∷ es) → P es ts w (Connecting a)
        → P (event at signals.Tick ∷ es) (ts ++ leaves a.states) w (Over endings.Connect)
    pub given_up : (at : ℕ) (es : List Event) (ts : List Task) (w : Bool) (a : Attempts) → P es ts w (Connecting a)
        → P (event at signals.GiveUp ∷ es) (ts ++ leaves a.states) w (Over endings.Turns)
    pub talked : (e : Event) (es : List Event) (ts : List Task) (w : Bool) (t u : Talk) → u.socket ≡ t.socket
        → P es ts w (Talking t) → P (e ∷ es) ts w (Talking u)
    pub read : (at now : ℕ) (es : List Event) (ts : List Task) (w : Bool) (t : Talk) → P es ts w (Talking t)
        → P (event at signals.Turn ∷ es) (ts ++ (Read ∷ [])) true (Talking (record t { heard = now }))
    pub ended : (e : Event) (es : List Event) (ts : List Task) (w : Bool) (t : Talk) (ending : Ending)
        → (ending ≡ endings.Connect → ⊥) → P es ts w (Talking t)
        → P (e ∷ es) (ts ++ (Leave t.socket ∷ [])) w (Over ending)

  -- after a ruling
  abbrev After : List Event → List Task → Bool → Ruling → Type 0
  After es ts w r = P es (ts ++ r.tasks) w r.stage

  stays : (es : List Event) (ts : List Task) (w : Bool) (s : Stage) → P es ts w s → After es ts w (staying s)
  stays es ts w s h = subst (λ l. P es l w s) (sym (append-nil ts)) h

  passes : IsTraced → (e : Event) (es : List Event) (ts : List Task) (w : Bool) (s : Stage) → IsQuiet e s → P es ts w s
      → After (e ∷ es) ts w (staying s)
  passes r e es ts w s quiet h = stays (e ∷ es) ts w s (r.passing e es ts w w s (λ x. inl x) quiet h)

  -- ---- resolving

  resolving_after : IsTraced → (at now : ℕ) (what : Signal) (es : List Event) (ts : List Task) (w : Bool)
      → IsNow start now (event at what) es → (is_tick what ≡ true → total_end limits.total start ≤ at)
      → P es ts w Resolving → After (event at what ∷ es) ts (wanted_after what w) (resolving_ruling now what)
  resolving_after r at now (signals.Resolved zero) es ts w i late h =
      stays (event at (signals.Resolved 0) ∷ es) ts w (Over endings.Connect) (r.unresolved at es ts w h)
  resolving_after r at now (signals.Resolved (suc n)) es ts w i late h = r.resolved at now n es ts w i h
  resolving_after r at now signals.GiveUp es ts w i late h =
      stays (event at signals.GiveUp ∷ es) ts w (Over endings.Turns) (r.abandoned at es ts w h)
  resolving_after r at now signals.Tick es ts w i late h =
      stays (event at signals.Tick ∷ es) ts w (Over endings.Connect)
      (r.overdue at es ts w
      (inl (refl, inl (let t = late refl in let a = i.after in let b = i.before in omega arith))) h)
  resolving_after r at now (signals.Connected k) es ts w i late h =
      passes r (event at (signals.Connected k)) es ts w Resolving refl h
  resolving_after r at now (signals.Unreachable k) es ts w i late h =
      passes r (event at (signals.Unreachable k)) es ts w Resolving refl h
  resolving_after r at now (signals.NoSocket k) es ts w i late h =
      passes r (event at (signals.NoSocket k)) es ts w Resolving refl h
  resolving_after r at now (signals.Octets condition) es ts w i late h =
      passes r (event at (signals.Octets condition)) es ts w Resolving refl h
  resolving_after r at now signals.Taken es ts w i late h =
      passes r (event at signals.Taken) es ts w Resolving refl h
  resolving_after r at now signals.End es ts w i late h =
      passes r (event at signals.End) es ts w Resolving refl h
  resolving_after r at now signals.Unreadable es ts w i late h =
      passes r (event at signals.Unreadable) es ts w Resolving refl h
  resolving_after r at now signals.Unwritable es ts w i late h =
      passes r (event at signals.Unwritable) es ts w Resolving refl h
  resolving_after r at now signals.Turn es ts w i late h =
      stays (event at signals.Turn ∷ es) ts true Resolving
      (r.passing (event at signals.Turn) es ts w true Resolving (λ _. inr refl) refl h)

  -- ---- connecting

  failed_next : IsTraced → (at now k : ℕ) (es : List Event) (ts : List Task) (w : Bool) (a : Attempts) (o : Option ℕ)
      → is_open k a.states ≡ true → next_of (with_failed k a).states ≡ o → P es ts w (Connecting a)
      → After (event at (signals.Unreachable k) ∷ es) ts w (beginning now o (with_failed k a))
  failed_next r at now k es ts w a None o e h =
      stays (event at (signals.Unreachable k) ∷ es) ts w (Connecting (with_failed k a))
      (r.failed at k es ts w a o (λ _. e) h)
  failed_next r at now k es ts w a (Some j) o e h = r.replaced at now k j es ts w a o e h

  failed_after : IsTraced → (at now k : ℕ) (es : List Event) (ts : List Task) (w : Bool) (a : Attempts)
      → is_open k a.states ≡ true → P es ts w (Connecting a)
      → After (event at (signals.Unreachable k) ∷ es) ts w (failing now k (with_failed k a))
  failed_after r at now k es ts w a o h =
      let es' : List Event = event at (signals.Unreachable k) ∷ es in
      let b = with_failed k a in
      at_either (After es' ts w)
      (list_all has_failed b.states) (staying (Over endings.Connect))
      (cond (k == a.last) (beginning_next now b) (staying (Connecting b)))
      (λ all. stays es' ts w (Over endings.Connect) (r.unreached at k es ts w a o all h))
      (λ _. at_either (After es' ts w) (k == a.last) (beginning_next now b) (staying (Connecting b))
      (λ _. failed_next r at now k es ts w a (next_of b.states) o refl h)
      (λ f. stays es' ts w (Connecting b) (r.failed at k es ts w a o (λ x. absurd (not_both (k == a.last) x f)) h)))

  due_next : IsTraced → (at now : ℕ) (es : List Event) (ts : List Task) (w : Bool) (a : Attempts) (o : Option ℕ)
      → next_of a.states ≡ o → P es ts w (Connecting a) → After (event at signals.Tick ∷ es) ts w (beginning now o a)
  due_next r at now es ts w a None e h = passes r (event at signals.Tick) es ts w (Connecting a) tt h
  due_next r at now es ts w a (Some j) e h = r.due at now j es ts w a e h

  connecting_after : IsTraced
      → (at now : ℕ) (what : Signal) (es : List Event) (ts : List Task) (w : Bool) (a : Attempts)
      → IsNow start now (event at what) es → P es ts w (Connecting a)
      → After (event at what ∷ es) ts (wanted_after what w) (connecting_ruling limits start now w what a)
  connecting_after r at now (signals.Connected k) es ts w a i h =
      at_either (After (event at (signals.Connected k) ∷ es) ts w)
      (is_open k a.states) (winning limits now w k a) (staying (Connecting a))
      (λ o. r.won at now k es ts w a o h) (λ _. passes r (event at (signals.Connected k)) es ts w (Connecting a) tt h)
  connecting_after r at now (signals.Unreachable k) es ts w a i h =
      at_either (After (event at (signals.Unreachable k) ∷ es) ts w)
      (is_open k a.states) (failing now k (with_failed k a)) (staying (Connecting a))
      (λ o. failed_after r at now k es ts w a o h)
      (λ _. passes r (event at (signals.Unreachable k)) es ts w (Connecting a) tt h)
  connecting_after r at now (signals.NoSocket k) es ts w a i h =
      stays (event at (signals.NoSocket k) ∷ es) ts w (Connecting (cond (is_open k a.states) (with_waiting now k a) a))
      (at_either (λ x. P (event at (signals.NoSocket k) ∷ es) ts w (Connecting x))
      (is_open k a.states) (with_waiting now k a) a
      (λ o. r.waiting at now k es ts w a o h)
      (λ _. r.passing (event at (signals.NoSocket k)) es ts w w (Connecting a) (λ x. inl x) tt h))
  connecting_after r at now signals.GiveUp es ts w a i h = r.given_up at es ts w a h
  connecting_after r at now signals.Tick es ts w a i h =
      at_either (After (event at signals.Tick ∷ es) ts w)
      (nat_le (connect_end limits start a.began) now) (giving_up endings.Connect a) (beginning_next now a)
      (λ late.
      let c = comes (connect_end limits start a.began) now late in
      let b = i.before in
      r.late at es ts w a (omega arith) h)
      (λ _. due_next r at now es ts w a (next_of a.states) refl h)
  connecting_after r at now (signals.Resolved n) es ts w a i h =
      passes r (event at (signals.Resolved n)) es ts w (Connecting a) tt h
  connecting_after r at now (signals.Octets condition) es ts w a i h =
      passes r (event at (signals.Octets condition)) es ts w (Connecting a) tt h
  connecting_after r at now signals.Taken es ts w a i h = passes r (event at signals.Taken) es ts w (Connecting a) tt h
  connecting_after r at now signals.End es ts w a i h = passes r (event at signals.End) es ts w (Connecting a) tt h
  connecting_after r at now signals.Unreadable es ts w a i h =
      passes r (event at signals.Unreadable) es ts w (Connecting a) tt h
  connecting_after r at now signals.Unwritable es ts w a i h =
      passes r (event at signals.Unwritable) es ts w (Connecting a) tt h
  connecting_after r at now signals.Turn es ts w a i h =
      stays (event at signals.Turn ∷ es) ts true (Connecting a)
      (r.passing (event at signals.Turn) es ts w true (Connecting a) (λ _. inr refl) tt h)

  -- ---- talking

  ended_after : IsTraced → (e : Event) (es : List Event) (ts : List Task) (w : Bool) (t : Talk) (ending : Ending)
      → (ending ≡ endings.Connect → ⊥) → P es ts w (Talking t)
      → After (e ∷ es) ts w (ending_talk t (verdict t ending))
  ended_after r e es ts w t ending other h = r.ended e es ts w t (verdict t ending) (verdict_is_not t ending other) h

  goes_on : IsTraced → (at now : ℕ) (condition : Condition) (es : List Event) (ts : List Task) (w : Bool) (t : Talk)
      → P es ts w (Talking t)
      → After (event at (signals.Octets condition) ∷ es) ts w (going_on (with_piece now condition t))
  goes_on r at now condition es ts w t h =
      let e = event at (signals.Octets condition) in
      let u = with_piece now condition t in
      at_either (After (e ∷ es) ts w)
      (is_used_up u.left) (ending_talk u (verdict u endings.Turns)) (staying (Talking u))
      (λ _. r.ended e es ts w t (verdict u endings.Turns) (verdict_is_not u endings.Turns (λ x. cc)) h)
      (λ _. stays (e ∷ es) ts w (Talking u) (r.talked e es ts w t u refl h))

  talking_after : IsTraced → (at now : ℕ) (what : Signal) (es : List Event) (ts : List Task) (w : Bool) (t : Talk)
      → P es ts w (Talking t) → After (event at what ∷ es) ts (wanted_after what w) (talking_ruling now w what t)
  talking_after r at now (signals.Octets conditions.Going) es ts w t h = goes_on r at now conditions.Going es ts w t h
  talking_after r at now (signals.Octets conditions.Leaving) es ts w t h = goes_on r at now conditions.Leaving es ts w t h
  talking_after r at now (signals.Octets conditions.Finished) es ts w t h =
      r.ended (event at (signals.Octets conditions.Finished)) es ts w t endings.Finished (λ x. cc) h
  talking_after r at now signals.Taken es ts w t h =
      stays (event at signals.Taken ∷ es) ts w (Talking (record t { heard = now }))
      (r.talked (event at signals.Taken) es ts w t (record t { heard = now }) refl h)
  talking_after r at now signals.End es ts w t h =
      ended_after r (event at signals.End) es ts w t endings.InputEnded (λ x. cc) h
  talking_after r at now signals.Unreadable es ts w t h =
      ended_after r (event at signals.Unreadable) es ts w t endings.Read (λ x. cc) h
  talking_after r at now signals.Unwritable es ts w t h =
      let e = event at signals.Unwritable in
      let u : Talk = record t { lost = true } in
      at_either (After (e ∷ es) ts w) t.leaving (ending_talk t endings.InputEnded) (staying (Talking u))
      (λ _. r.ended e es ts w t endings.InputEnded (λ x. cc) h)
      (λ _. stays (e ∷ es) ts w (Talking u) (r.talked e es ts w t u refl h))
  talking_after r at now signals.GiveUp es ts w t h =
      ended_after r (event at signals.GiveUp) es ts w t endings.Turns (λ x. cc) h
  talking_after r at now signals.Tick es ts w t h =
      ended_after r (event at signals.Tick) es ts w t endings.Read (λ x. cc) h
  talking_after r at now signals.Turn es ts w t h =
      at_either (After (event at signals.Turn ∷ es) ts true)
      w (staying (Talking t)) (record { stage = Talking (record t { heard = now }); tasks = Read ∷ [] })
      (λ _.
      stays (event at signals.Turn ∷ es) ts true (Talking t)
      (r.passing (event at signals.Turn) es ts w true (Talking t) (λ _. inr refl) tt h))
      (λ _. r.read at now es ts w t h)
  talking_after r at now (signals.Resolved n) es ts w t h =
      passes r (event at (signals.Resolved n)) es ts w (Talking t) tt h
  talking_after r at now (signals.Connected k) es ts w t h =
      passes r (event at (signals.Connected k)) es ts w (Talking t) tt h
  talking_after r at now (signals.Unreachable k) es ts w t h =
      passes r (event at (signals.Unreachable k)) es ts w (Talking t) tt h
  talking_after r at now (signals.NoSocket k) es ts w t h =
      passes r (event at (signals.NoSocket k)) es ts w (Talking t) tt h

  pub traced : IsTraced → IsKept limits true start wanted P
  traced r = record {
    first = r.first;
    idle = λ e es ts w s h idle. r.passing e es ts w w s (λ x. inl x) (idle_quiet e s idle) h;
    resolving = λ at now what es ts w i late h. resolving_after r at now what es ts w i late h;
    connecting = λ at now what es ts w a i h. connecting_after r at now what es ts w a i h;
    talking = λ at now what es ts w t i late h. talking_after r at now what es ts w t h;
  }
