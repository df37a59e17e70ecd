-- What became of the attempts of a connection at each stage.
use Rattle.std.proofs.Common.{◌≡◌, ◌⊎◌, inl, inr, ℕ, suc, ◌+◌, ◌<◌, ◌≤◌, Bool, true, List, [], ◌∷◌, ◌++◌, slice_set, Contains, Some, refl, sym, ap, ◌∙◌, subst, arith}
use Rattle.std.specs.List.{list_all}
use Rattle.zoom_clock.specs.declared.action.Task.{Task}
use Rattle.zoom_clock.specs.declared.action.Task.TheVariants.{Connect, Read, Leave}
use Rattle.zoom_clock.specs.declared.attempt.Attempt.{Attempt}
use Rattle.zoom_clock.specs.declared.attempt.Attempt.TheVariants.{Ahead, Open, Failed}
use Rattle.zoom_clock.specs.declared.limits.Limits.{Limits}
use Rattle.zoom_clock.specs.declared.signal.Ending.{Ending}
use Rattle.zoom_clock.specs.declared.signal.Ending.TheVariants as endings
use Rattle.zoom_clock.specs.declared.signal.Signal.TheVariants as signals
use Rattle.zoom_clock.specs.declared.stage.Stage.{Stage}
use Rattle.zoom_clock.specs.declared.stage.Stage.TheVariants.{NotChosen, Resolving, Connecting, Talking, Over}
use Rattle.zoom_clock.specs.Attempts.{leaves, one_open, is_open, has_failed}
use Rattle.zoom_clock.specs.Stages.{reading}
use Rattle.zoom_clock.specs.Courses.{Event, event, is_settled, course_after}
use Rattle.zoom_clock.specs.Accounts.{WasTold, addresses_in, WasResolvedAt, WasLate, begun_in, left_in}
use Rattle.zoom_clock.specs.Laws.{stage_after, tasks_till}
use Rattle.zoom_clock.proofs.Histories.{IsNow, always}
use Rattle.zoom_clock.proofs.Addresses.{IsQuiet, IsUntried, known_still, known_now, untried_still, late_connect}
use Rattle.zoom_clock.proofs.States.{state, state_after, all_failed, open_within}
use Rattle.zoom_clock.proofs.Counts.{times, times_first, begins, begun_leaves, begun_won, lefts, lefts_more, open_left, lacks, counted, contained}
use Rattle.zoom_clock.proofs.Tracks.{IsGone, spare_most, AreTracked, gone_still, more_lacks, tracked_passed, tracked_failed, tracked_waiting, gone_more, begun_before, tracked_begun, tracked_first}
use Rattle.zoom_clock.proofs.Traces.{IsTraced, traced}

-- ---- each stage

-- each attempt that was begun has connected, or is gone
pub record IsTalked (es : List Event) (ts : List Task) (socket : ℕ) : Type 0 where
  pub once : (k : ℕ) → begins k ts ≤ 1 + lacks k es
  pub gone : (k : ℕ) → 0 < begins k ts → (k ≡ socket) ⊎ IsGone k es ts

-- the name was resolved, and each address was tried
abbrev pub WereTried : List Event → List Task → Type 0
WereTried es ts = (n : ℕ) × (addresses_in es ≡ Some n) × ((k : ℕ) → k < n → 0 < begins k ts)

tried_still : (e : Event) (es : List Event) (ts : List Task) → WereTried es ts → WereTried (e ∷ es) ts
tried_still e es ts h = (h.0, known_still h.0 e es h.1, h.2)

-- each attempt that was begun is gone
pub record IsDone (limits : Limits) (start : ℕ) (es : List Event) (ts : List Task) (ending : Ending) : Type 0 where
  pub once : (k : ℕ) → begins k ts ≤ 1 + lacks k es
  pub gone : (k : ℕ) → 0 < begins k ts → IsGone k es ts
  pub all : ending ≡ endings.Connect → WereTried es ts ⊎ WasLate limits start es

-- an attempt for each address is tracked, and connecting began when their number was told
pub record AreTried (start began : ℕ) (es : List Event) (ts : List Task) (xs : List Attempt) : Type 0 where
  pub count : ℕ
  pub tracked : AreTracked count es ts xs
  pub resolved : WasResolvedAt start began es

abbrev pub HasCome : Limits → ℕ → List Event → List Task → Bool → Stage → Type 0
HasCome limits start es ts w NotChosen = ⊥
HasCome limits start es ts w Resolving = IsUntried es ts
HasCome limits start es ts w (Connecting a) = AreTried start a.began es ts a.states
HasCome limits start es ts w (Talking t) = IsTalked es ts t.socket
HasCome limits start es ts w (Over ending) = IsDone limits start es ts ending

-- ---- more was told

talked_still : (e : Event) (es : List Event) (ts : List Task) (i j : ℕ) → j ≡ i → IsTalked es ts i
    → IsTalked (e ∷ es) ts j
talked_still e es ts i j same h = record {
  once = λ k. let o = h.once k in let m = more_lacks k e es in omega arith;
  gone = λ k b. elim (h.gone k b) [ inl is ↦ inl (is ∙ sym same) | inr g ↦ inr (gone_still k e es ts g) ];
}

done_still : (limits : Limits) (start : ℕ) (e : Event) (es : List Event) (ts : List Task) (ending : Ending)
    → IsDone limits start es ts ending → IsDone limits start (e ∷ es) ts ending
done_still limits start e es ts ending h = record {
  once = λ k. let o = h.once k in let m = more_lacks k e es in omega arith;
  gone = λ k b. gone_still k e es ts (h.gone k b);
  all = λ is. elim (h.all is) [ inl tried ↦ inl (tried_still e es ts tried) | inr late ↦ inr (inr late) ];
}

tried_passed : (start began : ℕ) (e : Event) (es : List Event) (ts : List Task) (xs : List Attempt)
    → AreTried start began es ts xs → AreTried start began (e ∷ es) ts xs
tried_passed start began e es ts xs h = record {
  count = h.count;
  tracked = tracked_passed h.count e es ts xs h.tracked;
  resolved = inr h.resolved;
}

passed : (limits : Limits) (start : ℕ) (e : Event) (es : List Event) (ts : List Task) (w v : Bool) (s : Stage)
    → IsQuiet e s → HasCome limits start es ts w s → HasCome limits start (e ∷ es) ts v s
passed limits start e es ts w v NotChosen quiet h = h
passed limits start e es ts w v Resolving quiet h = untried_still e es ts quiet h
passed limits start e es ts w v (Connecting a) quiet h = tried_passed start a.began e es ts a.states h
passed limits start e es ts w v (Talking t) quiet h = talked_still e es ts t.socket t.socket refl h
passed limits start e es ts w v (Over ending) quiet h = done_still limits start e es ts ending h

-- ---- an attempt has connected

more_left : (k : ℕ) (ts us : List Task) → 0 < lefts k us → 0 < lefts k (ts ++ us)
more_left k ts us h = let c = lefts_more k ts us in omega arith

won_left : (k : ℕ) (xs : List Attempt) (us : List Task) → state xs k ≡ Open → 0 < lefts k (leaves xs ++ us)
won_left k xs us is = let c = lefts_more k (leaves xs) us in let o = open_left xs k is in omega arith

won_one : (k j : ℕ) (es : List Event) (ts us : List Task) (xs : List Attempt) → is_open j xs ≡ true
    → (state xs k ≡ Open) ⊎ IsGone k es ts → (k ≡ j) ⊎ IsGone k es (ts ++ (leaves (slice_set xs j Failed) ++ us))
won_one k j es ts us xs o (inr gone) = inr (gone_more k es ts (leaves (slice_set xs j Failed) ++ us) gone)
won_one k j es ts us xs o (inl is) = elim (state_after xs j k Failed (open_within xs j o)) [
  | inl s ↦ inl s.0
  | inr s ↦
      let ys : List Attempt = slice_set xs j Failed in
      inr (inl (more_left k ts (leaves ys ++ us) (won_left k ys us (s.1 ∙ is))))
]

won_talked : (n j : ℕ) (es : List Event) (ts : List Task) (w : Bool) (xs : List Attempt) → is_open j xs ≡ true
    → AreTracked n es ts xs → IsTalked es (ts ++ (leaves (slice_set xs j Failed) ++ reading w)) j
won_talked n j es ts w xs o h =
    let us : List Task = leaves (slice_set xs j Failed) ++ reading w in
    let none : (k : ℕ) → begins k us ≡ 0 = λ k. ap (times k) (begun_won (slice_set xs j Failed) w) in
    record {
      once = λ k.
          let s = begun_before k ts us (none k) in
          let t = (h.each k).once in
          let m = spare_most (state xs k) in
          omega arith;
      gone = λ k b. won_one k j es ts (reading w) xs o
          ((h.each k).held (let s = begun_before k ts us (none k) in omega arith));
    }

-- ---- the open attempts are left

left_one : (k : ℕ) (es : List Event) (ts : List Task) (xs : List Attempt)
    → (state xs k ≡ Open) ⊎ IsGone k es ts → IsGone k es (ts ++ leaves xs)
left_one k es ts xs (inl is) = inl (more_left k ts (leaves xs) (open_left xs k is))
left_one k es ts xs (inr gone) = gone_more k es ts (leaves xs) gone

left_done : (limits : Limits) (n start : ℕ) (es : List Event) (ts : List Task) (xs : List Attempt) (ending : Ending)
    → (ending ≡ endings.Connect → WasLate limits start es) → AreTracked n es ts xs
    → IsDone limits start es (ts ++ leaves xs) ending
left_done limits n start es ts xs ending late h =
    let none : (k : ℕ) → begins k (leaves xs) ≡ 0 = λ k. ap (times k) (begun_leaves xs) in
    record {
      once = λ k.
          let s = begun_before k ts (leaves xs) (none k) in
          let t = (h.each k).once in
          let m = spare_most (state xs k) in
          omega arith;
      gone = λ k b.
          left_one k es ts xs ((h.each k).held (let s = begun_before k ts (leaves xs) (none k) in omega arith));
      all = λ is. inr (late is);
    }

-- ---- all have failed

failed_gone : (k : ℕ) (es : List Event) (ts : List Task) (x : Attempt) → x ≡ Failed → (x ≡ Open) ⊎ IsGone k es ts
    → IsGone k es ts
failed_gone k es ts x is (inl o) = cc
failed_gone k es ts x is (inr gone) = gone

failed_tried : (k : ℕ) (ts : List Task) (x : Attempt) → x ≡ Failed → (x ≡ Ahead) ⊎ (0 < begins k ts) → 0 < begins k ts
failed_tried k ts x is (inl a) = cc
failed_tried k ts x is (inr b) = b

failed_done : (limits : Limits) (n start : ℕ) (es : List Event) (ts : List Task) (xs : List Attempt)
    → list_all has_failed xs ≡ true → AreTracked n es ts xs → IsDone limits start es ts endings.Connect
failed_done limits n start es ts xs all h = record {
  once = λ k. let t = (h.each k).once in let m = spare_most (state xs k) in omega arith;
  gone = λ k b. failed_gone k es ts (state xs k) (all_failed xs k all) ((h.each k).held b);
  all = λ is. inl (n, h.known, λ k lt. failed_tried k ts (state xs k) (all_failed xs k all) ((h.each k).tried lt));
}

-- ---- a talk goes on, or has ended

read_talked : (es : List Event) (ts : List Task) (socket : ℕ) → IsTalked es ts socket
    → IsTalked es (ts ++ (Read ∷ [])) socket
read_talked es ts socket h = record {
  once = λ k. let s = begun_before k ts (Read ∷ []) refl in let o = h.once k in omega arith;
  gone = λ k b. elim (h.gone k (let s = begun_before k ts (Read ∷ []) refl in omega arith)) [
    | inl is ↦ inl is
    | inr g ↦ inr (gone_more k es ts (Read ∷ []) g)
  ];
}

ended_one : (k socket : ℕ) (es : List Event) (ts : List Task) → (k ≡ socket) ⊎ IsGone k es ts
    → IsGone k es (ts ++ (Leave socket ∷ []))
ended_one k socket es ts (inl is) =
    inl (more_left k ts (Leave socket ∷ []) (times_first k socket [] is))
ended_one k socket es ts (inr gone) = gone_more k es ts (Leave socket ∷ []) gone

ended_done : (limits : Limits) (start socket : ℕ) (es : List Event) (ts : List Task) (ending : Ending)
    → (ending ≡ endings.Connect → ⊥) → IsTalked es ts socket
    → IsDone limits start es (ts ++ (Leave socket ∷ [])) ending
ended_done limits start socket es ts ending other h = record {
  once = λ k. let s = begun_before k ts (Leave socket ∷ []) refl in let o = h.once k in omega arith;
  gone = λ k b. ended_one k socket es ts (h.gone k (let s = begun_before k ts (Leave socket ∷ []) refl in omega arith));
  all = λ is. absurd (other is);
}

-- ---- every history

-- none was tried
untried_done : (limits : Limits) (start : ℕ) (es : List Event) (ts : List Task) (ending : Ending) → begun_in ts ≡ []
    → (ending ≡ endings.Connect → WereTried es ts ⊎ WasLate limits start es) → IsDone limits start es ts ending
untried_done limits start es ts ending none all =
    let zero_begun : (k : ℕ) → begins k ts ≡ 0 = λ k. ap (times k) none in
    record {
      once = λ k. let z = zero_begun k in omega arith;
      gone = λ k b. absurd (let z = zero_begun k in omega arith);
      all = all;
    }

-- the name has no address
unresolved_done : (limits : Limits) (start at : ℕ) (es : List Event) (ts : List Task) → IsUntried es ts
    → IsDone limits start (event at (signals.Resolved 0) ∷ es) ts endings.Connect
unresolved_done limits start at es ts h =
    untried_done limits start (event at (signals.Resolved 0) ∷ es) ts endings.Connect h.none
    (λ _. inl (0, known_now (event at (signals.Resolved 0)) es h.unknown, λ k lt. absurd (omega arith)))

-- the name has addresses, and the first is tried
first_tried : (start at now n : ℕ) (es : List Event) (ts : List Task)
    → IsNow start now (event at (signals.Resolved (suc n))) es → IsUntried es ts
    → AreTried start now (event at (signals.Resolved (suc n)) ∷ es) (ts ++ (Connect 0 ∷ [])) (one_open (suc n))
first_tried start at now n es ts i h = record {
  count = suc n;
  tracked = tracked_first (suc n) (event at (signals.Resolved (suc n)) ∷ es) ts (omega arith)
      (known_now (event at (signals.Resolved (suc n))) es h.unknown) h.none;
  resolved = inl (h.unknown, refl, i.after, i.before);
}

all_come : (limits : Limits) (start : ℕ) (wanted : Bool) → IsTraced limits start wanted (HasCome limits start)
all_come limits start wanted = record {
  first = record { unknown = refl; none = refl };
  passing = λ e es ts w v s turn quiet h. passed limits start e es ts w v s quiet h;
  resolved = λ at now n es ts w i h. first_tried start at now n es ts i h;
  unresolved = λ at es ts w h. unresolved_done limits start at es ts h;
  overdue = λ at es ts w late h.
      untried_done limits start (event at signals.Tick ∷ es) ts endings.Connect h.none (λ _. inr late);
  abandoned = λ at es ts w h.
      untried_done limits start (event at signals.GiveUp ∷ es) ts endings.Turns h.none (λ is. cc);
  won = λ at now k es ts w a o h.
      won_talked h.count k (event at (signals.Connected k) ∷ es) ts w a.states o
      (tracked_passed h.count (event at (signals.Connected k)) es ts a.states h.tracked);
  waiting = λ at now k es ts w a o h. record {
    count = h.count;
    tracked = tracked_waiting h.count at k es ts a.states o h.tracked;
    resolved = inr h.resolved;
  };
  failed = λ at k es ts w a o next h. record {
    count = h.count;
    tracked = tracked_failed h.count at k es ts a.states o h.tracked;
    resolved = inr h.resolved;
  };
  replaced = λ at now k j es ts w a o next h. record {
    count = h.count;
    tracked = tracked_begun h.count j (event at (signals.Unreachable k) ∷ es) ts (slice_set a.states k Failed) next
        (tracked_failed h.count at k es ts a.states o h.tracked);
    resolved = inr h.resolved;
  };
  unreached = λ at k es ts w a o all h.
      failed_done limits h.count start (event at (signals.Unreachable k) ∷ es) ts (slice_set a.states k Failed) all
      (tracked_failed h.count at k es ts a.states o h.tracked);
  due = λ at now j es ts w a next h. record {
    count = h.count;
    tracked = tracked_begun h.count j (event at signals.Tick ∷ es) ts a.states next
        (tracked_passed h.count (event at signals.Tick) es ts a.states h.tracked);
    resolved = inr h.resolved;
  };
  late = λ at es ts w a late h.
      left_done limits h.count start (event at signals.Tick ∷ es) ts a.states endings.Connect
      (λ _. late_connect limits start at a.began es h.resolved late)
      (tracked_passed h.count (event at signals.Tick) es ts a.states h.tracked);
  given_up = λ at es ts w a h.
      left_done limits h.count start (event at signals.GiveUp ∷ es) ts a.states endings.Turns (λ is. cc)
      (tracked_passed h.count (event at signals.GiveUp) es ts a.states h.tracked);
  talked = λ e es ts w t u same h. talked_still e es ts t.socket u.socket same h;
  read = λ at now es ts w t h.
      read_talked (event at signals.Turn ∷ es) ts t.socket
      (talked_still (event at signals.Turn) es ts t.socket t.socket refl h);
  ended = λ e es ts w t ending other h.
      ended_done limits start t.socket (e ∷ es) ts ending other (talked_still e es ts t.socket t.socket refl h);
}

module _ (limits : Limits) (start : ℕ) (wanted : Bool) (es : List Event) where
  come : HasCome limits start es (tasks_till limits start wanted es)
      (course_after limits true start wanted es).wanted (stage_after limits start wanted es)
  come = always limits true start wanted (HasCome limits start)
      (traced limits start wanted (HasCome limits start) (all_come limits start wanted)) es

  once_at : (k : ℕ) (ts : List Task) (w : Bool) (s : Stage) → HasCome limits start es ts w s
      → begins k ts ≤ 1 + lacks k es
  once_at k ts w NotChosen h = absurd h
  once_at k ts w Resolving h = let z : begins k ts ≡ 0 = ap (times k) h.none in omega arith
  once_at k ts w (Connecting a) h =
      let t = (h.tracked.each k).once in let m = spare_most (state a.states k) in omega arith
  once_at k ts w (Talking t) h = h.once k
  once_at k ts w (Over ending) h = h.once k

  -- no address is tried again, but once for each time that the system had no socket for it
  pub begun_once : (k : ℕ) → begins k (tasks_till limits start wanted es) ≤ 1 + lacks k es
  begun_once k =
      once_at k (tasks_till limits start wanted es) (course_after limits true start wanted es).wanted
      (stage_after limits start wanted es) come

  gone_at : (k : ℕ) (ts : List Task) (w : Bool) (s : Stage) → is_settled s ≡ true → HasCome limits start es ts w s
      → 0 < begins k ts → IsGone k es ts
  gone_at k ts w NotChosen settled h = absurd h
  gone_at k ts w Resolving settled h = cc
  gone_at k ts w (Connecting a) settled h = cc
  gone_at k ts w (Talking t) settled h = cc
  gone_at k ts w (Over ending) settled h = h.gone k

  left_or_told : (k : ℕ) (ts : List Task) → IsGone k es ts
      → Contains (left_in ts) k ⊎ WasTold (signals.Unreachable k) es ⊎ WasTold (signals.NoSocket k) es
  left_or_told k ts (inl h) = inl (contained (left_in ts) k h)
  left_or_told k ts (inr h) = inr h

  -- each attempt of a connection that is over was left, or was told to have failed or to have no socket
  pub all_gone : (k : ℕ) → is_settled (stage_after limits start wanted es) ≡ true
      → Contains (begun_in (tasks_till limits start wanted es)) k
      → Contains (left_in (tasks_till limits start wanted es)) k
      ⊎ WasTold (signals.Unreachable k) es ⊎ WasTold (signals.NoSocket k) es
  all_gone k settled begun =
      let ts = tasks_till limits start wanted es in
      left_or_told k ts
      (gone_at k ts (course_after limits true start wanted es).wanted (stage_after limits start wanted es) settled
      come (counted (begun_in ts) k begun))

  -- a connection that could not be reached before its time was over tried each address
  pub all_tried : stage_after limits start wanted es ≡ Over endings.Connect
      → ((n : ℕ) × (addresses_in es ≡ Some n)
      × ((k : ℕ) → k < n → Contains (begun_in (tasks_till limits start wanted es)) k))
      ⊎ WasLate limits start es
  all_tried is =
      let ts = tasks_till limits start wanted es in
      let done : IsDone limits start es ts endings.Connect =
      subst (HasCome limits start es ts (course_after limits true start wanted es).wanted) is come in
      elim (done.all refl) [
        | inl tried ↦ inl (tried.0, tried.1, λ k lt. contained (begun_in ts) k (tried.2 k lt))
        | inr late ↦ inr late
      ]
