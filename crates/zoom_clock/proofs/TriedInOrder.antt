-- The addresses are tried in order.
use Rattle.std.proofs.Common.{◌≡◌, inl, inr, ℕ, zero, suc, ◌+◌, ◌<◌, ◌≤◌, Bool, true, List, [], ◌∷◌, ◌++◌, length, slice_set, replicate, Option, None, Some, refl, subst, sym, ap, ◌∙◌, append-nil, arith}
use Rattle.std.proofs.lemmas.Bool.{cases_eq, cases_lt}
use Rattle.std.proofs.lemmas.List.{get_or_past}
use Rattle.std.proofs.Math.ListN.{length-set}
use Rattle.zoom_clock.specs.declared.action.Task.{Task}
use Rattle.zoom_clock.specs.declared.action.Task.TheVariants.{Connect, Read, Leave}
use Rattle.zoom_clock.specs.declared.attempt.Attempt.{Attempt}
use Rattle.zoom_clock.specs.declared.attempt.Attempt.TheVariants.{Ahead, Open, Waiting, Failed}
use Rattle.zoom_clock.specs.declared.limits.Limits.{Limits}
use Rattle.zoom_clock.specs.declared.signal.Signal.TheVariants as signals
use Rattle.zoom_clock.specs.declared.stage.Stage.{Stage}
use Rattle.zoom_clock.specs.declared.stage.Stage.TheVariants.{NotChosen, Resolving, Connecting, Talking, Over}
use Rattle.zoom_clock.specs.Attempts.{either, leaves, is_open, next_of}
use Rattle.zoom_clock.specs.Stages.{reading}
use Rattle.zoom_clock.specs.Courses.{Event, event, course_after}
use Rattle.zoom_clock.specs.Accounts.{WasTold, resolved_by, addresses_in, begun_in}
use Rattle.zoom_clock.specs.Laws.{run_from, IsWithin, stage_after, tasks_till}
use Rattle.zoom_clock.proofs.Histories.{always}
use Rattle.zoom_clock.proofs.Addresses.{IsQuiet, IsUntried, known_still, known_now, untried_still}
use Rattle.zoom_clock.proofs.States.{state, state_after, open_is, open_within, IsNext, next_is, next_within, first_states, first_length}
use Rattle.zoom_clock.proofs.Counts.{begun_more, begun_leaves, begun_won}
use Rattle.zoom_clock.proofs.Traces.{IsTraced, traced}

-- ---- the first numbers

abbrev pub IsRun : List Event → List Task → Type 0
IsRun es ts = (m : ℕ) × IsWithin m (addresses_in es) × (begun_in ts ≡ run_from 0 m)

none_within : (m : ℕ) (o : Option ℕ) → m ≡ 0 → IsWithin m o
none_within m None is = is
none_within m (Some n) is = omega arith

within_still : (m : ℕ) (o newest : Option ℕ) → IsWithin m o → IsWithin m (either o newest)
within_still m None newest h = none_within m newest h
within_still m (Some n) newest h = h

run_still : (e : Event) (es : List Event) (ts : List Task) → IsRun es ts → IsRun (e ∷ es) ts
run_still e es ts h = (h.0, within_still h.0 (addresses_in es) (resolved_by e.what) h.1, h.2)

untried_run : (es : List Event) (ts : List Task) → begun_in ts ≡ [] → IsRun es ts
untried_run es ts none = (0, none_within 0 (addresses_in es) refl, none)

run_push : (i m : ℕ) → run_from i m ++ (i + m) ∷ [] ≡ run_from i (suc m)
run_push i zero = let e : i + 0 ≡ i = omega arith in ap (λ (k : ℕ). k ∷ []) e
run_push i (suc m) =
    let e : i + suc m ≡ (i + 1) + m = omega arith in
    ap (λ (k : ℕ). i ∷ (run_from (i + 1) m ++ k ∷ [])) e ∙ ap (λ (l : List ℕ). i ∷ l) (run_push (i + 1) m)

run_next : (m : ℕ) → run_from 0 m ++ m ∷ [] ≡ run_from 0 (suc m)
run_next m = let e : m ≡ 0 + m = omega arith in ap (λ (k : ℕ). run_from 0 m ++ k ∷ []) e ∙ run_push 0 m

same_begun : (ts us : List Task) → begun_in us ≡ [] → begun_in (ts ++ us) ≡ begun_in ts
same_begun ts us none = begun_more ts us ∙ ap (λ l. begun_in ts ++ l) none ∙ append-nil (begun_in ts)

run_more : (es : List Event) (ts us : List Task) → begun_in us ≡ [] → IsRun es ts → IsRun es (ts ++ us)
run_more es ts us none h = (h.0, h.1, same_begun ts us none ∙ h.2)

-- ---- the attempts of which no one waits for a socket: the first m were begun

pub record AreInOrder (n : ℕ) (ts : List Task) (m : ℕ) (xs : List Attempt) : Type 0 where
  pub count : length xs ≡ n
  pub most : m ≤ n
  pub run : begun_in ts ≡ run_from 0 m
  pub sockets : (k : ℕ) → state xs k ≡ Waiting → ⊥
  pub begun : (k : ℕ) → k < m → state xs k ≡ Ahead → ⊥
  pub ahead : (k : ℕ) → m ≤ k → k < n → state xs k ≡ Ahead

-- some first ones were
abbrev pub AreOrdered : ℕ → List Task → List Attempt → Type 0
AreOrdered n ts xs = (m : ℕ) × AreInOrder n ts m xs

-- and the name has so many addresses
abbrev pub AreKnown : List Event → List Task → List Attempt → Type 0
AreKnown es ts xs = (n : ℕ) × (addresses_in es ≡ Some n) × AreOrdered n ts xs

ordered_still : (e : Event) (es : List Event) (ts : List Task) (xs : List Attempt) → AreKnown es ts xs
    → AreKnown (e ∷ es) ts xs
ordered_still e es ts xs h = (h.0, known_still h.0 e es h.1, h.2)

run_of : (es : List Event) (ts : List Task) (xs : List Attempt) → AreKnown es ts xs → IsRun es ts
run_of es ts xs h = (h.2.0, subst (IsWithin h.2.0) (sym h.1) h.2.1.most, h.2.1.run)

next_in_order : (n m j : ℕ) (ts : List Task) (xs : List Attempt) → AreInOrder n ts m xs → IsNext xs j → j < n
    → (j ≡ m → ⊥) → ⊥
next_in_order n m j ts xs h (inl waits) lt other = h.sockets j waits
next_in_order n m j ts xs h (inr first) lt other = elim (cases_lt j m) [
  | inl before ↦ h.begun j before first.0
  | inr past ↦ first.1 m (omega arith) (h.ahead m (omega arith) (omega arith))
]

next_number : (n m j : ℕ) (ts : List Task) (xs : List Attempt) → AreInOrder n ts m xs → IsNext xs j → j < n → j ≡ m
next_number n m j ts xs h next lt =
    elim (cases_eq j m) [ inl e ↦ e | inr other ↦ absurd (next_in_order n m j ts xs h next lt other) ]

begun_in_order : (n m j : ℕ) (ts : List Task) (xs : List Attempt) → j ≡ m → j < length xs → AreInOrder n ts m xs
    → AreInOrder n (ts ++ (Connect j ∷ [])) (suc m) (slice_set xs j Open)
begun_in_order n m j ts xs is lt h =
    let count = h.count in
    record {
      count = length-set xs j Open ∙ h.count;
      most = omega arith;
      run = begun_more ts (Connect j ∷ []) ∙ ap (λ l. l ++ j ∷ []) h.run
          ∙ ap (λ (k : ℕ). run_from 0 m ++ k ∷ []) is ∙ run_next m;
      sockets = λ k w.
          elim (state_after xs j k Open lt) [ inl s ↦ (let e = s.1 in cc) | inr s ↦ h.sockets k (sym s.1 ∙ w) ];
      begun = λ k less a. elim (state_after xs j k Open lt) [
        | inl s ↦ (let e = s.1 in cc)
        | inr s ↦ (let other = s.0 in h.begun k (omega arith) (sym s.1 ∙ a))
      ];
      ahead = λ k le less. elim (state_after xs j k Open lt) [
        | inl s ↦ absurd (let e = s.0 in omega arith)
        | inr s ↦ s.1 ∙ h.ahead k (omega arith) less
      ];
    }

pub ordered_begun : (n j : ℕ) (ts : List Task) (xs : List Attempt) → next_of xs ≡ Some j → AreOrdered n ts xs
    → AreOrdered n (ts ++ (Connect j ∷ [])) (slice_set xs j Open)
ordered_begun n j ts xs next h =
    let is = next_is xs j next in
    let lt = next_within xs j is in
    let count = h.1.count in
    (suc h.0, begun_in_order n h.0 j ts xs (next_number n h.0 j ts xs h.1 is (omega arith)) lt h.1)

not_ahead : (x : Attempt) → x ≡ Open → x ≡ Ahead → ⊥
not_ahead x o a = cc

failed_in_order : (n m j : ℕ) (ts : List Task) (xs : List Attempt) → is_open j xs ≡ true → AreInOrder n ts m xs
    → AreInOrder n ts m (slice_set xs j Failed)
failed_in_order n m j ts xs o h =
    let lt = open_within xs j o in
    record {
      count = length-set xs j Failed ∙ h.count;
      most = h.most;
      run = h.run;
      sockets = λ k w.
          elim (state_after xs j k Failed lt) [ inl s ↦ (let e = s.1 in cc) | inr s ↦ h.sockets k (sym s.1 ∙ w) ];
      begun = λ k less a. elim (state_after xs j k Failed lt) [
        | inl s ↦ (let e = s.1 in cc)
        | inr s ↦ h.begun k less (sym s.1 ∙ a)
      ];
      ahead = λ k le less. elim (state_after xs j k Failed lt) [
        | inl s ↦ absurd (not_ahead (state xs j) (open_is (state xs j) o) (ap (state xs) (sym s.0) ∙ h.ahead k le less))
        | inr s ↦ s.1 ∙ h.ahead k le less
      ];
    }

ordered_failed : (n j : ℕ) (ts : List Task) (xs : List Attempt) → is_open j xs ≡ true → AreOrdered n ts xs
    → AreOrdered n ts (slice_set xs j Failed)
ordered_failed n j ts xs o h = (h.0, failed_in_order n h.0 j ts xs o h.1)

-- ---- the start

first_waits : (n : ℕ) → state (slice_set (replicate n Ahead) 0 Open) 0 ≡ Waiting → ⊥
first_waits zero w = cc
first_waits (suc n) w = cc

first_sockets : (n k : ℕ) → state (slice_set (replicate n Ahead) 0 Open) k ≡ Waiting → ⊥
first_sockets n zero w = first_waits n w
first_sockets n (suc k) w = elim (cases_lt (suc k) n) [
  | inl lt ↦ (let a = first_states n (suc k) (omega arith) lt in cc)
  | inr past ↦
      let long = first_length n in
      let f = get_or_past (slice_set (replicate n Ahead) 0 Open) (suc k) Failed (omega arith) in
      cc
]

first_begun : (n k : ℕ) → k < 1 → state (slice_set (replicate n Ahead) 0 Open) k ≡ Ahead → ⊥
first_begun zero k less a = cc
first_begun (suc n) zero less a = cc
first_begun (suc n) (suc k) less a = omega arith

first_ordered : (n : ℕ) (ts : List Task) → 0 < n → begun_in ts ≡ []
    → AreOrdered n (ts ++ (Connect 0 ∷ [])) (slice_set (replicate n Ahead) 0 Open)
first_ordered n ts some none = (
  1,
  record {
    count = first_length n;
    most = omega arith;
    run = begun_more ts (Connect 0 ∷ []) ∙ ap (λ l. l ++ 0 ∷ []) none;
    sockets = λ k w. first_sockets n k w;
    begun = λ k less a. first_begun n k less a;
    ahead = λ k le less. first_states n k (omega arith) less;
  },
)

-- ---- every history

-- no attempt was without a socket
abbrev pub HadSockets : List Event → Type 0
HadSockets es = (k : ℕ) → WasTold (signals.NoSocket k) es → ⊥

abbrev pub IsInOrder : List Event → List Task → Bool → Stage → Type 0
IsInOrder es ts w NotChosen = HadSockets es → IsRun es ts
IsInOrder es ts w Resolving = IsUntried es ts
IsInOrder es ts w (Connecting a) = HadSockets es → AreKnown es ts a.states
IsInOrder es ts w (Talking t) = HadSockets es → IsRun es ts
IsInOrder es ts w (Over ending) = HadSockets es → IsRun es ts

sockets_before : (e : Event) (es : List Event) → HadSockets (e ∷ es) → HadSockets es
sockets_before e es h k told = h k (inr told)

passed_in_order : (e : Event) (es : List Event) (ts : List Task) (w v : Bool) (s : Stage) → IsQuiet e s
    → IsInOrder es ts w s → IsInOrder (e ∷ es) ts v s
passed_in_order e es ts w v NotChosen quiet h = λ had. run_still e es ts (h (sockets_before e es had))
passed_in_order e es ts w v Resolving quiet h = untried_still e es ts quiet h
passed_in_order e es ts w v (Connecting a) quiet h = λ had. ordered_still e es ts a.states (h (sockets_before e es had))
passed_in_order e es ts w v (Talking t) quiet h = λ had. run_still e es ts (h (sockets_before e es had))
passed_in_order e es ts w v (Over ending) quiet h = λ had. run_still e es ts (h (sockets_before e es had))

-- the attempts before a signal, after it
attempts_at : (e : Event) (es : List Event) (ts : List Task) (xs : List Attempt)
    → (HadSockets es → AreKnown es ts xs) → HadSockets (e ∷ es) → AreKnown (e ∷ es) ts xs
attempts_at e es ts xs h had = ordered_still e es ts xs (h (sockets_before e es had))

-- the attempts that a signal ends
ended_run : (e : Event) (es : List Event) (ts us : List Task) → begun_in us ≡ [] → IsRun es ts
    → IsRun (e ∷ es) (ts ++ us)
ended_run e es ts us none h = run_more (e ∷ es) ts us none (run_still e es ts h)

known_failed : (k : ℕ) (es : List Event) (ts : List Task) (xs : List Attempt) → is_open k xs ≡ true → AreKnown es ts xs
    → AreKnown es ts (slice_set xs k Failed)
known_failed k es ts xs o h = (h.0, h.1, ordered_failed h.0 k ts xs o h.2)

known_begun : (j : ℕ) (es : List Event) (ts : List Task) (xs : List Attempt) → next_of xs ≡ Some j → AreKnown es ts xs
    → AreKnown es (ts ++ (Connect j ∷ [])) (slice_set xs j Open)
known_begun j es ts xs next h = (h.0, h.1, ordered_begun h.0 j ts xs next h.2)

all_in_order : (limits : Limits) (start : ℕ) (wanted : Bool) → IsTraced limits start wanted IsInOrder
all_in_order limits start wanted = record {
  first = record { unknown = refl; none = refl };
  passing = λ e es ts w v s turn quiet h. passed_in_order e es ts w v s quiet h;
  resolved = λ at now n es ts w i h had. (
    suc n,
    known_now (event at (signals.Resolved (suc n))) es h.unknown,
    first_ordered (suc n) ts (omega arith) h.none,
  );
  unresolved = λ at es ts w h had. untried_run (event at (signals.Resolved 0) ∷ es) ts h.none;
  overdue = λ at es ts w late h had. untried_run (event at signals.Tick ∷ es) ts h.none;
  abandoned = λ at es ts w h had. untried_run (event at signals.GiveUp ∷ es) ts h.none;
  won = λ at now k es ts w a o h had.
      let e = event at (signals.Connected k) in
      ended_run e es ts (leaves (slice_set a.states k Failed) ++ reading w) (begun_won (slice_set a.states k Failed) w)
      (run_of es ts a.states (h (sockets_before e es had)));
  waiting = λ at now k es ts w a o h had. absurd (had k (inl refl));
  failed = λ at k es ts w a o next h had.
      let e = event at (signals.Unreachable k) in
      known_failed k (e ∷ es) ts a.states o (attempts_at e es ts a.states h had);
  replaced = λ at now k j es ts w a o next h had.
      let e = event at (signals.Unreachable k) in
      known_begun j (e ∷ es) ts (slice_set a.states k Failed) next
      (known_failed k (e ∷ es) ts a.states o (attempts_at e es ts a.states h had));
  unreached = λ at k es ts w a o all h had.
      let e = event at (signals.Unreachable k) in
      run_of (e ∷ es) ts a.states (attempts_at e es ts a.states h had);
  due = λ at now j es ts w a next h had.
      let e = event at signals.Tick in
      known_begun j (e ∷ es) ts a.states next (attempts_at e es ts a.states h had);
  late = λ at es ts w a late h had.
      let e = event at signals.Tick in
      ended_run e es ts (leaves a.states) (begun_leaves a.states)
      (run_of es ts a.states (h (sockets_before e es had)));
  given_up = λ at es ts w a h had.
      let e = event at signals.GiveUp in
      ended_run e es ts (leaves a.states) (begun_leaves a.states)
      (run_of es ts a.states (h (sockets_before e es had)));
  talked = λ e es ts w t u same h had. run_still e es ts (h (sockets_before e es had));
  read = λ at now es ts w t h had.
      let e = event at signals.Turn in ended_run e es ts (Read ∷ []) refl (h (sockets_before e es had));
  ended = λ e es ts w t ending other h had.
      ended_run e es ts (Leave t.socket ∷ []) refl (h (sockets_before e es had));
}

run_at : (es : List Event) (ts : List Task) (w : Bool) (s : Stage) → IsInOrder es ts w s → HadSockets es → IsRun es ts
run_at es ts w NotChosen h had = h had
run_at es ts w Resolving h had = untried_run es ts h.none
run_at es ts w (Connecting a) h had = run_of es ts a.states (h had)
run_at es ts w (Talking t) h had = h had
run_at es ts w (Over ending) h had = h had

-- if no attempt was without a socket, the addresses were tried in order, each once
pub in_order : (limits : Limits) (start : ℕ) (wanted : Bool) (es : List Event) → HadSockets es
    → IsRun es (tasks_till limits start wanted es)
in_order limits start wanted es had =
    run_at es (tasks_till limits start wanted es) (course_after limits true start wanted es).wanted
    (stage_after limits start wanted es)
    (always limits true start wanted IsInOrder
    (traced limits start wanted IsInOrder (all_in_order limits start wanted)) es)
    had
