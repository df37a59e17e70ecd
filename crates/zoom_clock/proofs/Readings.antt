-- Octets are wanted only once the turn of a connection has come.
use Rattle.std.proofs.Common.{◌≡◌, ◌⊎◌, inl, inr, ℕ, zero, suc, ◌<◌, Bool, true, false, List, [], ◌∷◌, ◌++◌, map, length, slice_index_or, slice_set, Contains, refl, arith}
use Rattle.std.proofs.lemmas.List.Elements.{Contains-append_cases}
use Rattle.zoom_clock.specs.declared.action.Task.{Task}
use Rattle.zoom_clock.specs.declared.action.Task.TheVariants.{Connect, Read, Leave}
use Rattle.zoom_clock.specs.declared.attempt.Attempt.{Attempt}
use Rattle.zoom_clock.specs.declared.attempt.Attempt.TheVariants.{Failed}
use Rattle.zoom_clock.specs.declared.limits.Limits.{Limits}
use Rattle.zoom_clock.specs.declared.signal.Ending.TheVariants as endings
use Rattle.zoom_clock.specs.declared.signal.Signal.TheVariants as signals
use Rattle.zoom_clock.specs.declared.stage.Stage.{Stage}
use Rattle.zoom_clock.specs.declared.stage.Stage.TheVariants.{Resolving, Connecting, Talking, Over}
use Rattle.zoom_clock.specs.Attempts.{leaves, open_from, first_attempts, with_begun, with_failed, with_waiting}
use Rattle.zoom_clock.specs.Stages.{first_talk, reading}
use Rattle.zoom_clock.specs.Courses.{Event, event}
use Rattle.zoom_clock.specs.Accounts.{WasTold}
use Rattle.zoom_clock.specs.Laws.{tasks_till}
use Rattle.zoom_clock.proofs.Histories.{always}
use Rattle.zoom_clock.proofs.Traces.{IsTurn, IsTraced, traced}

-- ---- the tasks of which none is to read

one_at : (x y : Task) (k : ℕ) → k < 1 → slice_index_or (x ∷ []) k y ≡ y → x ≡ y
one_at x y zero lt h = h
one_at x y (suc k) lt h = absurd (omega arith)

pub one_task : (x y : Task) → Contains (x ∷ []) y → x ≡ y
one_task x y h = one_at x y h.0 h.1 h.2

none_at : (x : Task) (k : ℕ) → k < 0 → ⊥
none_at x k lt = omega arith

leaves_at : (ys : List ℕ) (k : ℕ) → k < length (map Leave ys) → slice_index_or (map Leave ys) k Read ≡ Read → ⊥
leaves_at [] k lt h = omega arith
leaves_at (y ∷ ys) zero lt h = cc
leaves_at (y ∷ ys) (suc k) lt h = leaves_at ys k (omega arith) h

no_read_left : (xs : List Attempt) → Contains (leaves xs) Read → ⊥
no_read_left xs h = leaves_at (open_from 0 xs) h.0 h.1 h.2

read_wanted : (w : Bool) → Contains (reading w) Read → w ≡ true
read_wanted true h = refl
read_wanted false h = absurd (none_at Read h.0 h.1)

-- ---- what was told

-- the turn of the connection has come
abbrev pub HasTurn : Bool → List Event → Type 0
HasTurn wanted es = (wanted ≡ true) ⊎ WasTold signals.Turn es

pub record IsReading (wanted : Bool) (es : List Event) (ts : List Task) (w : Bool) (s : Stage) : Type 0 where
  pub asked : w ≡ true → HasTurn wanted es
  pub read : Contains ts Read → HasTurn wanted es

turn_still : (wanted : Bool) (e : Event) (es : List Event) → HasTurn wanted es → HasTurn wanted (e ∷ es)
turn_still wanted e es (inl h) = inl h
turn_still wanted e es (inr h) = inr (inr h)

turned : (wanted : Bool) (e : Event) (es : List Event) (w v : Bool) → IsTurn e w v → (w ≡ true → HasTurn wanted es)
    → v ≡ true → HasTurn wanted (e ∷ es)
turned wanted e es w v turn h is =
    elim (turn is) [ inl was ↦ turn_still wanted e es (h was) | inr told ↦ inr (inl told) ]

reading_still : (wanted : Bool) (e : Event) (es : List Event) (ts : List Task) (w v : Bool) (s q : Stage) → IsTurn e w v
    → IsReading wanted es ts w s → IsReading wanted (e ∷ es) ts v q
reading_still wanted e es ts w v s q turn h = record {
  asked = turned wanted e es w v turn h.asked;
  read = λ r. turn_still wanted e es (h.read r);
}

-- tasks are added, to read only if octets are wanted
reading_more : (wanted : Bool) (es : List Event) (ts us : List Task) (w : Bool) (s : Stage)
    → (Contains us Read → w ≡ true) → IsReading wanted es ts w s → IsReading wanted es (ts ++ us) w s
reading_more wanted es ts us w s only h = record {
  asked = h.asked;
  read = λ r. elim (Contains-append_cases ts us Read r) [ inl old ↦ h.read old | inr new ↦ h.asked (only new) ];
}

reading_next : (wanted : Bool) (e : Event) (es : List Event) (ts us : List Task) (w v : Bool) (s q : Stage)
    → IsTurn e w v
    → (Contains us Read → v ≡ true) → IsReading wanted es ts w s → IsReading wanted (e ∷ es) (ts ++ us) v q
reading_next wanted e es ts us w v s q turn only h =
    reading_more wanted (e ∷ es) ts us v q only (reading_still wanted e es ts w v s q turn h)

begins_only : (j : ℕ) (w : Bool) → Contains (Connect j ∷ []) Read → w ≡ true
begins_only j w r = let e = one_task (Connect j) Read r in cc

left_only : (k : ℕ) (w : Bool) → Contains (Leave k ∷ []) Read → w ≡ true
left_only k w r = let e = one_task (Leave k) Read r in cc

leaves_only : (xs : List Attempt) (w : Bool) → Contains (leaves xs) Read → w ≡ true
leaves_only xs w r = absurd (no_read_left xs r)

won_only : (xs : List Attempt) (w : Bool) → Contains (leaves xs ++ reading w) Read → w ≡ true
won_only xs w r =
    elim (Contains-append_cases (leaves xs) (reading w) Read r) [ inl l ↦ leaves_only xs w l | inr q ↦ read_wanted w q ]

all_reading : (limits : Limits) (start : ℕ) (wanted : Bool) → IsTraced limits start wanted (IsReading wanted)
all_reading limits start wanted = record {
  first = record { asked = λ h. inl h; read = λ r. absurd (none_at Read r.0 r.1) };
  passing = λ e es ts w v s turn quiet h. reading_still wanted e es ts w v s s turn h;
  resolved = λ at now n es ts w i h.
      reading_next wanted (event at (signals.Resolved (suc n))) es ts (Connect 0 ∷ []) w w Resolving
      (Connecting (first_attempts (suc n) now)) (λ x. inl x) (begins_only 0 w) h;
  unresolved = λ at es ts w h. reading_still wanted (event at (signals.Resolved 0)) es ts w w Resolving
      (Over endings.Connect) (λ x. inl x) h;
  overdue = λ at es ts w late h. reading_still wanted (event at signals.Tick) es ts w w Resolving
      (Over endings.Connect) (λ x. inl x) h;
  abandoned = λ at es ts w h. reading_still wanted (event at signals.GiveUp) es ts w w Resolving
      (Over endings.Turns) (λ x. inl x) h;
  won = λ at now k es ts w a o h. reading_next wanted (event at (signals.Connected k)) es ts
      (leaves (slice_set a.states k Failed) ++ reading w) w w (Connecting a) (Talking (first_talk limits now k))
      (λ x. inl x) (won_only (slice_set a.states k Failed) w) h;
  waiting = λ at now k es ts w a o h. reading_still wanted (event at (signals.NoSocket k)) es ts w w (Connecting a)
      (Connecting (with_waiting now k a)) (λ x. inl x) h;
  failed = λ at k es ts w a o next h. reading_still wanted (event at (signals.Unreachable k)) es ts w w (Connecting a)
      (Connecting (with_failed k a)) (λ x. inl x) h;
  replaced = λ at now k j es ts w a o next h.
      reading_next wanted (event at (signals.Unreachable k)) es ts (Connect j ∷ []) w w
      (Connecting a) (Connecting (with_begun now j (with_failed k a))) (λ x. inl x) (begins_only j w) h;
  unreached = λ at k es ts w a o all h. reading_still wanted (event at (signals.Unreachable k)) es ts w w (Connecting a)
      (Over endings.Connect) (λ x. inl x) h;
  due = λ at now j es ts w a next h.
      reading_next wanted (event at signals.Tick) es ts (Connect j ∷ []) w w (Connecting a)
      (Connecting (with_begun now j a)) (λ x. inl x) (begins_only j w) h;
  late = λ at es ts w a late h. reading_next wanted (event at signals.Tick) es ts (leaves a.states) w w (Connecting a)
      (Over endings.Connect) (λ x. inl x) (leaves_only a.states w) h;
  given_up = λ at es ts w a h. reading_next wanted (event at signals.GiveUp) es ts (leaves a.states) w w (Connecting a)
      (Over endings.Turns) (λ x. inl x) (leaves_only a.states w) h;
  talked = λ e es ts w t u same h. reading_still wanted e es ts w w (Talking t) (Talking u) (λ x. inl x) h;
  read = λ at now es ts w t h. reading_next wanted (event at signals.Turn) es ts (Read ∷ []) w true (Talking t)
      (Talking (record t { heard = now })) (λ _. inr refl) (λ _. refl) h;
  ended = λ e es ts w t ending other h. reading_next wanted e es ts (Leave t.socket ∷ []) w w (Talking t)
      (Over ending) (λ x. inl x) (left_only t.socket w) h;
}

pub reads_after : (limits : Limits) (start : ℕ) (wanted : Bool) (es : List Event)
    → Contains (tasks_till limits start wanted es) Read → (wanted ≡ true) ⊎ WasTold signals.Turn es
reads_after limits start wanted es r =
    (always limits true start wanted (IsReading wanted)
    (traced limits start wanted (IsReading wanted) (all_reading limits start wanted)) es).read
    r
