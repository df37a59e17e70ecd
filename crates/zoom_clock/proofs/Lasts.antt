-- The attempt that was begun last has not failed while an address was not tried.
use Rattle.std.proofs.Common.{◌≡◌, inl, inr, ℕ, suc, ◌==◌, Bool, true, false, List, ◌∷◌, slice_set, position, is_some, None, Some, refl, sym, ap, ◌∙◌}
use Rattle.zoom_clock.specs.declared.action.Task.{Task}
use Rattle.zoom_clock.specs.declared.attempt.Attempt.{Attempt}
use Rattle.zoom_clock.specs.declared.attempt.Attempt.TheVariants.{Ahead, Open, Waiting, Failed}
use Rattle.zoom_clock.specs.declared.attempts.Attempts.{Attempts}
use Rattle.zoom_clock.specs.declared.limits.Limits.{Limits}
use Rattle.zoom_clock.specs.declared.stage.Stage.{Stage}
use Rattle.zoom_clock.specs.declared.stage.Stage.TheVariants.{NotChosen, Resolving, Connecting, Talking, Over}
use Rattle.zoom_clock.specs.Attempts.{is_ahead, has_failed, next_of, first_attempts, with_begun, with_failed, with_waiting}
use Rattle.zoom_clock.specs.Courses.{Event}
use Rattle.zoom_clock.specs.Laws.{stage_after}
use Rattle.zoom_clock.proofs.Choices.{other_number}
use Rattle.zoom_clock.proofs.Histories.{always_at}
use Rattle.zoom_clock.proofs.States.{state, state_set, state_after, next_is, next_within, next_none, some_ahead}
use Rattle.zoom_clock.proofs.Traces.{IsTraced, traced}

-- while an attempt was not begun, the last that was has not failed
abbrev pub IsLastLive : Attempts → Type 0
IsLastLive a = (k : ℕ) → state a.states k ≡ Ahead → has_failed (state a.states a.last) ≡ false

abbrev pub IsLive : List Event → List Task → Bool → Stage → Type 0
IsLive es ts w NotChosen = Unit {0}
IsLive es ts w Resolving = Unit {0}
IsLive es ts w (Connecting a) = IsLastLive a
IsLive es ts w (Talking t) = Unit {0}
IsLive es ts w (Over ending) = Unit {0}

passing_live : (e : Event) (es : List Event) (ts : List Task) (w v : Bool) (s : Stage) → IsLive es ts w s
    → IsLive (e ∷ es) ts v s
passing_live e es ts w v NotChosen h = tt
passing_live e es ts w v Resolving h = tt
passing_live e es ts w v (Connecting a) h = h
passing_live e es ts w v (Talking t) h = tt
passing_live e es ts w v (Over ending) h = tt

-- an attempt was not begun that was not before
ahead_before : (xs : List Attempt) (j k : ℕ) (v : Attempt) → (v ≡ Ahead → ⊥) → state (slice_set xs j v) k ≡ Ahead
    → state xs k ≡ Ahead
ahead_before xs j k v other h =
    elim (state_set xs j k v) [ inl e ↦ absurd (other (sym e.1 ∙ h)) | inr same ↦ sym same ∙ h ]

waiting_live : (now k : ℕ) (a : Attempts) → IsLastLive a → IsLastLive (with_waiting now k a)
waiting_live now k a h i ahead = elim (state_set a.states k a.last Waiting) [
  | inl e ↦ ap has_failed e.1
  | inr same ↦ ap has_failed same ∙ h i (ahead_before a.states k i Waiting (λ e. cc) ahead)
]

begun_live : (now j : ℕ) (a : Attempts) → next_of a.states ≡ Some j → IsLastLive (with_begun now j a)
begun_live now j a next i ahead =
    elim (state_after a.states j j Open (next_within a.states j (next_is a.states j next))) [
      | inl e ↦ ap has_failed e.1
      | inr e ↦ absurd (e.0 refl)
    ]

failed_by : (b : Bool) (k : ℕ) (a : Attempts) → (k == a.last) ≡ b → (b ≡ true → next_of (with_failed k a).states ≡ None)
    → IsLastLive a → IsLastLive (with_failed k a)
failed_by true k a e next h i ahead = absurd (next_none (with_failed k a).states (next refl) i ahead)
failed_by false k a e next h i ahead = elim (state_set a.states k a.last Failed) [
  | inl is ↦ absurd (other_number k a.last e (sym is.0))
  | inr same ↦ ap has_failed same ∙ h i (ahead_before a.states k i Failed (λ x. cc) ahead)
]

-- the first attempt is open
first_live : (n now : ℕ) → IsLastLive (first_attempts (suc n) now)
first_live n now k ahead = refl

all_live : (limits : Limits) (start : ℕ) (wanted : Bool) → IsTraced limits start wanted IsLive
all_live limits start wanted = record {
  first = tt;
  passing = λ e es ts w v s turn quiet h. passing_live e es ts w v s h;
  resolved = λ at now n es ts w i h. first_live n now;
  unresolved = λ at es ts w h. tt;
  overdue = λ at es ts w late h. tt;
  abandoned = λ at es ts w h. tt;
  won = λ at now k es ts w a o h. tt;
  waiting = λ at now k es ts w a o h. waiting_live now k a h;
  failed = λ at k es ts w a o next h. failed_by (k == a.last) k a refl next h;
  replaced = λ at now k j es ts w a o next h. begun_live now j (with_failed k a) next;
  unreached = λ at k es ts w a o all h. tt;
  due = λ at now j es ts w a next h. begun_live now j a next;
  late = λ at es ts w a late h. tt;
  given_up = λ at es ts w a h. tt;
  talked = λ e es ts w t u same h. tt;
  read = λ at now es ts w t h. tt;
  ended = λ e es ts w t ending other h. tt;
}

pub live_at : (limits : Limits) (start : ℕ) (wanted : Bool) (es : List Event) (a : Attempts)
    → stage_after limits start wanted es ≡ Connecting a → is_some (position is_ahead a.states) ≡ true
    → has_failed (state a.states a.last) ≡ false
live_at limits start wanted es a h next =
    let ahead = some_ahead a.states next in
    always_at limits true start wanted IsLive
    (traced limits start wanted IsLive (all_live limits start wanted)) es (Connecting a) h ahead.0 ahead.1
