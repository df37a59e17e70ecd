-- The tasks for one connection, in a queue of actions for all.
use Rattle.std.proofs.Common.{◌≡◌, ℕ, ◌==◌, Bool, true, false, cond, List, [], ◌∷◌, ◌++◌, map, refl, sym, ap, ◌∙◌, inl, inr}
use Rattle.std.proofs.lemmas.Bool.Decides.{eqb_tells}
use Rattle.std.specs.Prelude.{filter}
use Rattle.zoom_clock.specs.declared.action.Action.{Action}
use Rattle.zoom_clock.specs.declared.action.Task.{Task}
use Rattle.zoom_clock.specs.Actions.{for_connection, all_for}
use Rattle.zoom_asking.specs.Askings.{tasks_for}

pub same_number : (c : ℕ) → (c == c) ≡ true
same_number c = elim (eqb_tells c c) [ inl e ↦ e.0 | inr e ↦ absurd (e.1 refl) ]

pub not_same : (c d : ℕ) → (c ≡ d → ⊥) → (c == d) ≡ false
not_same c d n = elim (eqb_tells c d) [ inl e ↦ absurd (n e.1) | inr e ↦ e.0 ]

tasks_one : (c : ℕ) (x : Action) (xs : List Action)
    → tasks_for c (x ∷ xs) ≡ cond (x.c == c) (x.task ∷ tasks_for c xs) (tasks_for c xs)
tasks_one c x xs = by (x.c == c)
  where
    by : (b : Bool)
        → map (λ (y : Action). y.task)
        (cond b (x ∷ filter (λ (y : Action). y.c == c) xs) (filter (λ (y : Action). y.c == c) xs))
        ≡ cond b (x.task ∷ tasks_for c xs) (tasks_for c xs)
    by true = refl
    by false = refl

pub tasks_append : (c : ℕ) (xs ys : List Action) → tasks_for c (xs ++ ys) ≡ tasks_for c xs ++ tasks_for c ys
tasks_append c [] ys = refl
tasks_append c (x ∷ xs) ys =
    tasks_one c x (xs ++ ys) ∙ ap (λ l. cond (x.c == c) (x.task ∷ l) l) (tasks_append c xs ys)
    ∙ by (x.c == c) ∙ ap (λ l. l ++ tasks_for c ys) (sym (tasks_one c x xs))
  where
    by : (b : Bool) → cond b (x.task ∷ (tasks_for c xs ++ tasks_for c ys)) (tasks_for c xs ++ tasks_for c ys)
        ≡ cond b (x.task ∷ tasks_for c xs) (tasks_for c xs) ++ tasks_for c ys
    by true = refl
    by false = refl

pub tasks_same : (c : ℕ) (ts : List Task) → tasks_for c (all_for c ts) ≡ ts
tasks_same c [] = refl
tasks_same c (t ∷ ts) =
    tasks_one c (for_connection c t) (all_for c ts)
    ∙ ap (λ b. cond b (t ∷ tasks_for c (all_for c ts)) (tasks_for c (all_for c ts))) (same_number c)
    ∙ ap (λ l. t ∷ l) (tasks_same c ts)

pub tasks_other : (c d : ℕ) (ts : List Task) → (d ≡ c → ⊥) → tasks_for c (all_for d ts) ≡ []
tasks_other c d [] n = refl
tasks_other c d (t ∷ ts) n =
    tasks_one c (for_connection d t) (all_for d ts)
    ∙ ap (λ b. cond b (t ∷ tasks_for c (all_for d ts)) (tasks_for c (all_for d ts))) (not_same d c n)
    ∙ tasks_other c d ts n
