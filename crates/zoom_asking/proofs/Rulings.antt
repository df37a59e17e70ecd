-- The stages that the rules of the clock lead to.
use Rattle.std.proofs.Common.{◌≡◌, ◌⊎◌, inl, inr, ℕ, zero, suc, ◌==◌, ◌||◌, nat_le, Bool, true, false, cond, List, [], ◌∷◌, Option, None, Some, refl, sym, ap, subst, ◌∙◌}
use Rattle.std.specs.List.{list_all}
use Rattle.zoom_clock.specs.declared.attempts.Attempts.{Attempts}
use Rattle.zoom_clock.specs.declared.course.Course.{Course}
use Rattle.zoom_clock.specs.declared.limits.Limits.{Limits}
use Rattle.zoom_clock.specs.declared.signal.Ending.{Ending}
use Rattle.zoom_clock.specs.declared.signal.Ending.TheVariants as endings
use Rattle.zoom_clock.specs.declared.signal.Signal.{Signal}
use Rattle.zoom_clock.specs.declared.signal.Signal.TheVariants as signals
use Rattle.zoom_clock.specs.declared.signal.Condition.TheVariants as conditions
use Rattle.zoom_clock.specs.declared.stage.Stage.{Stage}
use Rattle.zoom_clock.specs.declared.stage.Stage.TheVariants.{NotChosen, Resolving, Connecting, Talking, Over}
use Rattle.zoom_clock.specs.declared.talk.Talk.{Talk}
use Rattle.zoom_clock.specs.Attempts.{is_open, has_failed, next_of, with_failed}
use Rattle.zoom_clock.specs.Stages.{Ruling, staying, connect_end, beginning, beginning_next, giving_up, failing, winning, connecting_ruling, resolving_ruling, ruling, ending_talk, verdict, with_piece, is_used_up, going_on, listening, talking_ruling}
use Rattle.zoom_clock.specs.Courses.{Event, event, course_after, is_idle, is_settled, ruling_of, step, time_of, wanted_after}
use Rattle.zoom_clock.proofs.Choices.{at_either}

-- the course that the rules make of it
abbrev ruled : Event → Course → Course
ruled e p = record p { latest = time_of e p; wanted = wanted_after e.what p.wanted; stage = (ruling_of e p).stage }

-- The stage stays, or is that of the ruling.
pub stage_next : (e : Event) (p : Course) → ((step e p).stage ≡ p.stage) ⊎ ((step e p).stage ≡ (ruling_of e p).stage)
stage_next e p =
    at_either (λ (q : Course). (q.stage ≡ p.stage) ⊎ (q.stage ≡ (ruling_of e p).stage)) (is_idle e p) p (ruled e p)
    (λ _. inl refl) (λ _. inr refl)

-- ---- before it has connected

-- a connection that has not connected does not end by its input
abbrev pub IsEarly : Ending → Type 0
IsEarly endings.InputEnded = ⊥
IsEarly endings.Finished = ⊥
IsEarly _ = Unit {0}

abbrev pub FromConnecting : Stage → Type 0
FromConnecting NotChosen = ⊥
FromConnecting (Over ending) = IsEarly ending
FromConnecting _ = Unit {0}

beginning_leads : (now : ℕ) (next : Option ℕ) (a : Attempts) → FromConnecting (beginning now next a).stage
beginning_leads now None a = tt
beginning_leads now (Some k) a = tt

failing_leads : (now k : ℕ) (a : Attempts) → FromConnecting (failing now k a).stage
failing_leads now k a =
    at_either (λ (r : Ruling). FromConnecting r.stage) (list_all has_failed a.states) (staying (Over endings.Connect))
    (cond (k == a.last) (beginning_next now a) (staying (Connecting a))) (λ _. tt)
    (λ _.
    at_either (λ (r : Ruling). FromConnecting r.stage) (k == a.last) (beginning_next now a) (staying (Connecting a))
    (λ _. beginning_leads now (next_of a.states) a) (λ _. tt))

pub connecting_leads : (limits : Limits) (start now : ℕ) (wanted : Bool) (what : Signal) (a : Attempts)
    → FromConnecting (connecting_ruling limits start now wanted what a).stage
connecting_leads limits start now wanted (signals.Connected k) a =
    at_either (λ (r : Ruling). FromConnecting r.stage) (is_open k a.states) (winning limits now wanted k a)
    (staying (Connecting a)) (λ _. tt) (λ _. tt)
connecting_leads limits start now wanted (signals.Unreachable k) a =
    at_either (λ (r : Ruling). FromConnecting r.stage) (is_open k a.states) (failing now k (with_failed k a))
    (staying (Connecting a)) (λ _. failing_leads now k (with_failed k a)) (λ _. tt)
connecting_leads limits start now wanted (signals.NoSocket k) a = tt
connecting_leads limits start now wanted signals.GiveUp a = tt
connecting_leads limits start now wanted signals.Tick a =
    at_either (λ (r : Ruling). FromConnecting r.stage) (nat_le (connect_end limits start a.began) now)
    (giving_up endings.Connect a) (beginning_next now a) (λ _. tt) (λ _. beginning_leads now (next_of a.states) a)
connecting_leads limits start now wanted (signals.Resolved addresses) a = tt
connecting_leads limits start now wanted (signals.Octets condition) a = tt
connecting_leads limits start now wanted signals.Taken a = tt
connecting_leads limits start now wanted signals.End a = tt
connecting_leads limits start now wanted signals.Unreadable a = tt
connecting_leads limits start now wanted signals.Unwritable a = tt
connecting_leads limits start now wanted signals.Turn a = tt

pub resolving_leads : (now : ℕ) (what : Signal) → FromConnecting (resolving_ruling now what).stage
resolving_leads now (signals.Resolved zero) = tt
resolving_leads now (signals.Resolved (suc more)) = tt
resolving_leads now signals.GiveUp = tt
resolving_leads now signals.Tick = tt
resolving_leads now (signals.Connected k) = tt
resolving_leads now (signals.Unreachable k) = tt
resolving_leads now (signals.NoSocket k) = tt
resolving_leads now (signals.Octets condition) = tt
resolving_leads now signals.Taken = tt
resolving_leads now signals.End = tt
resolving_leads now signals.Unreadable = tt
resolving_leads now signals.Unwritable = tt
resolving_leads now signals.Turn = tt

-- ---- from talking

-- it ends by its messages only if octets were told to have ended it
abbrev pub IsEndBy : Signal → Ending → Type 0
IsEndBy what endings.Finished = what ≡ signals.Octets conditions.Finished
IsEndBy what _ = Unit {0}

abbrev pub FromTalking : Signal → Stage → Type 0
FromTalking what (Talking t) = Unit {0}
FromTalking what (Over ending) = IsEndBy what ending
FromTalking what _ = ⊥

verdict_leads : (what : Signal) (t : Talk) (ending : Ending) → IsEndBy what ending → IsEndBy what (verdict t ending)
verdict_leads what t ending by =
    at_either (IsEndBy what) t.leaving endings.InputEnded (cond t.lost endings.Write ending) (λ _. tt)
    (λ _. at_either (IsEndBy what) t.lost endings.Write ending (λ _. tt) (λ _. by))

going_leads : (what : Signal) (t : Talk) → FromTalking what (going_on t).stage
going_leads what t =
    at_either (λ (r : Ruling). FromTalking what r.stage) (is_used_up t.left) (ending_talk t (verdict t endings.Turns))
    (staying (Talking t)) (λ _. verdict_leads what t endings.Turns tt) (λ _. tt)

pub talking_leads : (now : ℕ) (wanted : Bool) (what : Signal) (t : Talk)
    → FromTalking what (talking_ruling now wanted what t).stage
talking_leads now wanted (signals.Octets conditions.Finished) t = refl
talking_leads now wanted (signals.Octets conditions.Going) t =
    going_leads (signals.Octets conditions.Going) (with_piece now conditions.Going t)
talking_leads now wanted (signals.Octets conditions.Leaving) t =
    going_leads (signals.Octets conditions.Leaving) (with_piece now conditions.Leaving t)
talking_leads now wanted signals.Taken t = tt
talking_leads now wanted signals.End t = verdict_leads signals.End t endings.InputEnded tt
talking_leads now wanted signals.Unreadable t = verdict_leads signals.Unreadable t endings.Read tt
talking_leads now wanted signals.Unwritable t =
    at_either (λ (r : Ruling). FromTalking signals.Unwritable r.stage) t.leaving (ending_talk t endings.InputEnded)
    (staying (Talking (record t { lost = true }))) (λ _. tt) (λ _. tt)
talking_leads now wanted signals.GiveUp t = verdict_leads signals.GiveUp t endings.Turns tt
talking_leads now wanted signals.Tick t = verdict_leads signals.Tick t endings.Read tt
talking_leads now wanted signals.Turn t =
    elim wanted as (λ b. FromTalking signals.Turn (listening now b t).stage) [ true ↦ tt | false ↦ tt ]
talking_leads now wanted (signals.Resolved addresses) t = tt
talking_leads now wanted (signals.Connected k) t = tt
talking_leads now wanted (signals.Unreachable k) t = tt
talking_leads now wanted (signals.NoSocket k) t = tt

-- ---- a connection that is chosen

abbrev pub IsChosen : Stage → Type 0
IsChosen NotChosen = ⊥
IsChosen _ = Unit {0}

from_connecting : (stage : Stage) → FromConnecting stage → IsChosen stage
from_connecting NotChosen from = from
from_connecting Resolving from = tt
from_connecting (Connecting a) from = tt
from_connecting (Talking t) from = tt
from_connecting (Over ending) from = tt

from_talking : (what : Signal) (stage : Stage) → FromTalking what stage → IsChosen stage
from_talking what NotChosen from = from
from_talking what Resolving from = tt
from_talking what (Connecting a) from = tt
from_talking what (Talking t) from = tt
from_talking what (Over ending) from = tt

ruling_chosen : (limits : Limits) (start now : ℕ) (wanted : Bool) (what : Signal) (stage : Stage) → IsChosen stage
    → IsChosen (ruling limits start now wanted what stage).stage
ruling_chosen limits start now wanted what NotChosen chosen = chosen
ruling_chosen limits start now wanted what Resolving chosen =
    from_connecting (resolving_ruling now what).stage (resolving_leads now what)
ruling_chosen limits start now wanted what (Connecting a) chosen =
    from_connecting (connecting_ruling limits start now wanted what a).stage
    (connecting_leads limits start now wanted what a)
ruling_chosen limits start now wanted what (Talking t) chosen =
    from_talking what (talking_ruling now wanted what t).stage (talking_leads now wanted what t)
ruling_chosen limits start now wanted what (Over ending) chosen = tt

step_chosen : (e : Event) (p : Course) → IsChosen p.stage → IsChosen (step e p).stage
step_chosen e p chosen = elim (stage_next e p) [
  | inl same ↦ subst IsChosen (sym same) chosen
  | inr is ↦ subst IsChosen (sym is) (ruling_chosen p.limits p.start (time_of e p) p.wanted e.what p.stage chosen)
]

-- No history leads it back to where it is not chosen.
pub chosen_after : (limits : Limits) (start : ℕ) (wanted : Bool) (es : List Event)
    → IsChosen (course_after limits true start wanted es).stage
chosen_after limits start wanted [] = tt
chosen_after limits start wanted (e ∷ es) =
    step_chosen e (course_after limits true start wanted es) (chosen_after limits start wanted es)

-- ---- a connection that is settled

-- Nothing changes it.
pub settled_stays : (e : Event) (p : Course) → is_settled p.stage ≡ true → is_settled (step e p).stage ≡ true
settled_stays e p settled = elim (stage_next e p) [
  | inl same ↦ ap is_settled same ∙ settled
  | inr is ↦ ap is_settled is ∙ by p.stage settled
]
  where
    by : (stage : Stage) → is_settled stage ≡ true
        → is_settled (ruling p.limits p.start (time_of e p) p.wanted e.what stage).stage ≡ true
    by NotChosen is = refl
    by Resolving is = absurd cc
    by (Connecting a) is = absurd cc
    by (Talking t) is = absurd cc
    by (Over ending) is = refl

-- One that is given up is settled.
giving_up_settles : (limits : Limits) (start now : ℕ) (wanted : Bool) (stage : Stage)
    → is_settled (ruling limits start now wanted signals.GiveUp stage).stage ≡ true
giving_up_settles limits start now wanted NotChosen = refl
giving_up_settles limits start now wanted Resolving = refl
giving_up_settles limits start now wanted (Connecting a) = refl
giving_up_settles limits start now wanted (Talking t) = refl
giving_up_settles limits start now wanted (Over ending) = refl

or_false : (b : Bool) → (b || false) ≡ true → b ≡ true
or_false true is = refl
or_false false is = is

pub given_up_settles : (at : ℕ) (p : Course) → is_settled (step (event at signals.GiveUp) p).stage ≡ true
given_up_settles at p =
    let e = event at signals.GiveUp in
    at_either (λ (q : Course). is_settled q.stage ≡ true) (is_idle e p) p (ruled e p)
    (λ idle. or_false (is_settled p.stage) idle)
    (λ _. giving_up_settles p.limits p.start (time_of e p) p.wanted p.stage)
