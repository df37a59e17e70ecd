-- An address is tried only while the connection is connecting.
use Rattle.std.proofs.Common.{◌≡◌, inl, inr, ℕ, Bool, true, [], ◌∷◌, Contains, refl, subst, max, arith}
use Rattle.zoom_clock.specs.declared.action.Task.TheVariants.{Read}
use Rattle.zoom_clock.specs.declared.course.Course.{Course}
use Rattle.zoom_clock.specs.declared.limits.Limits.{Limits}
use Rattle.zoom_clock.specs.declared.signal.Ending.TheVariants as endings
use Rattle.zoom_clock.specs.declared.signal.Signal.{Signal}
use Rattle.zoom_clock.specs.declared.signal.Signal.TheVariants as signals
use Rattle.zoom_clock.specs.declared.signal.Condition.TheVariants as conditions
use Rattle.zoom_clock.specs.declared.stage.Stage.{Stage}
use Rattle.zoom_clock.specs.declared.stage.Stage.TheVariants.{NotChosen, Resolving, Connecting, Talking, Over}
use Rattle.zoom_clock.specs.declared.talk.Talk.{Talk}
use Rattle.zoom_clock.specs.Stages.{Ruling, ruling, staying, ending_talk, verdict, with_piece, is_used_up, going_on, talking_ruling}
use Rattle.zoom_clock.specs.Courses.{Event, is_idle, ruling_of, tasks_of}
use Rattle.zoom_clock.specs.Accounts.{begun_in}
use Rattle.zoom_clock.specs.Laws.{IsConnecting}
use Rattle.zoom_clock.proofs.Choices.{at_either}

-- it begins no attempt
abbrev BeginsNone : Ruling → Type 0
BeginsNone r = begun_in r.tasks ≡ []

going_begins_none : (u : Talk) → BeginsNone (going_on u)
going_begins_none u =
    at_either BeginsNone (is_used_up u.left) (ending_talk u (verdict u endings.Turns)) (staying (Talking u))
    (λ _. refl) (λ _. refl)

talk_begins_none : (now : ℕ) (w : Bool) (what : Signal) (t : Talk) → BeginsNone (talking_ruling now w what t)
talk_begins_none now w (signals.Octets conditions.Going) t = going_begins_none (with_piece now conditions.Going t)
talk_begins_none now w (signals.Octets conditions.Leaving) t = going_begins_none (with_piece now conditions.Leaving t)
talk_begins_none now w (signals.Octets conditions.Finished) t = refl
talk_begins_none now w signals.Taken t = refl
talk_begins_none now w signals.End t = refl
talk_begins_none now w signals.Unreadable t = refl
talk_begins_none now w signals.Unwritable t =
    at_either BeginsNone t.leaving (ending_talk t endings.InputEnded) (staying (Talking (record t {
      lost =
          true;
    }))) (λ _. refl) (λ _. refl)
talk_begins_none now w signals.GiveUp t = refl
talk_begins_none now w signals.Tick t = refl
talk_begins_none now w signals.Turn t =
    at_either BeginsNone w (staying (Talking t)) (record {
      stage =
          Talking (record t { heard = now });
      tasks = Read ∷ [];
    })
    (λ _. refl) (λ _. refl)
talk_begins_none now w (signals.Resolved n) t = refl
talk_begins_none now w (signals.Connected k) t = refl
talk_begins_none now w (signals.Unreachable k) t = refl
talk_begins_none now w (signals.NoSocket k) t = refl

none_contained : (k : ℕ) → Contains [] k → ⊥
none_contained k h = let lt = h.1 in omega arith

begins_while : (limits : Limits) (start now : ℕ) (w : Bool) (what : Signal) (s : Stage) (k : ℕ)
    → Contains (begun_in (ruling limits start now w what s).tasks) k → IsConnecting s
begins_while limits start now w what NotChosen k h = absurd (none_contained k h)
begins_while limits start now w what Resolving k h = inl refl
begins_while limits start now w what (Connecting a) k h = inr (a, refl)
begins_while limits start now w what (Talking t) k h =
    absurd (none_contained k (subst (λ l. Contains l k) (talk_begins_none now w what t) h))
begins_while limits start now w what (Over ending) k h = absurd (none_contained k h)

pub only_connecting : (p : Course) (e : Event) (k : ℕ) → Contains (begun_in (tasks_of e p)) k
    → IsConnecting p.stage
only_connecting p e k =
    at_either (λ ts. Contains (begun_in ts) k → IsConnecting p.stage)
    (is_idle e p) [] (ruling_of e p).tasks
    (λ _ h. absurd (none_contained k h))
    (λ _ h. begins_while p.limits p.start (max p.latest e.at) p.wanted e.what p.stage k h)
