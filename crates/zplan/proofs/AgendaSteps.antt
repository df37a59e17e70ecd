-- The laws of agendas at any step above 0.
use Rattle.std.proofs.Common.{◌≡◌, ℕ, zero, suc, ◌-◌, ◌<◌, Bool, true, false, List, [], ◌∷◌, None, Some, subst, arith}
use Rattle.zplan.specs.Positions.{up_to, IsIn, IsWanted}
use Rattle.zplan.specs.Plan.{Init, Search, Present, InitReply, SearchReply, PresentReply, PlanEvent, RequestSent, ReplyAccepted, CloseSent, replies_in, asked_in, IsDriven, outstanding_in, IsNextEvent}
use Rattle.zplan.specs.Cutting.{deal}
use Rattle.zplan.specs.Agenda.{Agenda, IsAgenda, SameAgenda, AfterNoteSent, AfterNoteAnswered, whole_agenda}
use Rattle.zplan.specs.Laws.{no_agenda}
use Rattle.zplan.proofs.Agendas.{idle, starts, sends, receives, stays, head_next, none_next}

pub idle_at : (wanted : List ℕ) (step : ℕ) (three : Bool) (events : List PlanEvent) → IsWanted wanted → 0 < step → IsDriven wanted step events
    → ((count : ℕ) → replies_in events Search ≡ Some (SearchReply (Some count)) → ⊥) → IsAgenda wanted step events (no_agenda three)
idle_at wanted zero three events w pos d = absurd (omega arith)
idle_at wanted (suc last) three events w pos d = idle wanted last w three events d

pub starts_at : (wanted : List ℕ) (step : ℕ) (three : Bool) (events : List PlanEvent) (count : ℕ) → IsWanted wanted → 0 < step
    → IsDriven wanted step events → IsIn Search (asked_in events) → replies_in events Search ≡ None → replies_in events Init ≡ Some (InitReply true three)
    → IsAgenda wanted step (ReplyAccepted Search (SearchReply (Some count)) ∷ events) (whole_agenda three step (up_to count wanted))
starts_at wanted zero three events count w pos d s none o = absurd (omega arith)
starts_at wanted (suc last) three events count w pos d s none o =
    subst (λ m. IsAgenda wanted (suc last) (ReplyAccepted Search (SearchReply (Some count)) ∷ events) (record { due = deal three m m (up_to count wanted); waiting = []; ready = false; three = three }))
    (let e : last ≡ suc last - 1 = omega arith in e) (starts wanted last w three events count d s none o)

pub sends_at : (wanted : List ℕ) (step : ℕ) (events : List PlanEvent) (a b : Agenda) → IsWanted wanted → 0 < step → IsDriven wanted step events
    → IsAgenda wanted step events a → (s : AfterNoteSent a b) → IsAgenda wanted step (RequestSent (Present s.list) ∷ events) b
sends_at wanted zero events a b w pos d h s = absurd (omega arith)
sends_at wanted (suc last) events a b w pos d h s = sends wanted last w events a b d h s

pub receives_at : (wanted : List ℕ) (step : ℕ) (events : List PlanEvent) (p k : ℕ) (a b : Agenda) → IsWanted wanted → 0 < step → IsDriven wanted step events
    → IsAgenda wanted step events a → (s : AfterNoteAnswered p k a b) → IsAgenda wanted step (ReplyAccepted (Present s.list) (PresentReply k) ∷ events) b
receives_at wanted zero events p k a b w pos d h s = absurd (omega arith)
receives_at wanted (suc last) events p k a b w pos d h s = receives wanted last w events p k a b d h s

pub stays_at : (wanted : List ℕ) (step : ℕ) (events : List PlanEvent) (a b : Agenda) → IsWanted wanted → 0 < step
    → IsAgenda wanted step events a → SameAgenda a b → IsAgenda wanted step events b
stays_at wanted zero events a b w pos h s = absurd (omega arith)
stays_at wanted (suc last) events a b w pos h s = stays wanted last w events a b h s

pub asks_at : (wanted : List ℕ) (step window : ℕ) (events : List PlanEvent) (a : Agenda) (l : List ℕ) (ls : List (List ℕ)) → IsWanted wanted → 0 < step
    → IsDriven wanted step events → IsAgenda wanted step events a → a.due ≡ l ∷ ls → outstanding_in events < window → IsNextEvent wanted step window events (RequestSent (Present l))
asks_at wanted zero window events a l ls w pos d h e room = absurd (omega arith)
asks_at wanted (suc last) window events a l ls w pos d h e room = head_next wanted last w window events a l ls d h e room

pub closes_at : (wanted : List ℕ) (step window : ℕ) (events : List PlanEvent) (a : Agenda) → IsWanted wanted → 0 < step
    → IsAgenda wanted step events a → a.due ≡ [] → IsIn Init (asked_in events) → IsIn Search (asked_in events) → outstanding_in events ≡ 0
    → IsNextEvent wanted step window events CloseSent
closes_at wanted zero window events a w pos h e i j none = absurd (omega arith)
closes_at wanted (suc last) window events a w pos h e i j none = none_next wanted last w window events a h e i j none
