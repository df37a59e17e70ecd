-- Laws of the plan. They hold whatever the order in which replies come.
use Rattle.std.specs.Prelude.{◌≡◌, ◌⊎◌, ℕ, ◌+◌, ◌<◌, ◌≤◌, Bool, true, false, List, [], ◌∷◌, length, None, Some, pos}
use Rattle.zplan.specs.declared.range.Range.{Range}
use Rattle.zplan.specs.Positions.{IsIn, IsWanted, up_to, cut_of}
use Rattle.zplan.specs.Ranges.{positions}
use Rattle.zplan.specs.Plan.{Operation, Init, Search, Present, Reply, InitReply, SearchReply, PresentReply, Replies, number, IsPlanned, IsMadeDue, PlanEvent, RequestSent, ReplyAccepted, CloseSent, replies_in, asked_in, firsts, count_in, IsDriven, IsComplete, HasRecordsForEach, IsShownPosition, AreCompatible, IsRunList, outstanding_in, IsNextEvent}
use Rattle.zplan.specs.Cutting.{deal}
use Rattle.zplan.specs.Agenda.{Agenda, IsAgenda, SameAgenda, AfterNoteSent, AfterNoteAnswered, whole_agenda}

-- in a complete history, the operations that were answered are exactly those that are planned
pub record CompleteLaws : Type 0 where
  pub only : (wanted : List ℕ) (step : ℕ) (events : List PlanEvent) → IsComplete wanted step events
      → (a : Operation) (r : Reply) → replies_in events a ≡ Some r → IsPlanned wanted step (replies_in events) a
  pub all : (wanted : List ℕ) (step : ℕ) (events : List PlanEvent) → IsComplete wanted step events
      → (a : Operation) → IsPlanned wanted step (replies_in events) a → (r : Reply) × (replies_in events a ≡ Some r)

-- two complete histories whose equal operations had equal replies have the same answered operations
abbrev pub ReplyOrderLaw : Type 0
ReplyOrderLaw =
    (wanted : List ℕ) (step : ℕ) (one other : List PlanEvent)
    → IsComplete wanted step one → IsComplete wanted step other
    → AreCompatible (replies_in one) (replies_in other)
    → (a : Operation) (r : Reply) → replies_in one a ≡ Some r → replies_in other a ≡ Some r

-- two planned operations with one number are equal
abbrev pub NumberLaw : Type 0
NumberLaw =
    (wanted : List ℕ) (step : ℕ) (replies : Replies) → IsWanted wanted → 0 < step → (a b : Operation)
    → IsPlanned wanted step replies a → IsPlanned wanted step replies b → number a ≡ number b → a ≡ b

-- without version 3, a planned list is one run
abbrev pub PresentRunLaw : Type 0
PresentRunLaw =
    (wanted : List ℕ) (step : ℕ) (replies : Replies) → replies Init ≡ Some (InitReply true false) → (l : List ℕ)
    → IsPlanned wanted step replies (Present l) → IsRunList l

-- after a reply to an operation that was sent and not answered, the operations planned are those before and those that
-- the reply makes due
pub record ReplyLaws : Type 0 where
  pub only : (wanted : List ℕ) (step : ℕ) (events : List PlanEvent) → IsDriven wanted step events
      → (a : Operation) (r : Reply) → IsIn a (asked_in events) → replies_in events a ≡ None → (b : Operation)
      → IsPlanned wanted step (replies_in (ReplyAccepted a r ∷ events)) b
      → IsPlanned wanted step (replies_in events) b ⊎ IsMadeDue wanted step (replies_in events) a r b
  pub all : (wanted : List ℕ) (step : ℕ) (events : List PlanEvent) → IsDriven wanted step events
      → (a : Operation) (r : Reply) → IsIn a (asked_in events) → replies_in events a ≡ None → (b : Operation)
      → IsMadeDue wanted step (replies_in events) a r b
      → IsPlanned wanted step (replies_in (ReplyAccepted a r ∷ events)) b

-- the positions shown are exactly the wanted ones up to the count, if each Present is answered with records
pub record ShownLaws : Type 0 where
  pub all : (wanted : List ℕ) (step : ℕ) (replies : Replies) → 0 < step → HasRecordsForEach wanted step replies
      → (count position : ℕ) → IsPlanned wanted step replies Search → replies Search ≡ Some (SearchReply (Some count))
      → IsIn position (up_to count wanted) → IsShownPosition wanted step replies position
  pub only : (wanted : List ℕ) (step : ℕ) (replies : Replies) → 0 < step → (position : ℕ)
      → IsShownPosition wanted step replies position → IsIn position (up_to (count_in replies) wanted)

-- how many requests are sent
pub record BoundLaws : Type 0 where
  pub requests : (wanted : List ℕ) (step : ℕ) (events : List PlanEvent) → IsWanted wanted → 0 < step
      → IsDriven wanted step events
      → length (asked_in events) ≤ 2 + length (up_to (count_in (replies_in events)) wanted)
  pub presents : (wanted : List ℕ) (step : ℕ) (events : List PlanEvent) → IsWanted wanted → 0 < step
      → IsDriven wanted step events
      → length (firsts (asked_in events)) ≤ length (up_to (count_in (replies_in events)) wanted)
  -- a planned list has at most `step` positions, and the search found each of them
  pub lists : (wanted : List ℕ) (step : ℕ) (replies : Replies) (l : List ℕ)
      → IsPlanned wanted step replies (Present l) → length l ≤ step
  pub found : (wanted : List ℕ) (step : ℕ) (replies : Replies) (l : List ℕ) (p : ℕ) → IsWanted wanted → 0 < step
      → IsPlanned wanted step replies (Present l) → IsIn p l → (1 ≤ p) × (p ≤ count_in replies)

-- no list is due, and none waits
abbrev pub no_agenda : Bool → Agenda
no_agenda three = record { due = []; waiting = []; ready = false; three = three }

-- the agenda stays exact, whatever is sent and received
pub record AgendaLaws : Type 0 where
  -- before the count is known
  pub idle : (wanted : List ℕ) (step : ℕ) (three : Bool) (events : List PlanEvent) → IsWanted wanted → 0 < step
      → IsDriven wanted step events → ((count : ℕ) → replies_in events Search ≡ Some (SearchReply (Some count)) → ⊥)
      → IsAgenda wanted step events (no_agenda three)
  -- the search was answered with a count
  pub starts : (wanted : List ℕ) (step : ℕ) (three : Bool) (events : List PlanEvent) (count : ℕ)
      → IsWanted wanted → 0 < step
      → IsDriven wanted step events → IsIn Search (asked_in events) → replies_in events Search ≡ None
      → replies_in events Init ≡ Some (InitReply true three)
      → IsAgenda wanted step (ReplyAccepted Search (SearchReply (Some count)) ∷ events)
      (whole_agenda three step (up_to count wanted))
  -- the Present of the first list due was sent
  pub sends : (wanted : List ℕ) (step : ℕ) (events : List PlanEvent) (a b : Agenda) → IsWanted wanted → 0 < step
      → IsDriven wanted step events → IsAgenda wanted step events a → (s : AfterNoteSent a b)
      → IsAgenda wanted step (RequestSent (Present s.list) ∷ events) b
  -- a list that waited was answered
  pub receives : (wanted : List ℕ) (step : ℕ) (events : List PlanEvent) (p k : ℕ) (a b : Agenda)
      → IsWanted wanted → 0 < step
      → IsDriven wanted step events → IsAgenda wanted step events a → (s : AfterNoteAnswered p k a b)
      → IsAgenda wanted step (ReplyAccepted (Present s.list) (PresentReply k) ∷ events) b
  pub stays : (wanted : List ℕ) (step : ℕ) (events : List PlanEvent) (a b : Agenda) → IsWanted wanted → 0 < step
      → IsAgenda wanted step events a → SameAgenda a b → IsAgenda wanted step events b

-- what the driver does next, by its agenda
pub record NextLaws : Type 0 where
  pub asks : (wanted : List ℕ) (step window : ℕ) (events : List PlanEvent) (a : Agenda)
      (l : List ℕ) (ls : List (List ℕ))
      → IsWanted wanted → 0 < step → IsDriven wanted step events → IsAgenda wanted step events a → a.due ≡ l ∷ ls
      → outstanding_in events < window → IsNextEvent wanted step window events (RequestSent (Present l))
  pub closes : (wanted : List ℕ) (step window : ℕ) (events : List PlanEvent) (a : Agenda) → IsWanted wanted → 0 < step
      → IsAgenda wanted step events a → a.due ≡ [] → IsIn Init (asked_in events) → IsIn Search (asked_in events)
      → outstanding_in events ≡ 0 → IsNextEvent wanted step window events CloseSent

-- the ranges of the example
abbrev pub row : List Range
row = record { start = pos 1; n = pos 2 } ∷ record { start = pos 5; n = pos 3 } ∷ []

-- an example: positions 1, 2 and 5 to 7 of a set of 7 records, cut by 3
pub record CutExampleLaws : Type 0 where
  pub with_three : deal true 2 2 (up_to 7 (positions row)) ≡ (1 ∷ 2 ∷ 5 ∷ []) ∷ (6 ∷ 7 ∷ []) ∷ []
  pub without_three : deal false 2 2 (up_to 7 (positions row)) ≡ (1 ∷ 2 ∷ []) ∷ (5 ∷ []) ∷ (6 ∷ 7 ∷ []) ∷ []
  pub second : cut_of 3 (up_to 7 (positions row)) 1 ≡ 6 ∷ 7 ∷ []
