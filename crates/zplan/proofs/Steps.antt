-- The laws at any step above 0.
use Rattle.std.proofs.Common.{◌≡◌, ℕ, zero, suc, ◌+◌, ◌<◌, ◌≤◌, List, length, Some, arith}
use Rattle.zplan.specs.Positions.{IsIn, IsWanted, up_to}
use Rattle.zplan.specs.Plan.{Operation, Search, SearchReply, Replies, IsPlanned, number, PlanEvent, replies_in, asked_in, firsts, count_in, IsDriven, HasRecordsForEach, IsShownPosition}
use Rattle.zplan.proofs.Asking.{number_one, bounded, few_presents, all_shown, shown_wanted}

pub number_once : (wanted : List ℕ) (step : ℕ) (replies : Replies) → IsWanted wanted → 0 < step → (a b : Operation) → IsPlanned wanted step replies a → IsPlanned wanted step replies b → number a ≡ number b → a ≡ b
number_once wanted zero replies w pos = absurd (omega arith)
number_once wanted (suc last) replies w pos = number_one wanted last replies w

pub few : (wanted : List ℕ) (step : ℕ) (events : List PlanEvent) → IsWanted wanted → 0 < step → IsDriven wanted step events → length (asked_in events) ≤ 2 + length (up_to (count_in (replies_in events)) wanted)
few wanted zero events w pos = absurd (omega arith)
few wanted (suc last) events w pos = bounded wanted last w events

pub shown_all : (wanted : List ℕ) (step : ℕ) (replies : Replies) → 0 < step → HasRecordsForEach wanted step replies → (count position : ℕ) → IsPlanned wanted step replies Search
    → replies Search ≡ Some (SearchReply (Some count)) → IsIn position (up_to count wanted) → IsShownPosition wanted step replies position
shown_all wanted zero replies pos = absurd (omega arith)
shown_all wanted (suc last) replies pos = all_shown wanted last replies

pub shown_only : (wanted : List ℕ) (step : ℕ) (replies : Replies) → 0 < step → (position : ℕ) → IsShownPosition wanted step replies position → IsIn position (up_to (count_in replies) wanted)
shown_only wanted zero replies pos = absurd (omega arith)
shown_only wanted (suc last) replies pos = shown_wanted wanted last replies

pub presents_few : (wanted : List ℕ) (step : ℕ) (events : List PlanEvent) → IsWanted wanted → 0 < step → IsDriven wanted step events → length (firsts (asked_in events)) ≤ length (up_to (count_in (replies_in events)) wanted)
presents_few wanted zero events w pos = absurd (omega arith)
presents_few wanted (suc last) events w pos = few_presents wanted last w events
