-- A run in memory makes known what is read directly from the databases (Z39.50-2003, 3.2).
use Rattle.std.specs.Prelude.{◌≡◌, ◌↔◌, ◌⊎◌, ℕ, ◌<◌, Bool, false, List, ◌++◌, length, slice_get, Some, Contains}
use Rattle.zber.specs.declared.text.Mode.{Mode}
use Rattle.zknow.specs.declared.fact.Fact.{Fact}
use Rattle.zknow.specs.Facts.{fact_target, AreFacts}
use Rattle.zknow.specs.List.Listing.{listing}
use Rattle.ztarget.specs.Receiving.{TargetState}
use Rattle.zoom_questions.specs.declared.question.Question.{Question}
use Rattle.zoom_questions.specs.declared.question.MetaSettings.{MetaSettings}
use Rattle.zoom_pool.specs.declared.state.State.{State}
use Rattle.zoom_pool.specs.declared.state.State.TheVariants as states
use Rattle.zoom_pool.specs.PoolSteps.{IsStateAt}
use Rattle.zoom_pool.specs.Metas.{MetaLinks, IsTranscriptValueUpTo, is_skipped}
use Rattle.zoom_sim.specs.RunRounds.{IsCompleteRun}
use Rattle.zoom_laws.specs.Catalogue.{catalogue, CanAsk, HasFittingRecords}
use Rattle.zoom_laws.specs.Lengths.{HasShortFault}

-- ---- the facts that the questions bring

-- some question brings the fact from the target of its number
abbrev pub IsBrought : List Question → List TargetState → Fact → Type 0
IsBrought questions targets f =
    (c : ℕ) × (q : Question) × (t : TargetState) × (slice_get questions c ≡ Some q) × (slice_get targets c ≡ Some t)
    × Contains (catalogue c q t.databases t.settings) f

-- exactly the facts that the questions bring
abbrev pub AreBrought : List Question → List TargetState → List Fact → Type 0
AreBrought questions targets facts = (f : Fact) → Contains facts f ↔ IsBrought questions targets f

-- each list of exactly these facts, in fact order and each once, prints as what was appended
abbrev pub IsBroughtList : List Question → List TargetState → List (List ℕ) → Mode → List ℕ → List ℕ → Type 0
IsBroughtList questions targets names mode before behind =
    (facts : List Fact) → AreFacts facts → AreBrought questions targets facts
    → behind ≡ before ++ listing names mode facts

-- ---- what a run needs to make them known

-- the connection's search was not skipped
abbrev pub IsUnskipped : ℕ → MetaLinks → Type 0
IsUnskipped c meta = IsTranscriptValueUpTo c meta is_skipped false

-- The search can be sent, or the target refuses associations, or the run did not skip the search. Each record that is
-- due fits. If the target does not support the search, its response is no longer than a message may be.
pub record IsAnswerable (c : ℕ) (q : Question) (t : TargetState) (meta : MetaLinks) : Type 0 where
  pub can : CanAsk q t.settings ⊎ IsUnskipped c meta
  pub fits : HasFittingRecords q t.databases t.settings
  pub short : HasShortFault q t.databases t.settings

-- each question is answerable
abbrev pub AreAnswerable : List Question → List TargetState → MetaLinks → Type 0
AreAnswerable questions targets meta =
    (c : ℕ) (q : Question) (t : TargetState) → slice_get questions c ≡ Some q → slice_get targets c ≡ Some t
    → IsAnswerable c q t meta

-- ---- what a run leaves

-- Of the target exactly the facts are known that the question brings. Its connection is Closed, and the search was not
-- skipped.
pub record IsExactAnswer (c : ℕ) (q : Question) (t : TargetState) (meta : MetaLinks) : Type 0 where
  pub known : (f : Fact) → fact_target f ≡ c
      → Contains meta.pool.knowledge f ↔ Contains (catalogue c q t.databases t.settings) f
  pub closed : (state : State) → IsStateAt c meta.pool state → state ≡ states.Closed
  pub asked : (skipped : Bool) → IsTranscriptValueUpTo c meta is_skipped skipped → skipped ≡ false

-- Exactly the facts are known that the questions bring. Each connection is Closed, and no search was skipped.
pub record IsExactRun (questions : List Question) (targets : List TargetState) (meta : MetaLinks) : Type 0 where
  pub known : AreBrought questions targets meta.pool.knowledge
  pub lawful : AreFacts meta.pool.knowledge
  pub closed : (c : ℕ) (state : State) → c < length questions → IsStateAt c meta.pool state → state ≡ states.Closed
  pub asked : (c : ℕ) (skipped : Bool) → c < length questions → IsTranscriptValueUpTo c meta is_skipped skipped
      → skipped ≡ false

-- Each answerable question has an exact answer, whatever becomes of the other questions. If all are answerable, the run
-- is exact.
pub record IsFaithfulRun (questions : List Question) (targets : List TargetState) (meta : MetaLinks) : Type 0 where
  pub each : (c : ℕ) (q : Question) (t : TargetState) → slice_get questions c ≡ Some q → slice_get targets c ≡ Some t
      → IsAnswerable c q t meta → IsExactAnswer c q t meta
  pub all : AreAnswerable questions targets meta → IsExactRun questions targets meta

-- a complete run answers its answerable questions
abbrev pub RunLaw : Type 0
RunLaw =
    (questions : List Question) (s : MetaSettings) (targets : List TargetState) (meta : MetaLinks)
    → IsCompleteRun questions s targets meta → length targets ≡ length questions → IsFaithfulRun questions targets meta
