-- A run as events: each connection is driven, the moves are made, and then come rounds, one after the other. A
-- connection is stopped only if the channel failed for it, or after the last round (Z39.50-2003, 3.2).
use Rattle.std.specs.Prelude.{◌≡◌, ◌⊎◌, ℕ, ◌+◌, ◌-◌, ◌^◌, ◌≤◌, Bool, true, false, ◌||◌, List, [], length, slice_get, slice_set, None, Some}
use Rattle.std.specs.List.{AllByRecursion}
use Rattle.ztarget.specs.Receiving.{TargetState}
use Rattle.zoom_questions.specs.declared.question.Question.{Question}
use Rattle.zoom_questions.specs.declared.question.MetaSettings.{MetaSettings}
use Rattle.zoom_questions.specs.declared.moves.Move.{Move}
use Rattle.zoom_pool.specs.declared.state.Reason.{Reason}
use Rattle.zoom_pool.specs.declared.state.Reason.TheVariants as reasons
use Rattle.zoom_pool.specs.Transcripts.{Event, Stopped}
use Rattle.zoom_pool.specs.Metas.{MetaLinks, MetaAfter, MetaRecorded, IsTranscriptValue, IsFinishedUpTo}
use Rattle.zoom_sim.specs.declared.channels.InMemory.{InMemory}
use Rattle.zoom_sim.specs.declared.peers.Peer.{Peer}
use Rattle.zoom_sim.specs.Run.{is_over, IsRun}
use Rattle.zoom_sim.specs.RunSteps.{AfterAllRounds, ArePeersOf}
use Rattle.zoom_sim.specs.RunMoves.{DrivenStep, InputEndsStep, Carriage, Failing, PeerRoundStep, AreMade}

-- ---- all connections, one after the other

-- the first n connections make this step, one after the other
pub data InTurn (step : ℕ → MetaLinks → MetaLinks → Type 0) (old : MetaLinks) : ℕ → MetaLinks → Type 0 where
  none_yet : InTurn step old 0 old
  one_more : {n : ℕ} {mid new : MetaLinks} → InTurn step old n mid → step n mid new → InTurn step old (n + 1) new

-- each connection makes this step, one after the other
abbrev pub AllInTurn : (ℕ → MetaLinks → MetaLinks → Type 0) → MetaLinks → MetaLinks → Type 0
AllInTurn step old new = InTurn step old (length old.pool.connections) new

-- the connection is finished, and nothing changes
abbrev pub IsOver : ℕ → MetaLinks → MetaLinks → Type 0
IsOver c old new = (new ≡ old) × IsTranscriptValue c old is_over true

-- the input of the connection ends, unless it is finished
abbrev pub EndUnlessOver : ℕ → MetaLinks → MetaLinks → Type 0
EndUnlessOver c old new = IsOver c old new ⊎ (InputEndsStep c old new × IsTranscriptValue c old is_over false)

-- the connection is stopped for its many turns, unless it is finished
abbrev pub StopUnlessOver : ℕ → MetaLinks → MetaLinks → Type 0
StopUnlessOver c old new =
    IsOver c old new ⊎ (MetaRecorded c (Stopped reasons.Turns) old new × IsTranscriptValue c old is_over false)

-- ---- rounds

-- the most rounds
abbrev pub most_rounds : ℕ
most_rounds = 2 ^ 64 - 1

-- the most rounds were made: inputs end, and each connection that is not finished is stopped
pub record LastStep (n : ℕ) (old new : MetaLinks) : Type 0 where
  pub most : most_rounds ≤ n
  pub ended : MetaLinks
  pub ends : AllInTurn EndUnlessOver old ended
  pub stops : AllInTurn StopUnlessOver ended new

module _ {C : Type 0} (to from : Carriage C) (fails : Failing C) where
  -- connection c and its target make their round; `moved` says whether anything was carried or released
  pub record OwnRoundStep (c : ℕ) (moved : Bool) (channel later : C) (old new : MetaLinks) (was now : List Peer)
      : Type 0 where
    pub before : Peer
    pub after : Peer
    pub there : slice_get was c ≡ Some before
    pub made : PeerRoundStep to from fails moved c channel later old new before after
    pub peers : now ≡ slice_set was c after

  -- the first n connections make their rounds, one after the other
  pub data AreRounded (channel : C) (old : MetaLinks) (was : List Peer)
      : ℕ → Bool → C → MetaLinks → List Peer → Type 0 where
    none_rounded : AreRounded channel old was 0 false channel old was
    one_rounded : {n : ℕ} {any moved : Bool} {mid later : C} {meta new : MetaLinks} {peers now : List Peer}
        → AreRounded channel old was n any mid meta peers → OwnRoundStep n moved mid later meta new peers now
        → AreRounded channel old was (n + 1) (any || moved) later new now

  -- all connections make their rounds, one after the other
  abbrev pub RoundStep : Bool → C → C → MetaLinks → MetaLinks → List Peer → List Peer → Type 0
  RoundStep moved channel later old new was now = AreRounded channel old was (length was) moved later new now

  -- a round; if it carried and released nothing, the input of each connection that is not finished ends
  pub record GoOnStep (channel later : C) (old new : MetaLinks) (was now : List Peer) : Type 0 where
    pub moved : Bool
    pub meta : MetaLinks
    pub round : RoundStep moved channel later old meta was now
    pub goes : moved ≡ true → new ≡ meta
    pub ends : moved ≡ false → AllInTurn EndUnlessOver meta new

  -- n such rounds, one after the other, each while some connection is not finished
  pub data AreRounds (channel : C) (old : MetaLinks) (was : List Peer) : ℕ → C → MetaLinks → List Peer → Type 0 where
    no_round : AreRounds channel old was 0 channel old was
    one_round : {n : ℕ} {mid later : C} {meta new : MetaLinks} {peers now : List Peer}
        → AreRounds channel old was n mid meta peers → IsFinishedUpTo meta false
        → GoOnStep mid later meta new peers now → AreRounds channel old was (n + 1) later new now

  -- rounds, until each connection is finished
  pub record FinishStep (channel later : C) (old new : MetaLinks) (was now : List Peer) : Type 0 where
    pub count : ℕ
    pub meta : MetaLinks
    pub rounds : AreRounds channel old was count later meta now
    pub last : ((new ≡ meta) × IsFinishedUpTo meta true) ⊎ LastStep count meta new

  -- Each connection is driven, the moves are made, and then come rounds until each connection is finished. They lead
  -- to a run.
  pub record MovesFirst (steps : List Move) (channel later : C) (old new : MetaLinks) (was now : List Peer)
      : Type 0 where
    pub begun : MetaLinks
    pub mid : C
    pub made : MetaLinks
    pub peers : List Peer
    pub driven : AllInTurn DrivenStep old begun
    pub moved : AreMade to from fails channel begun was steps mid made peers
    pub rounds : AfterAllRounds made new peers
    pub finished : FinishStep mid later made new peers now

  -- ---- why connections are stopped

  -- the channel, after it carried some pieces
  pub data IsLater (channel : C) : C → Type 0 where
    at_first : IsLater channel channel
    carried_to : {mid later : C} (c : ℕ) (piece : List ℕ) (came : Bool) → IsLater channel mid
        → to mid c piece came later → IsLater channel later
    carried_from : {mid later : C} (c : ℕ) (piece : List ℕ) (came : Bool) → IsLater channel mid
        → from mid c piece came later → IsLater channel later

  -- in some state of the channel, between the first and the last, it failed for connection c with this reason
  pub record HasFailed (channel later : C) (c : ℕ) (reason : Reason) : Type 0 where
    pub state : C
    pub since : IsLater channel state
    pub until : IsLater state later
    pub failed : fails state c (Some reason)

  -- the event is no stop, or the channel failed for the connection with its reason, or the most rounds were made
  abbrev pub IsStopForFailure : C → C → ℕ → ℕ → Event → Type 0
  IsStopForFailure channel later rounds c (Stopped reason) =
      HasFailed channel later c reason ⊎ ((most_rounds ≤ rounds) × (reason ≡ reasons.Turns))
  IsStopForFailure channel later rounds c _ = Unit {0}

  -- A run of new connections for the questions, with new peers for the targets, by the moves and the rounds. In its
  -- history a connection is stopped only for the reason that the channel failed for it, or after the most rounds.
  pub record IsMovedRun (questions : List Question) (s : MetaSettings) (targets : List TargetState)
      (steps : List Move) (channel later : C) (meta : MetaLinks) : Type 0 where
    pub first : MetaLinks
    pub peers : List Peer
    pub last_peers : List Peer
    pub begins : MetaAfter questions s [] first
    pub equal : ArePeersOf targets peers
    pub made : MovesFirst steps channel later first meta peers last_peers
    pub run : IsRun questions s targets meta
    pub stops : AllByRecursion (λ (e : ℕ × Event).
        IsStopForFailure channel later made.finished.count e.0 e.1) run.history

-- ---- within memory

-- each piece arrives
abbrev pub arrives : Carriage InMemory
arrives channel c piece came later = came ≡ true

-- memory never fails
abbrev pub never_fails : Failing InMemory
never_fails channel c failure = failure ≡ None

-- a run by the moves and the rounds, within memory
abbrev pub IsMovedRunInMemory : List Question → MetaSettings → List TargetState → List Move → MetaLinks → Type 0
IsMovedRunInMemory questions s targets steps meta =
    (channel : InMemory) × (later : InMemory)
    × IsMovedRun arrives arrives never_fails questions s targets steps channel later meta
