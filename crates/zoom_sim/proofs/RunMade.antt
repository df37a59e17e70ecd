-- Rounds as events, one after the other.
use Rattle.std.proofs.Common.{ℕ, ◌<◌, List, length, get_or, Result, Ok, Err, Bool, true, false, refl}
use Rattle.std.specs.Prelude.{slice_set, OnOk}
use Rattle.std.proofs.lemmas.Option.{slice_get-get_or}
use Rattle.zoom_questions.specs.declared.moves.Move.{Move}
use Rattle.zoom_pool.specs.Metas.{MetaLinks}
use Rattle.zoom_sim.specs.declared.peers.Peer.{Peer}
use Rattle.zoom_sim.specs.RunSteps.{AfterAllRounds}
use Rattle.zoom_sim.specs.RunMoves.{DrivenStep, Carriage, Failing, PeerRoundStep, AreMade}
use Rattle.zoom_sim.specs.RunMade.{AllInTurn, EndUnlessOver, OwnRoundStep, RoundStep, GoOnStep, FinishStep, MovesFirst}

module _ {C : Type 0} (to from : Carriage C) (fails : Failing C) where
  -- a connection and its target made their round
  pub round_made : (n : ℕ) (moved : Bool) (channel later : C) (old new : MetaLinks) (peers : List Peer) (p r : Peer)
      → n < length peers → PeerRoundStep to from fails moved n channel later old new (get_or peers n p) r
      → OwnRoundStep to from fails n moved channel later old new peers (slice_set peers n r)
  round_made n moved channel later old new peers p r lt made = record {
    before = get_or peers n p;
    after = r;
    there = slice_get-get_or peers n p lt;
    made = made;
    peers = refl;
  }

  -- something was carried or released
  pub went_on : (channel later : C) (old new : MetaLinks) (was now : List Peer)
      → RoundStep to from fails true channel later old new was now → GoOnStep to from fails channel later old new was now
  went_on channel later old new was now round = record {
    moved = true;
    meta = new;
    round = round;
    goes = λ e. refl;
    ends = λ e. absurd cc;
  }

  -- nothing was, and inputs end
  pub went_out : (channel later : C) (old mid new : MetaLinks) (was now : List Peer)
      → RoundStep to from fails false channel later old mid was now → AllInTurn EndUnlessOver mid new
      → GoOnStep to from fails channel later old new was now
  went_out channel later old mid new was now round ends = record {
    moved = false;
    meta = mid;
    round = round;
    goes = λ e. absurd cc;
    ends = λ e. ends;
  }

  -- connections were driven, moves made, and then came rounds
  pub moves_first : {A E : Type 0} (r : Result A E) (steps : List Move) (channel mid later : C)
      (old begun made new : MetaLinks) (was peers now : List Peer) → AllInTurn DrivenStep old begun
      → AreMade to from fails channel begun was steps mid made peers → OnOk r (AfterAllRounds made new peers)
      → OnOk r (FinishStep to from fails mid later made new peers now)
      → OnOk r (MovesFirst to from fails steps channel later old new was now)
  moves_first (Ok a) steps channel mid later old begun made new was peers now driven moved ends own = record {
    begun = begun;
    mid = mid;
    made = made;
    peers = peers;
    driven = driven;
    moved = moved;
    rounds = ends;
    finished = own;
  }
  moves_first (Err e) steps channel mid later old begun made new was peers now driven moved ends own = tt
