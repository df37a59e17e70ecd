-- Why a connection over a pair is stopped.
use Rattle.std.proofs.Common.{◌≡◌, ◌∙◌, inl, inr, sym, subst, ℕ, ◌==◌, Bool, true, false, List, [], ◌∷◌, None, Some, refl, arith}
use Rattle.std.specs.List.{AllByRecursion}
use Rattle.std.proofs.lemmas.Bool.Decides.{nat_tests}
use Rattle.zoom_pool.specs.declared.state.Reason.{Reason}
use Rattle.zoom_pool.specs.Transcripts.{Event, Called, Fed, Took, InputEnded, HandedOut, Stopped}
use Rattle.zoom_pool.specs.History.{History}
use Rattle.zoom_sim.specs.RunMade.{at_first, carried_to, carried_from, IsStopForFailure}
use Rattle.zoom_sim.proofs.RunFailures.{later_trans}
use Rattle.zoom_tcp.specs.declared.loopback.Loopback.{Loopback}
use Rattle.zoom_tcp.specs.Loopback.{noted, IsNoted, AreSound, PieceStep, IsLaterWay, HasLostPiece, IsStopForLoss}

module _ {S : Type 0} where
  longer : (way mid later : Loopback S) (c : ℕ) → IsLaterWay mid later → HasLostPiece way mid c → HasLostPiece way later c
  longer way mid later c more l = record {
    before = l.before;
    after = l.after;
    piece = l.piece;
    since = l.since;
    lost = l.lost;
    until = later_trans PieceStep PieceStep IsNoted l.after mid later l.until more;
  }

  -- a piece was carried, and then a reason is noted for connection c: this piece did not arrive, or one before it
  by_piece : (way mid later : Loopback S) (c d : ℕ) (piece : List ℕ) (came : Bool) (reason : Reason)
      → IsLaterWay way mid → PieceStep mid d piece came later → IsLaterWay mid later
      → noted later c ≡ Some reason → (noted mid c ≡ Some reason → HasLostPiece way mid c)
      → HasLostPiece way later c
  by_piece way mid later c d piece came reason since one step is older = by (d == c) refl came refl
    where
      before : noted later c ≡ noted mid c → HasLostPiece way later c
      before same = longer way mid later c step (older (sym same ∙ is))

      by : (b : Bool) → (d == c) ≡ b → (a : Bool) → came ≡ a → HasLostPiece way later c
      by false far a e = before (one.others c far)
      by true near true e =
          let here : d ≡ c = grind (arith, nat_tests) in
          before (subst (λ n. noted later n ≡ noted mid n) here (one.arrived e))
      by true near false e =
          let here : d ≡ c = grind (arith, nat_tests) in
          record {
            before = mid;
            after = later;
            piece = piece;
            since = since;
            lost = subst (λ n. PieceStep mid n piece false later) here
                (subst (λ b. PieceStep mid d piece b later) e one);
            until = at_first;
          }

  lost_piece : (way later : Loopback S) (c : ℕ) (reason : Reason) → AreSound way → IsLaterWay way later
      → noted later c ≡ Some reason → HasLostPiece way later c
  lost_piece way later c reason sound at_first is = absurd (let no : None ≡ Some reason = sym (sound c) ∙ is in cc)
  lost_piece way later c reason sound (carried_to {mid = mid} d piece came more one) is =
      by_piece way mid later c d piece came reason more one (carried_to d piece came at_first one) is
      (lost_piece way mid c reason sound more)
  lost_piece way later c reason sound (carried_from {mid = mid} d piece came more one) is =
      by_piece way mid later c d piece came reason more one (carried_from d piece came at_first one) is
      (lost_piece way mid c reason sound more)

  module _ (way later : Loopback S) (rounds : ℕ) (sound : AreSound way) where
    own_stop : (c : ℕ) (event : Event) → IsStopForFailure PieceStep PieceStep IsNoted way later rounds c event
        → IsStopForLoss way later rounds c event
    own_stop c (Called call) f = tt
    own_stop c (Fed piece) f = tt
    own_stop c Took f = tt
    own_stop c InputEnded f = tt
    own_stop c (HandedOut octets) f = tt
    own_stop c (Stopped reason) (inl f) =
        inl (longer way f.state later c f.until (lost_piece way f.state c reason sound f.since (sym f.failed)))
    own_stop c (Stopped reason) (inr most) = inr most.0

    pub own_stops : (h : History)
        → AllByRecursion (λ (e : ℕ × Event). IsStopForFailure PieceStep PieceStep IsNoted way later rounds e.0 e.1) h
        → AllByRecursion (λ (e : ℕ × Event). IsStopForLoss way later rounds e.0 e.1) h
    own_stops [] f = tt
    own_stops (e ∷ h) f = (own_stop e.0 e.1 f.0, own_stops h f.1)
    -- ---- pairs
    -- the pair of connection c was written to, and a reason is noted for it if the piece did not arrive
