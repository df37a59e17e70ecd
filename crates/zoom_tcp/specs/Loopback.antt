-- Connections with both ends in one process: for which reason each failed, and what carrying a piece does to them.
use Rattle.std.specs.Prelude.{◌≡◌, ◌⊎◌, ℕ, ◌<◌, ◌≤◌, ◌==◌, Bool, true, false, List, [], length, slice_get, is_some, Option, None, Some}
use Rattle.std.specs.List.{AllByRecursion}
use Rattle.ztarget.specs.Receiving.{TargetState}
use Rattle.zoom_questions.specs.declared.question.Question.{Question}
use Rattle.zoom_questions.specs.declared.question.MetaSettings.{MetaSettings}
use Rattle.zoom_pool.specs.declared.state.Reason.{Reason}
use Rattle.zoom_pool.specs.Transcripts.{Event, Stopped}
use Rattle.zoom_pool.specs.Metas.{MetaLinks}
use Rattle.zoom_sim.specs.RunMade.{IsMovedRun, IsLater, most_rounds}
use Rattle.zoom_tcp.specs.declared.loopback.Pair.{Pair}
use Rattle.zoom_tcp.specs.declared.loopback.Loopback.{Loopback}

module _ {S : Type 0} where
  -- the reason that is noted for a pair; none if there is no pair
  abbrev pub noted_for : Option (Pair S) → Option Reason
  noted_for None = None
  noted_for (Some pair) = pair.failure

  -- the reason that is noted for the pair of connection c
  abbrev pub noted : Loopback S → ℕ → Option Reason
  noted way c = noted_for (slice_get way.pairs.items c)

  -- what is noted for the connection is why it failed
  abbrev pub IsNoted : Loopback S → ℕ → Option Reason → Type 0
  IsNoted way c failure = failure ≡ noted way c

  -- no pair has failed
  abbrev pub AreSound : Loopback S → Type 0
  AreSound way = (c : ℕ) → noted way c ≡ None

  -- the octets were carried over the pair, or the reason is noted
  abbrev pub NoteStep : Bool → Pair S → Pair S → Type 0
  NoteStep true old new = new.failure ≡ old.failure
  NoteStep false old new = is_some new.failure ≡ true

  -- A piece of connection c arrived, or a reason is noted for its pair. Nothing else is noted.
  pub record PieceStep (way : Loopback S) (c : ℕ) (piece : List ℕ) (came : Bool) (later : Loopback S) : Type 0 where
    pub size : length later.pairs.items ≡ length way.pairs.items
    pub others : (i : ℕ) → (c == i) ≡ false → noted later i ≡ noted way i
    pub arrived : came ≡ true → noted later c ≡ noted way c
    pub lost : came ≡ false → c < length way.pairs.items → is_some (noted later c) ≡ true

  -- a later state of the pairs
  abbrev pub IsLaterWay : Loopback S → Loopback S → Type 0
  IsLaterWay way later = IsLater PieceStep PieceStep IsNoted way later

  -- meanwhile a piece of connection c did not arrive
  pub record HasLostPiece (way later : Loopback S) (c : ℕ) : Type 0 where
    pub before : Loopback S
    pub after : Loopback S
    pub piece : List ℕ
    pub since : IsLaterWay way before
    pub lost : PieceStep before c piece false after
    pub until : IsLaterWay after later

  -- the event is no stop, or a piece of the connection did not arrive, or the most rounds were made
  abbrev pub IsStopForLoss : Loopback S → Loopback S → ℕ → ℕ → Event → Type 0
  IsStopForLoss way later rounds c (Stopped reason) = HasLostPiece way later c ⊎ (most_rounds ≤ rounds)
  IsStopForLoss way later rounds c _ = Unit {0}

-- A run without moves, over pairs none of which had failed. In its history a connection is stopped only if a piece of
-- its own did not arrive, or after the most rounds.
pub record IsLoopbackRun (S : Type 0) (questions : List Question) (s : MetaSettings) (targets : List TargetState)
    (meta : MetaLinks) : Type 0 where
  pub way : Loopback S
  pub later : Loopback S
  pub sound : AreSound way
  pub moved : IsMovedRun PieceStep PieceStep IsNoted questions s targets [] way later meta
  pub stops : AllByRecursion (λ (e : ℕ × Event).
      IsStopForLoss way later moved.made.finished.count e.0 e.1) moved.run.history
