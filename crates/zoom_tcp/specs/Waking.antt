-- A wake of the shell: each socket that lies ready is served, and what happened is told, before time passes.
use Rattle.std.specs.Prelude.{◌≡◌, ◌⊎◌, ℕ, ◌+◌, ◌/◌, ◌≤◌, Bool, true, false, not, nat_lt, List, [], ◌∷◌, ◌++◌, drop, length, Option, None, Some}
use Rattle.mio.specs.Events.{items}
use Rattle.zoom_trace.specs.declared.entry.Traced.TheVariants as traced
use Rattle.zoom_trace.specs.declared.recording.Recorder.{Recorder}
use Rattle.zoom_trace.specs.Reading.{entry_at}
use Rattle.zoom_trace.specs.Recording.{IsRecordedWith}
use Rattle.zoom_tcp.specs.declared.sockets.Happening.{Happening}
use Rattle.zoom_tcp.specs.declared.sockets.Sockets.{Sockets}
use Rattle.zoom_tcp.specs.Telling.{IsHappened}

-- ---- what the polls gave

-- How a poll that does not wait changes the sockets, and whether it gave its most.
module _ {R : Type 0} (IsPolled : R → Bool → R → Type 0) where
  -- So many polls were made, one after the other. Each gave its most.
  pub data ArePolled (first : R) : ℕ → R → Type 0 where
    no_poll : ArePolled first 0 first
    one_more : {n : ℕ} {before last : R} → ArePolled first n before → IsPolled before true last
        → ArePolled first (n + 1) last

  -- Polls were made until one gave fewer than its most, or as many as have room for all open sockets.
  pub record IsGathered (polls : R → ℕ) (first last : R) : Type 0 where
    pub count : ℕ
    pub before : R
    pub full : ArePolled first count before
    pub end : IsPolled before false last ⊎ ((polls first ≤ count) × (last ≡ before))

-- ---- what happened on the sockets

-- What happened on a connection was recorded, at this time, if anything did.
abbrev pub IsHappenedIf
    : {W : Type 0} → (W → Option (List ℕ)) → ℕ → Option (ℕ × Happening) → Recorder W → Recorder W → Type 0
IsHappenedIf contents at None old new = new ≡ old
IsHappenedIf contents at (Some it) old new = IsHappened contents at it.0 it.1 old new

-- How serving the socket that is to be served first changes the sockets, and what happened then.
module _
    {R W : Type 0} (IsServed : R → Option (ℕ × Happening) → R → Type 0) (contents : W → Option (List ℕ)) (at : ℕ) where
  -- One socket was served, and what happened was recorded.
  pub record IsOneTold (first : R) (old : Recorder W) (last : R) (new : Recorder W) : Type 0 where
    pub happened : Option (ℕ × Happening)
    pub served : IsServed first happened last
    pub told : IsHappenedIf contents at happened old new

  -- So many were, one after the other.
  pub data AreTold (first : R) (old : Recorder W) : ℕ → R → Recorder W → Type 0 where
    none_told : AreTold first old 0 first old
    one_told : {n : ℕ} {before last : R} {mid new : Recorder W} → AreTold first old n before mid
        → IsOneTold before mid last new → AreTold first old (n + 1) last new

-- ---- a wake

-- The time was read. After that polls were made until no socket was left that is ready. Each of those that were to be
-- served then was served, once, and what happened was recorded at this time. Then it was recorded that time has passed,
-- up to this time.
pub record IsWoken
    {R W : Type 0} (IsTime : R → ℕ → Type 0) (IsPolled : R → Bool → R → Type 0) (polls queue : R → ℕ)
    (IsServed : R → Option (ℕ × Happening) → R → Type 0) (contents : W → Option (List ℕ)) (now : ℕ) (old : Recorder W)
    (last : R) (new : Recorder W)
    : Type 0 where
  pub waited : R
  pub time : IsTime waited now
  pub ready : R
  pub gathered : IsGathered IsPolled polls waited ready
  pub told : Recorder W
  pub served : AreTold IsServed contents now ready old (queue ready) last told
  pub passed : IsRecordedWith contents (entry_at now traced.Ticked ∷ []) told new

-- ---- the sockets of all hosts

module _ {A : Type 0} where
  -- more stands behind what stood there, or nothing
  abbrev pub IsLonger : List A → List A → Type 0
  IsLonger old new = (more : List A) × (new ≡ old ++ more)

-- the first of the list, if there is one, is of this connection
abbrev pub IsFirst : Option (ℕ × Happening) → List (ℕ × ℕ) → Type 0
IsFirst None queue = Unit {0}
IsFirst (Some it) queue = (k : ℕ) × (rest : List (ℕ × ℕ)) × (queue ≡ (it.0, k) ∷ rest)

module _ {N : Type 0} where
  -- A poll gives 256 sockets at most. Those that are to be served stay so.
  pub record IsPollOf (old : Sockets N) (more : Bool) (new : Sockets N) : Type 0 where
    pub count : more ≡ not (nat_lt (length (items new.events)) 256)
    pub queue : IsLonger old.queue.items new.queue.items

  -- so many polls have room for all open sockets
  abbrev pub polls_of : Sockets N → ℕ
  polls_of s = s.open / 256 + 1

  -- how many sockets are to be served
  abbrev pub queue_of : Sockets N → ℕ
  queue_of s = length s.queue.items

  -- The first socket that is to be served was served. It is to be served again behind the others, if at all.
  pub record IsServeOf (old : Sockets N) (happened : Option (ℕ × Happening)) (new : Sockets N) : Type 0 where
    pub first : IsFirst happened old.queue.items
    pub queue : IsLonger (drop 1 old.queue.items) new.queue.items
