-- The moves of a world as events: what each carries, over what channel, and what it does to its own connection and
-- target alone (Z39.50-2003, 3.2).
use Rattle.std.specs.Prelude.{◌≡◌, ◌⊎◌, ℕ, zero, suc, ◌-◌, ◌^◌, ◌≤◌, nat_lt, ◌==◌, Bool, true, false, ◌&&◌, ◌||◌, List, [], ◌∷◌, ◌++◌, length, take, drop, slice_get, slice_set, Option, None, Some, Ok}
use Rattle.zoom_questions.specs.declared.question.Question.{Question}
use Rattle.zoom_questions.specs.declared.question.MetaSettings.{MetaSettings}
use Rattle.zoom_questions.specs.declared.moves.Move.{Move}
use Rattle.zoom_questions.specs.declared.moves.Move.TheVariants as moves
use Rattle.zoom_pool.specs.declared.state.Reason.{Reason}
use Rattle.zoom_pool.specs.Transcripts.{Event, Called, Fed, Took, InputEnded, HandedOut, Stopped}
use Rattle.zoom_pool.specs.History.{History}
use Rattle.zoom_pool.specs.Hosts.{HostFed, HostHandedOut, HostRecorded, ReleaseResult}
use Rattle.zoom_pool.specs.Links.{waiting_at}
use Rattle.zoom_pool.specs.Metas.{MetaLinks, MetaAfter, MetaRecorded}
use Rattle.zoom_sim.specs.declared.peers.Peer.{Peer}
use Rattle.zoom_sim.specs.RunSound.{at_connection}

-- ---- a connection that is driven

-- an event by which a connection is driven: a call or a take
abbrev pub IsDrivenEvent : Event → Type 0
IsDrivenEvent (Called call) = Unit {0}
IsDrivenEvent Took = Unit {0}
IsDrivenEvent _ = ⊥

-- the connection is driven by each of the events
abbrev pub AreDrivenEvents : List Event → Type 0
AreDrivenEvents [] = Unit {0}
AreDrivenEvents (event ∷ events) = IsDrivenEvent event × AreDrivenEvents events

-- more events of connection c alone, by which it is driven
pub record MoreDrivenEvents (questions : List Question) (s : MetaSettings) (c : ℕ) (h : History) (new : MetaLinks)
    : Type 0 where
  pub events : List Event
  pub driven : AreDrivenEvents events
  pub after : MetaAfter questions s (at_connection c events ++ h) new

-- connection c is driven, after each history that can have left the connections
pub record DrivenStep (c : ℕ) (old new : MetaLinks) : Type 0 where
  pub on : (questions : List Question) (s : MetaSettings) (h : History)
      → MetaAfter questions s h old → MoreDrivenEvents questions s c h new

-- the input of the connection ends, and then it is driven
pub record InputEndsStep (c : ℕ) (old new : MetaLinks) : Type 0 where
  pub ended : MetaLinks
  pub ends : MetaRecorded c InputEnded old ended
  pub driven : DrivenStep c ended new

-- the target stopped, and none of its octets is left to be carried
abbrev pub is_done : Peer → Bool
is_done peer = peer.host.stopped && (length peer.from == 0)

-- if the condition holds, the input of the connection ends; otherwise nothing changes
abbrev pub EndIf : Bool → ℕ → MetaLinks → MetaLinks → Type 0
EndIf true c old new = InputEndsStep c old new
EndIf false c old new = new ≡ old

-- the connection is stopped for the reason that the channel failed for; without one, nothing changes
abbrev pub FailureStep : ℕ → Option Reason → MetaLinks → MetaLinks → Type 0
FailureStep c None old new = new ≡ old
FailureStep c (Some reason) old new = MetaRecorded c (Stopped reason) old new

-- ---- what is carried

-- the piece that is fed: up to k of the octets on their way if it arrived, and none if it did not
abbrev pub arrived : Bool → ℕ → List ℕ → List ℕ
arrived true k octets = take k octets
arrived false k octets = []

-- there are octets in the piece
abbrev pub is_some_of : List ℕ → Bool
is_some_of piece = nat_lt 0 (length piece)

-- the octets that are still on their way
abbrev pub still_left : Bool → ℕ → List ℕ → List ℕ
still_left came k octets = drop (length (arrived came k octets)) octets

-- What waited on the connection is handed out. The piece that arrived is fed to the target.
pub record CarryToStep (c k : ℕ) (came : Bool) (old new : MetaLinks) (was now : Peer) : Type 0 where
  pub handed : MetaRecorded c (HandedOut (waiting_at old.pool c)) old new
  pub fed : HostRecorded (HostFed (arrived came k (was.to ++ waiting_at old.pool c))) was.host now.host
  pub to : now.to ≡ still_left came k (was.to ++ waiting_at old.pool c)
  pub from : now.from ≡ was.from

-- What waited at the target is handed out. The piece that arrived is fed to the connection.
pub record FeedFromStep (c k : ℕ) (came : Bool) (old new : MetaLinks) (was now : Peer) : Type 0 where
  pub handed : HostRecorded (HostHandedOut was.host.waiting) was.host now.host
  pub fed : MetaRecorded c (Fed (arrived came k (was.from ++ was.host.waiting))) old new
  pub to : now.to ≡ was.to
  pub from : now.from ≡ still_left came k (was.from ++ was.host.waiting)

-- The piece that arrived is fed to the connection. Then it is stopped if the channel failed, and driven. Its input ends
-- if the target stopped and none of its octets is left.
pub record CarryFromStep (c k : ℕ) (came : Bool) (failure : Option Reason) (old new : MetaLinks) (was now : Peer)
    : Type 0 where
  pub fed_meta : MetaLinks
  pub stopped_meta : MetaLinks
  pub taken_meta : MetaLinks
  pub carried : FeedFromStep c k came old fed_meta was now
  pub stopped : FailureStep c failure fed_meta stopped_meta
  pub driven : DrivenStep c stopped_meta taken_meta
  pub ended : EndIf (is_done now) c taken_meta new

-- pending reply k was released, or there is none, or it is too long
pub record IsReleasedAs (k : ℕ) (released : Bool) (was now : Peer) : Type 0 where
  pub result : ReleaseResult {E = Unit {0}} k (Ok released) was.host now.host
  pub to : now.to ≡ was.to
  pub from : now.from ≡ was.from

-- the first pending reply was released n times
abbrev pub AreReleased : ℕ → Peer → Peer → Type 0
AreReleased zero was now = now ≡ was
AreReleased (suc n) was now = (mid : Peer) × AreReleased n was mid × IsReleasedAs 0 true mid now

-- The first pending reply was released until none could be, or more often than memory can hold. `any` says whether one
-- was.
pub record AllAreReleased (any : Bool) (was now : Peer) : Type 0 where
  pub count : ℕ
  pub some : any ≡ nat_lt 0 count
  pub before : Peer
  pub released : AreReleased count was before
  pub last : IsReleasedAs 0 false before now ⊎ ((2 ^ 64 - 1 ≤ count) × (now ≡ before))

-- ---- over a channel

-- what a channel does with a piece of a connection: with the channel before, whether the piece arrived, and the channel
-- after
abbrev pub Carriage : Type 0 → Type 1
Carriage C = C → ℕ → List ℕ → Bool → C → Type 0

-- why a channel failed for a connection; None if it did not
abbrev pub Failing : Type 0 → Type 1
Failing C = C → ℕ → Option Reason → Type 0

-- The channel carried up to k of the octets on their way to the target, as one piece. `any` says whether some arrived.
pub record AfterCarryTo {C : Type 0} (carries : Carriage C) (any : Bool) (c k : ℕ) (channel later : C)
    (old new : MetaLinks) (was now : Peer) : Type 0 where
  pub came : Bool
  pub some : any ≡ is_some_of (arrived came k (was.to ++ waiting_at old.pool c))
  pub carried : carries channel c (take k (was.to ++ waiting_at old.pool c)) came later
  pub step : CarryToStep c k came old new was now

-- The channel carried up to k of the octets on their way to the connection, as one piece. `any` says whether some
-- arrived.
pub record AfterFeedFrom {C : Type 0} (carries : Carriage C) (any : Bool) (c k : ℕ) (channel later : C)
    (old new : MetaLinks) (was now : Peer) : Type 0 where
  pub came : Bool
  pub some : any ≡ is_some_of (arrived came k (was.from ++ was.host.waiting))
  pub carried : carries channel c (take k (was.from ++ was.host.waiting)) came later
  pub step : FeedFromStep c k came old new was now

-- the same, and then the channel told whether it failed for the connection
pub record AfterCarryFrom {C : Type 0} (carries : Carriage C) (fails : Failing C) (any : Bool) (c k : ℕ)
    (channel later : C) (old new : MetaLinks) (was now : Peer) : Type 0 where
  pub came : Bool
  pub some : any ≡ is_some_of (arrived came k (was.from ++ was.host.waiting))
  pub failure : Option Reason
  pub carried : carries channel c (take k (was.from ++ was.host.waiting)) came later
  pub failed : fails later c failure
  pub step : CarryFromStep c k came failure old new was now

-- All octets were carried to the target, all replies released, and all octets carried to the connection. `moved` says
-- whether anything was carried or released.
pub record PeerRoundStep {C : Type 0} (to from : Carriage C) (fails : Failing C) (moved : Bool) (c : ℕ)
    (channel later : C) (old new : MetaLinks) (was now : Peer) : Type 0 where
  pub between : C
  pub meta : MetaLinks
  pub fed : Peer
  pub replied : Peer
  pub some_sent : Bool
  pub some_released : Bool
  pub some_came : Bool
  pub sent : AfterCarryTo to some_sent c (2 ^ 64 - 1) channel between old meta was fed
  pub released : AllAreReleased some_released fed replied
  pub came : AfterCarryFrom from fails some_came c (2 ^ 64 - 1) between later meta new replied now
  pub some : moved ≡ (some_sent || some_released) || some_came

-- ---- moves

-- the number of the connection that the move is on
abbrev pub connection_of : Move → ℕ
connection_of (moves.To c k) = c
connection_of (moves.Release c k) = c
connection_of (moves.From c k) = c

module _ {C : Type 0} (to from : Carriage C) (fails : Failing C) where
  -- the move is made on connection c and its target; the first argument says whether anything was carried or released
  abbrev pub AfterMove : Bool → ℕ → Move → C → C → MetaLinks → MetaLinks → Peer → Peer → Type 0
  AfterMove any c (moves.To _ k) channel later old new was now = AfterCarryTo to any c k channel later old new was now
  AfterMove any c (moves.Release _ k) channel later old new was now =
      (later ≡ channel) × (new ≡ old) × IsReleasedAs k any was now
  AfterMove any c (moves.From _ k) channel later old new was now =
      AfterCarryFrom from fails any c k channel later old new was now

  -- the move is made on its own connection and target
  pub record MoveStep (step : Move) (channel later : C) (old new : MetaLinks) (was now : List Peer) : Type 0 where
    pub any : Bool
    pub before : Peer
    pub after : Peer
    pub there : slice_get was (connection_of step) ≡ Some before
    pub made : AfterMove any (connection_of step) step channel later old new before after
    pub peers : now ≡ slice_set was (connection_of step) after

  -- there is no such connection, and nothing changes
  pub record NoMove (step : Move) (channel later : C) (old new : MetaLinks) (was now : List Peer) : Type 0 where
    pub none : length was ≤ connection_of step
    pub channel_is : later ≡ channel
    pub meta_is : new ≡ old
    pub peers : now ≡ was

  -- after a move
  abbrev pub AfterMoveIf : Move → C → C → MetaLinks → MetaLinks → List Peer → List Peer → Type 0
  AfterMoveIf step channel later old new was now =
      MoveStep step channel later old new was now ⊎ NoMove step channel later old new was now

  -- the moves are made one after the other
  pub data AreMade (channel : C) (old : MetaLinks) (was : List Peer)
      : List Move → C → MetaLinks → List Peer → Type 0 where
    none_made : AreMade channel old was [] channel old was
    one_made : {moves : List Move} {mid later : C} {meta new : MetaLinks} {peers now : List Peer} (step : Move)
        → AreMade channel old was moves mid meta peers → AfterMoveIf step mid later meta new peers now
        → AreMade channel old was (moves ++ step ∷ []) later new now
