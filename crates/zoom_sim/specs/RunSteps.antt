-- The steps of a world in memory, each for every history that can have left the state before it.
use Rattle.std.specs.Prelude.{◌≡◌, ◌⊎◌, ℕ, ◌<◌, true, false, ◌==◌, List, [], ◌∷◌, ◌++◌, length, slice_get, Some}
use Rattle.ztarget.specs.Receiving.{TargetState}
use Rattle.zoom_questions.specs.declared.question.Question.{Question}
use Rattle.zoom_questions.specs.declared.question.MetaSettings.{MetaSettings}
use Rattle.zoom_pool.specs.declared.state.Reason.{Reason}
use Rattle.zoom_pool.specs.Transcripts.{Event, Stopped, Transcript, IsTranscript, given, fed}
use Rattle.zoom_pool.specs.History.{History, events_on}
use Rattle.zoom_pool.specs.Hosts.{HostAfter, Holdings, HostEvent, holdings_of, handed_out}
use Rattle.zoom_pool.specs.Metas.{MetaLinks, MetaAfter, MetaRecorded, IsTranscriptValue, settings_of}
use Rattle.zoom_sim.specs.declared.peers.Peer.{Peer}
use Rattle.zoom_laws.specs.Exchange.{fed_to}
use Rattle.zoom_sim.specs.Run.{is_over, IsRun}

-- ---- connections

-- nothing was handed out, and nothing was fed
abbrev pub IsSilent : List Event → Type 0
IsSilent events = (given events ≡ []) × (fed events ≡ [])

-- the events of each connection are silent
abbrev pub AreSilent : History → Type 0
AreSilent more = (i : ℕ) → IsSilent (events_on i more)

-- more events, all silent
pub record MoreSilentEvents (questions : List Question) (s : MetaSettings) (h : History)
    (new : MetaLinks) : Type 0 where
  pub more : History
  pub after : MetaAfter questions s (more ++ h) new
  pub silent : AreSilent more

-- Each history that can have left the old connections, with some silent events more, can have left the new ones.
pub record SilentStep (old new : MetaLinks) : Type 0 where
  pub on : (questions : List Question) (s : MetaSettings) (h : History)
      → MetaAfter questions s h old → MoreSilentEvents questions s h new

-- The connection was finished, and nothing changed; or it was not, and the caller stopped it.
abbrev pub StopOneStep : ℕ → MetaLinks → MetaLinks → Type 0
StopOneStep c old new =
    ((new ≡ old) × IsTranscriptValue c old is_over true)
    ⊎ ((reason : Reason) × MetaRecorded c (Stopped reason) old new × IsTranscriptValue c old is_over false)

-- more events, all silent, after which the first n connections are finished
pub record AreStopped (questions : List Question) (s : MetaSettings) (n : ℕ) (h : History)
    (new : MetaLinks) : Type 0 where
  pub more : History
  pub after : MetaAfter questions s (more ++ h) new
  pub silent : AreSilent more
  pub over : (i : ℕ) (p : Transcript) → i < n → IsTranscript (settings_of s) (events_on i (more ++ h)) p → is_over p
      ≡ true

-- each of the first n connections that is not finished is stopped
pub record StopAllStep (n : ℕ) (old new : MetaLinks) : Type 0 where
  pub on : (questions : List Question) (s : MetaSettings) (h : History)
      → MetaAfter questions s h old → AreStopped questions s n h new

-- ---- a connection and its target

-- More events of the connection and of the serving end; those of other connections are silent. In each direction, the
-- octets on their way before, with those handed out since, are those fed since and those on their way now.
pub record IsCarried
    (questions : List Question) (s : MetaSettings) (c : ℕ) (h : History) (holdings : Holdings)
    (host_events : List HostEvent)
    (new : MetaLinks) (was now : Peer)
    : Type 0 where
  pub events : History
  pub after : MetaAfter questions s (events ++ h) new
  pub others : (i : ℕ) → (c == i) ≡ false → IsSilent (events_on i events)
  pub host_more : List HostEvent
  pub served : HostAfter holdings (host_more ++ host_events) now.host
  pub to : was.to ++ given (events_on c events) ≡ fed_to host_more ++ now.to
  pub from : was.from ++ handed_out host_more ≡ fed (events_on c events) ++ now.from

-- a step that carries octets between connection c and its target, for every history that can have left both
pub record CarryStep (c : ℕ) (old new : MetaLinks) (was now : Peer) : Type 0 where
  pub on : (questions : List Question) (s : MetaSettings) (h : History) (holdings : Holdings)
      (host_events : List HostEvent)
      → MetaAfter questions s h old → HostAfter holdings host_events was.host
      → IsCarried questions s c h holdings host_events new was now

-- replies were released, and no connection changed
pub record PeerReleaseStep (was now : Peer) : Type 0 where
  pub on : (c : ℕ) (meta : MetaLinks) → CarryStep c meta meta was now

-- ---- all of them

-- the exchange between a connection and its target, with the octets on their way
pub record IsExchangeUnderway (target : TargetState) (events : List Event) (peer : Peer) : Type 0 where
  pub host_events : List HostEvent
  pub served : HostAfter (holdings_of target) host_events peer.host
  pub sent : given events ≡ fed_to host_events ++ peer.to
  pub came : handed_out host_events ≡ fed events ++ peer.from

-- Some history can have left the world.
pub record IsReachableWorld
    (questions : List Question) (s : MetaSettings) (targets : List TargetState) (meta : MetaLinks) (peers : List Peer)
    : Type 0 where
  pub history : History
  pub after : MetaAfter questions s history meta
  pub size : length peers ≡ length targets
  pub tied : (c : ℕ) (target : TargetState) (peer : Peer)
      → slice_get targets c ≡ Some target → slice_get peers c ≡ Some peer
      → IsExchangeUnderway target (events_on c history) peer

-- the later history has more events after the earlier one
abbrev pub IsContinued : History → History → Type 0
IsContinued h later = (more : History) × (later ≡ more ++ h)

-- each world that was reachable before is reachable after, by a longer history
pub record AfterMoves (old new : MetaLinks) (was now : List Peer) : Type 0 where
  pub on : (questions : List Question) (s : MetaSettings) (targets : List TargetState)
      (w : IsReachableWorld questions s targets old was)
      → (v : IsReachableWorld questions s targets new now) × IsContinued w.history v.history

-- each world that was reachable before has come to a run, whose history begins with the world's
pub record AfterAllRounds (old new : MetaLinks) (was : List Peer) : Type 0 where
  pub on : (questions : List Question) (s : MetaSettings) (targets : List TargetState)
      (w : IsReachableWorld questions s targets old was)
      → (r : IsRun questions s targets new) × IsContinued w.history r.history

-- the peer's target has received nothing, and no octets are on their way
pub record IsPeerOf (target : TargetState) (peer : Peer) : Type 0 where
  pub served : HostAfter (holdings_of target) [] peer.host
  pub to : peer.to ≡ []
  pub from : peer.from ≡ []

-- one such peer for each target, in order
abbrev pub ArePeersOf : List TargetState → List Peer → Type 0
ArePeersOf [] [] = Unit {0}
ArePeersOf (t ∷ ts) (p ∷ ps) = IsPeerOf t p × ArePeersOf ts ps
ArePeersOf _ _ = ⊥
