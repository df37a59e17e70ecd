-- What carrying all octets and releasing all replies do, over a channel that loses nothing.
use Rattle.std.specs.Prelude.{◌≡◌, ◌⊎◌, ℕ, ◌≤◌, true, List, [], ◌++◌, length, slice_get, Some}
use Rattle.ztarget.specs.Receiving.{TargetState}
use Rattle.zoom_questions.specs.declared.question.Question.{Question}
use Rattle.zoom_questions.specs.declared.question.MetaSettings.{MetaSettings}
use Rattle.zoom_pool.specs.Transcripts.{Event, Transcript}
use Rattle.zoom_pool.specs.History.{History, events_on}
use Rattle.zoom_pool.specs.Hosts.{HostEvent, HostHandedOut, HostRecorded}
use Rattle.zoom_pool.specs.Metas.{MetaLinks, MetaAfter}
use Rattle.zoom_sim.specs.declared.peers.Peer.{Peer}
use Rattle.zoom_sim.specs.RunSound.{IsSoundPeer, IsStoppedPeer, IsLostPeer}

-- all octets that waited at the target, or were on their way from it, were carried to the connection
pub record CarryAllStep (was now : Peer) : Type 0 where
  pub host : HostRecorded (HostHandedOut was.host.waiting) was.host now.host
  pub waiting : now.host.waiting ≡ []
  pub to : now.to ≡ was.to
  pub from : now.from ≡ []

-- replies were released, and none is pending
pub record IsEmptied (s : MetaSettings) (q : Question) (target : TargetState) (events : List Event) (p : Transcript)
    (host_events : List HostEvent) (now : Peer) : Type 0 where
  pub host_more : List HostEvent
  pub fine : IsSoundPeer s q target true events p (host_more ++ host_events) now
  pub none : now.host.target.pending ≡ []

-- what releasing replies keeps: a target that lost a reply
abbrev pub LostReleaseStep : Peer → Peer → Type 0
LostReleaseStep was now =
    (s : MetaSettings) (q : Question) (target : TargetState) (events : List Event)
    → IsLostPeer s q target true events was → IsLostPeer s q target true events now

-- all replies were released, or the target lost one that was too long
pub record ReleaseAllStep (was now : Peer) : Type 0 where
  pub to : now.to ≡ was.to
  pub on : (questions : List Question) (s : MetaSettings) (c : ℕ) (h : History) (q : Question) (target : TargetState)
      (p : Transcript) (host_events : List HostEvent) (meta : MetaLinks)
      → MetaAfter questions s h meta → slice_get questions c ≡ Some q
      → IsSoundPeer s q target true (events_on c h) p host_events was
      → IsEmptied s q target (events_on c h) p host_events now ⊎ IsStoppedPeer s q target true (events_on c h) now
  pub lost : LostReleaseStep was now

-- connection and target are sound, and the serving end sent at least n replies
pub record SoundReleaseSteps (n : ℕ) (s : MetaSettings) (q : Question) (target : TargetState) (events : List Event)
    (p : Transcript)
    (host_events : List HostEvent) (now : Peer) : Type 0 where
  pub host_more : List HostEvent
  pub fine : IsSoundPeer s q target true events p (host_more ++ host_events) now
  pub count : n ≤ length fine.sound.served.served.sent

-- n replies were released, and each was sent
pub record ReleaseSteps (n : ℕ) (was now : Peer) : Type 0 where
  pub to : now.to ≡ was.to
  pub on : (s : MetaSettings) (q : Question) (target : TargetState) (events : List Event) (p : Transcript)
      (host_events : List HostEvent)
      → IsSoundPeer s q target true events p host_events was → SoundReleaseSteps n s q target events p host_events now
  pub lost : LostReleaseStep was now
