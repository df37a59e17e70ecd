-- What taking messages one after the other does to a connection.
use Rattle.std.specs.Prelude.{ℕ, ◌≤◌, ◌≡◌, Bool, List, slice_get, Some}
use Rattle.ztarget.specs.Receiving.{TargetState}
use Rattle.zoom_questions.specs.declared.question.Question.{Question}
use Rattle.zoom_questions.specs.declared.question.MetaSettings.{MetaSettings}
use Rattle.zoom_pool.specs.Transcripts.{Transcript}
use Rattle.zoom_pool.specs.History.{History, events_on}
use Rattle.zoom_pool.specs.Hosts.{HostEvent}
use Rattle.zoom_pool.specs.Metas.{MetaLinks, MetaAfter}
use Rattle.zoom_sim.specs.declared.peers.Peer.{Peer}
use Rattle.zoom_sim.specs.RunSound.{IsSoundPeer, SoundStep, MoreEvents, AreQuiet, MoreQuietEvents}

-- more events of the connection, whatever they are, for each history that can have left it
abbrev pub MoreEventsStep : ℕ → MetaLinks → MetaLinks → Type 0
MoreEventsStep c old new =
    (questions : List Question) (s : MetaSettings) (h : History)
    → MetaAfter questions s h old → MoreEvents questions s c h new

-- the same, if the events are all quiet
abbrev pub QuietStep : ℕ → MetaLinks → MetaLinks → Type 0
QuietStep c old new =
    (questions : List Question) (s : MetaSettings) (h : History)
    → MetaAfter questions s h old → MoreQuietEvents questions s c h new

-- What was sound is sound, and at least n messages have been taken. If all were taken before, the transcript is
-- unchanged.
pub record SoundTakeSteps (questions : List Question) (s : MetaSettings) (c : ℕ) (h : History) (q : Question)
    (target : TargetState) (taken : Bool) (n : ℕ) (p : Transcript) (host_events : List HostEvent) (new : MetaLinks)
    (peer : Peer)
    : Type 0 where
  pub stepped : SoundStep questions s c h q target taken taken p host_events new peer
  pub many : n ≤ stepped.later.taken
  pub quiet : AreQuiet stepped.events

-- n messages were taken, and the calls were made that were due after each
pub record TakeSteps (c n : ℕ) (old new : MetaLinks) : Type 0 where
  pub fine : (questions : List Question) (s : MetaSettings) (h : History) (q : Question) (target : TargetState)
      (taken : Bool) (p : Transcript) (host_events : List HostEvent) (peer : Peer)
      → MetaAfter questions s h old → slice_get questions c ≡ Some q
      → IsSoundPeer s q target taken (events_on c h) p host_events peer
      → SoundTakeSteps questions s c h q target taken n p host_events new peer
  pub adds : QuietStep c old new
