-- A world over a channel that loses nothing: what stays true of each connection and its target during the run
-- (Z39.50-2003, 3.2).
use Rattle.std.specs.Prelude.{◌≡◌, ◌⊎◌, ℕ, ◌<◌, Bool, true, false, List, [], ◌∷◌, ◌++◌, map, length, slice_get, Some, Result, Ok, Err, Contains}
use Rattle.zapdu.specs.declared.apdu.Apdu.{Apdu}
use Rattle.ztarget.specs.Receiving.{TargetState}
use Rattle.zoom_questions.specs.declared.question.Question.{Question}
use Rattle.zoom_questions.specs.declared.question.MetaSettings.{MetaSettings}
use Rattle.zoom_pool.specs.declared.step.Step.{Step}
use Rattle.zoom_pool.specs.declared.step.TakeError.{TakeError}
use Rattle.zoom_pool.specs.declared.state.Reason.TheVariants as reasons
use Rattle.zoom_pool.specs.declared.state.State.TheVariants as states
use Rattle.zoom_pool.specs.States.{is_stopped}
use Rattle.zoom_pool.specs.Inputs.{Input}
use Rattle.zoom_pool.specs.Transcripts.{Event, Fed, Took, InputEnded, HandedOut, Stopped, Transcript, IsTranscript, NextInput, given, fed, state_at, past_of, is_message, sent, take_result}
use Rattle.zoom_pool.specs.History.{History, events_on}
use Rattle.zoom_pool.specs.Hosts.{Holdings, HostAfter, HostEvent, IsLong, holdings_of, handed_out, replies_to}
use Rattle.zoom_pool.specs.Metas.{MetaLinks, MetaAfter, CompleteDrive, IsIdleUnlessStopped, settings_of}
use Rattle.zoom_pool.specs.Steering.{errand_of}
use Rattle.zoom_laws.specs.Accord.{requests}
use Rattle.zoom_laws.specs.Exchange.{IsSoundExchange, HasTakenAll, ArePlain, fed_to}
use Rattle.zoom_sim.specs.declared.peers.Peer.{Peer}
use Rattle.zoom_sim.specs.Run.{is_over}
use Rattle.zoom_sim.specs.RunSteps.{IsExchangeUnderway, ArePeersOf}

-- the events of one connection, as a history
abbrev pub at_connection : ℕ → List Event → History
at_connection c events = map (λ event. (c, event)) events

-- ---- a call of a connection

-- driving the connection made the calls that are due
abbrev pub DriveOneStep : ℕ → MetaLinks → MetaLinks → Type 0
DriveOneStep c old new =
    (questions : List Question) (s : MetaSettings) (h : History)
    → MetaAfter questions s h old → (n : ℕ) × CompleteDrive questions s [] c h n new

-- the result says that a message was taken
abbrev pub is_taken : Result Step TakeError → Bool
is_taken (Ok step) = is_message step
is_taken (Err error) = false

-- a take of the next input, and whether that was a message that was accepted
abbrev pub TakeOneStep : ℕ → Bool → MetaLinks → MetaLinks → Type 0
TakeOneStep c taken old new =
    (questions : List Question) (s : MetaSettings) (h : History) (p : Transcript)
    → MetaAfter questions s h old → IsTranscript (settings_of s) (events_on c h) p
    → MetaAfter questions s (at_connection c (Took ∷ []) ++ h) new
    × ((input : Input) × NextInput p input × (is_taken (take_result p input) ≡ taken))

-- ---- a connection and its target

-- no call is due on the connection
abbrev pub HasNoCallDue : MetaSettings → Question → Transcript → Type 0
HasNoCallDue s q p = IsIdleUnlessStopped (errand_of s q) p

-- Connection and target are sound, with the octets on their way, and no call is due. If `taken` is true, each message
-- that came was taken.
pub record IsSoundPeer (s : MetaSettings) (q : Question) (target : TargetState) (taken : Bool) (events : List Event)
    (p : Transcript) (host_events : List HostEvent) (peer : Peer) : Type 0 where
  pub sound : IsSoundExchange (holdings_of target) (settings_of s) events p host_events peer.host
  pub to : given events ≡ fed_to host_events ++ peer.to
  pub from : handed_out host_events ≡ fed events ++ peer.from
  pub idle : HasNoCallDue s q p
  pub took : taken ≡ true → is_stopped (state_at p) ≡ false → HasTakenAll p

-- the target owes to the connection's requests a reply of more than 2,097,152 octets, the most that a message may have
abbrev pub HasLongReply : Holdings → Transcript → Type 0
HasLongReply holdings p =
    (reply : Apdu) × Contains (replies_to holdings (requests p.settings p.log)) reply × IsLong reply

-- ---- a target that lost a reply that was too long

-- The serving end stopped, because it lost a reply that was too long. The connection is sound with the serving end as
-- it was before: that one put out the same octets, and still has the reply pending.
pub record IsStoppedPeer (s : MetaSettings) (q : Question) (target : TargetState) (taken : Bool) (events : List Event)
    (peer : Peer) : Type 0 where
  pub before : Peer
  pub transcript : Transcript
  pub host_events : List HostEvent
  pub sound : IsSoundPeer s q target taken events transcript host_events before
  pub from : before.from ≡ peer.from
  pub waiting : before.host.waiting ≡ peer.host.waiting
  pub reply : Apdu
  pub pending : Contains before.host.target.pending reply
  pub long : IsLong reply
  -- the serving end now, and the octets on their way
  pub all_events : List HostEvent
  pub served : HostAfter (holdings_of target) all_events peer.host
  pub plain : ArePlain all_events
  pub stopped : served.served.stopped ≡ true
  pub sent : given events ≡ fed_to all_events ++ peer.to
  pub came : handed_out all_events ≡ fed events ++ peer.from

-- the target owes a reply of more than 2,097,152 octets to the connection's requests, and the connection is Failed for
-- `Ended`
pub record IsEndedEarly (s : MetaSettings) (target : TargetState) (events : List Event) : Type 0 where
  pub transcript : Transcript
  pub agrees : IsTranscript (settings_of s) events transcript
  pub long : HasLongReply (holdings_of target) transcript
  pub stop : transcript.stop ≡ Some (states.Failed reasons.Ended)

-- such a connection, with the octets on their way
abbrev pub IsEndedPeer : MetaSettings → TargetState → List Event → Peer → Type 0
IsEndedPeer s target events peer = IsEndedEarly s target events × IsExchangeUnderway target events peer

-- the target lost a reply that was too long; the connection's input may have ended
abbrev pub IsLostPeer : MetaSettings → Question → TargetState → Bool → List Event → Peer → Type 0
IsLostPeer s q target taken events peer =
    IsStoppedPeer s q target taken events peer ⊎ IsEndedPeer s target events peer

-- ---- steps on a connection

-- More events of both ends, after which connection and target are sound. If `same` is true, the connection's transcript
-- is unchanged.
pub record SoundStep (questions : List Question) (s : MetaSettings) (c : ℕ) (h : History) (q : Question)
    (target : TargetState) (taken same : Bool) (p : Transcript) (host_events : List HostEvent) (new : MetaLinks)
    (now : Peer)
    : Type 0 where
  pub events : List Event
  pub host_more : List HostEvent
  pub after : MetaAfter questions s (at_connection c events ++ h) new
  pub later : Transcript
  pub fine : IsSoundPeer s q target taken (events ++ events_on c h) later (host_more ++ host_events) now
  pub still : same ≡ true → later ≡ p

-- more events, after which the target has lost a reply that was too long
pub record LostStep (questions : List Question) (s : MetaSettings) (c : ℕ) (h : History) (q : Question)
    (target : TargetState) (taken : Bool) (new : MetaLinks) (now : Peer) : Type 0 where
  pub events : List Event
  pub after : MetaAfter questions s (at_connection c events ++ h) new
  pub lost : IsLostPeer s q target taken (events ++ events_on c h) now

-- more events, after which the connection's input has ended for such a loss
pub record EndedStep (questions : List Question) (s : MetaSettings) (c : ℕ) (h : History) (target : TargetState)
    (new : MetaLinks) (now : Peer) : Type 0 where
  pub events : List Event
  pub after : MetaAfter questions s (at_connection c events ++ h) new
  pub ended : IsEndedPeer s target (events ++ events_on c h) now

-- more events of the connection, whatever they are
pub record MoreEvents (questions : List Question) (s : MetaSettings) (c : ℕ) (h : History)
    (new : MetaLinks) : Type 0 where
  pub events : List Event
  pub after : MetaAfter questions s (at_connection c events ++ h) new

-- calls, takes and the end of the input: nothing was fed or handed out, and the caller did not stop the connection
abbrev pub AreQuiet : List Event → Type 0
AreQuiet [] = Unit {0}
AreQuiet (Fed piece ∷ events) = ⊥
AreQuiet (HandedOut octets ∷ events) = ⊥
AreQuiet (Stopped reason ∷ events) = ⊥
AreQuiet (_ ∷ events) = AreQuiet events

-- more events of the connection, all quiet
pub record MoreQuietEvents (questions : List Question) (s : MetaSettings) (c : ℕ) (h : History)
    (new : MetaLinks) : Type 0 where
  pub events : List Event
  pub after : MetaAfter questions s (at_connection c events ++ h) new
  pub quiet : AreQuiet events

-- A step on a connection: what was sound is sound, or its target loses a reply that is too long. Such a loss stays. No
-- other connection changes.
pub record PeerStep (c : ℕ) (before behind same : Bool) (old new : MetaLinks) (was now : Peer) : Type 0 where
  pub fine : (questions : List Question) (s : MetaSettings) (h : History) (q : Question) (target : TargetState)
      (p : Transcript) (host_events : List HostEvent)
      → MetaAfter questions s h old → slice_get questions c ≡ Some q
      → IsSoundPeer s q target before (events_on c h) p host_events was
      → SoundStep questions s c h q target behind same p host_events new now
      ⊎ LostStep questions s c h q target behind new now
  pub lost : (questions : List Question) (s : MetaSettings) (h : History) (q : Question) (target : TargetState)
      → MetaAfter questions s h old → slice_get questions c ≡ Some q
      → IsLostPeer s q target before (events_on c h) was → LostStep questions s c h q target behind new now

-- taking all messages; if all were taken before, the connection's transcript is unchanged
abbrev pub TakeAllStep : ℕ → MetaLinks → MetaLinks → Type 0
TakeAllStep c old new = (taken : Bool) (peer : Peer) → PeerStep c taken true taken old new peer peer

-- the end of the input, and one take
abbrev pub EndInputStep : ℕ → MetaLinks → MetaLinks → Type 0
EndInputStep c old new =
    (questions : List Question) (s : MetaSettings) (h : History) (p : Transcript)
    → MetaAfter questions s h old → IsTranscript (settings_of s) (events_on c h) p
    → MetaAfter questions s (at_connection c (Took ∷ InputEnded ∷ []) ++ h) new
    × ((input : Input) × NextInput (record p { ended = true }) input)

-- A step on a connection after which its input has ended, if its target has lost a reply.
pub record PeerEndStep (c : ℕ) (same : Bool) (old new : MetaLinks) (was now : Peer) : Type 0 where
  pub fine : (questions : List Question) (s : MetaSettings) (h : History) (q : Question) (target : TargetState)
      (p : Transcript) (host_events : List HostEvent)
      → MetaAfter questions s h old → slice_get questions c ≡ Some q
      → IsSoundPeer s q target true (events_on c h) p host_events was
      → SoundStep questions s c h q target true same p host_events new now ⊎ EndedStep questions s c h target new now
  pub lost : (questions : List Question) (s : MetaSettings) (h : History) (q : Question) (target : TargetState)
      → MetaAfter questions s h old → slice_get questions c ≡ Some q
      → IsLostPeer s q target true (events_on c h) was → EndedStep questions s c h target new now

-- releasing replies keeps a sound peer sound, and changes no connection
abbrev pub SoundReleaseStep : Peer → Peer → Type 0
SoundReleaseStep was now = (c : ℕ) (meta : MetaLinks) → PeerStep c true true true meta meta was now

-- ---- a round

-- A round of a sound connection keeps it sound. If it is not finished, it sent more than before the round. If nothing
-- was carried or released, its transcript is unchanged.
pub record SoundRound (questions : List Question) (s : MetaSettings) (c : ℕ) (h : History) (q : Question)
    (target : TargetState) (moved : Bool) (p : Transcript) (host_events : List HostEvent) (new : MetaLinks) (now : Peer)
    : Type 0 where
  pub stepped : SoundStep questions s c h q target true false p host_events new now
  pub grows : is_over stepped.later ≡ false → length (sent (past_of p)) < length (sent (past_of stepped.later))
  pub still : moved ≡ false → stepped.later ≡ p

-- A round on a connection: it is a sound round, or the connection's input ends, because its target lost a reply. No
-- other connection changes.
pub record PeerRound (c : ℕ) (moved : Bool) (old new : MetaLinks) (was now : Peer) : Type 0 where
  pub fine : (questions : List Question) (s : MetaSettings) (h : History) (q : Question) (target : TargetState)
      (p : Transcript) (host_events : List HostEvent)
      → MetaAfter questions s h old → slice_get questions c ≡ Some q
      → IsSoundPeer s q target true (events_on c h) p host_events was
      → SoundRound questions s c h q target moved p host_events new now ⊎ EndedStep questions s c h target new now
  pub lost : (questions : List Question) (s : MetaSettings) (h : History) (q : Question) (target : TargetState)
      → MetaAfter questions s h old → slice_get questions c ≡ Some q
      → IsLostPeer s q target true (events_on c h) was → EndedStep questions s c h target new now

-- ---- all connections

-- more events, none of them on a connection that is finished
pub record MoreEventsOfUnfinished (questions : List Question) (s : MetaSettings) (h : History)
    (new : MetaLinks) : Type 0 where
  pub more : History
  pub after : MetaAfter questions s (more ++ h) new
  pub none : (i : ℕ) (p : Transcript) → IsTranscript (settings_of s) (events_on i h) p → is_over p ≡ true
      → events_on i more ≡ []

-- a step that leaves finished connections as they are
pub record UnfinishedOnlyStep (old new : MetaLinks) : Type 0 where
  pub on : (questions : List Question) (s : MetaSettings) (h : History)
      → MetaAfter questions s h old → MoreEventsOfUnfinished questions s h new

-- the first n connections are sound, and no other connection has an event
pub record AreStarted (n : ℕ) (questions : List Question) (s : MetaSettings) (targets : List TargetState)
    (new : MetaLinks) (peers : List Peer) : Type 0 where
  pub history : History
  pub after : MetaAfter questions s history new
  pub fine : (i : ℕ) (q : Question) (target : TargetState) (peer : Peer) → i < n → slice_get questions i ≡ Some q
      → slice_get targets i ≡ Some target → slice_get peers i ≡ Some peer
      → (p : Transcript) × IsSoundPeer s q target true (events_on i history) p [] peer
  pub others : (i : ℕ) → (i < n → ⊥) → events_on i history ≡ []

-- connections without events are driven
pub record DriveAllStep (n : ℕ) (old new : MetaLinks) : Type 0 where
  pub on : (questions : List Question) (s : MetaSettings) (targets : List TargetState) (peers : List Peer)
      → MetaAfter questions s [] old → ArePeersOf targets peers → AreStarted n questions s targets new peers
