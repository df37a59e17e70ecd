-- All connections of a world over a channel that loses nothing: the rounds, and how they end (Z39.50-2003, 3.2).
use Rattle.std.specs.Prelude.{◌≡◌, ◌⊎◌, ℕ, suc, ◌≤◌, Bool, true, false, List, length, slice_get, Some, IsPermutation}
use Rattle.std.specs.List.{flat_map}
use Rattle.zapdu.specs.declared.apdu.Apdu.{Apdu}
use Rattle.zorigin.specs.Sending.{encoding_of}
use Rattle.zorigin.specs.Log.{opening}
use Rattle.ztarget.specs.Receiving.{TargetState}
use Rattle.zoom_questions.specs.declared.question.Question.{Question}
use Rattle.zoom_questions.specs.declared.question.MetaSettings.{MetaSettings}
use Rattle.zoom_pool.specs.Transcripts.{Event, Transcript, past_of, sent}
use Rattle.zoom_pool.specs.History.{History, events_on}
use Rattle.zoom_pool.specs.Hosts.{HostState, HostEvent, holdings_of, replies_to}
use Rattle.zoom_pool.specs.Metas.{MetaLinks, MetaAfter, settings_of}
use Rattle.zoom_pool.specs.Steering.{complete_in, is_rejected, IsTried}
use Rattle.zoom_laws.specs.Accord.{requests}
use Rattle.zoom_laws.specs.Exchange.{IsSoundExchange}
use Rattle.zoom_sim.specs.declared.peers.Peer.{Peer}
use Rattle.zoom_sim.specs.Run.{is_over, IsRun}
use Rattle.zoom_sim.specs.RunSound.{IsSoundPeer, IsStoppedPeer, IsEndedEarly, IsEndedPeer}

-- ---- rounds

-- The connection is sound with its target, and is finished or sent at least n octets. Or its target lost a reply that
-- was too long: then its input ended, or n is 0.
abbrev pub IsAdvancedTo : ℕ → MetaSettings → Question → TargetState → List Event → Peer → Type 0
IsAdvancedTo n s q target events peer =
    ((p : Transcript) × (host_events : List HostEvent) × IsSoundPeer s q target true events p host_events peer
    × (is_over p ≡ false → n ≤ length (sent (past_of p))))
    ⊎ ((IsStoppedPeer s q target true events peer × (n ≡ 0)) ⊎ IsEndedPeer s target events peer)

-- Some history left the world, and each connection c has advanced to `least c` octets.
pub record IsSoundWorld (least : ℕ → ℕ) (questions : List Question) (s : MetaSettings) (targets : List TargetState)
    (meta : MetaLinks) (peers : List Peer) : Type 0 where
  pub history : History
  pub after : MetaAfter questions s history meta
  pub size : length peers ≡ length targets
  pub equal : length targets ≡ length questions
  pub kept : (c : ℕ) (q : Question) (target : TargetState) (peer : Peer) → slice_get questions c ≡ Some q
      → slice_get targets c ≡ Some target → slice_get peers c ≡ Some peer
      → IsAdvancedTo (least c) s q target (events_on c history) peer

-- each sound world stays sound
pub record AfterSoundMoves (old new : MetaLinks) (was now : List Peer) : Type 0 where
  pub on : (questions : List Question) (s : MetaSettings) (targets : List TargetState)
      → IsSoundWorld (λ c. 0) questions s targets old was → IsSoundWorld (λ c. 0) questions s targets new now

-- After a round, each connection that is not finished sent more than before. If nothing was carried or released, each
-- connection is finished, so that any number of octets m can be claimed.
pub record AfterSoundRound (moved : Bool) (old new : MetaLinks) (was now : List Peer) : Type 0 where
  pub on : (n m : ℕ) (questions : List Question) (s : MetaSettings) (targets : List TargetState)
      → (moved ≡ true → m ≡ suc n)
      → IsSoundWorld (λ c. n) questions s targets old was → IsSoundWorld (λ c. m) questions s targets new now

-- after a round, and the end of inputs if it carried and released nothing, each connection advanced by an octet
pub record AfterRoundOrEnd (old new : MetaLinks) (was now : List Peer) : Type 0 where
  pub on : (n : ℕ) (questions : List Question) (s : MetaSettings) (targets : List TargetState)
      → IsSoundWorld (λ c. n) questions s targets old was → IsSoundWorld (λ c. suc n) questions s targets new now

-- ---- the end

-- A complete exchange of a connection and its target. Neither was stopped. The connection was rejected, or its search
-- was tried and its Close was answered. It received exactly the replies that the target owes to its requests, each
-- once, in some order.
pub record IsCompleteExchange (s : MetaSettings) (target : TargetState) (events : List Event) : Type 0 where
  pub transcript : Transcript
  pub host_events : List HostEvent
  pub host : HostState
  pub sound : IsSoundExchange (holdings_of target) (settings_of s) events transcript host_events host
  pub over : is_over transcript ≡ true
  pub complete : complete_in (past_of transcript) ≡ true
  pub tried : is_rejected (opening (past_of transcript)) ≡ false → IsTried transcript.settings transcript.log
  pub replies : List Apdu
  pub owed : IsPermutation (replies_to (holdings_of target) (requests transcript.settings transcript.log)) replies
  pub stream : transcript.stream ≡ flat_map encoding_of replies

-- A complete run: it is a run, and in its history each connection had a complete exchange with the target of its
-- number, or ended early: the target owes a reply of more than 2,097,152 octets to the connection's requests, and the
-- connection is Failed for `Ended`.
pub record IsCompleteRun (questions : List Question) (s : MetaSettings) (targets : List TargetState) (meta : MetaLinks)
    : Type 0 where
  pub run : IsRun questions s targets meta
  pub whole : (c : ℕ) (target : TargetState) → slice_get targets c ≡ Some target
      → IsCompleteExchange s target (events_on c run.history) ⊎ IsEndedEarly s target (events_on c run.history)

-- each sound world comes to a complete run
pub record AfterAllSoundRounds (old new : MetaLinks) (was : List Peer) : Type 0 where
  pub on : (questions : List Question) (s : MetaSettings) (targets : List TargetState)
      → IsSoundWorld (λ c. 0) questions s targets old was → IsCompleteRun questions s targets new
