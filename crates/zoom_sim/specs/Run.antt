-- Runs of connections against targets in memory: the exchange on each connection, and how it ended (Z39.50-2003, 3.2).
use Rattle.std.specs.Prelude.{◌≡◌, ℕ, ◌<◌, Bool, true, List, ◌++◌, length, slice_get, Some}
use Rattle.ztarget.specs.Receiving.{TargetState}
use Rattle.zoom_questions.specs.declared.question.Question.{Question}
use Rattle.zoom_questions.specs.declared.question.MetaSettings.{MetaSettings}
use Rattle.zoom_pool.specs.States.{is_stopped}
use Rattle.zoom_pool.specs.Transcripts.{Event, Transcript, IsTranscript, given, fed, state_at}
use Rattle.zoom_pool.specs.History.{History, events_on}
use Rattle.zoom_pool.specs.Hosts.{HostState, HostAfter, HostEvent, holdings_of, handed_out}
use Rattle.zoom_pool.specs.Metas.{MetaLinks, MetaAfter, settings_of}
use Rattle.zoom_laws.specs.Exchange.{fed_to}

-- The exchange between a connection with these events and a target. The target's serving end was fed what the
-- connection handed out, and the connection was fed what that end handed out: each octet once and in order. Some octets
-- may be left in either direction.
pub record IsExchange (target : TargetState) (events : List Event) : Type 0 where
  pub host : HostState
  pub host_events : List HostEvent
  pub served : HostAfter (holdings_of target) host_events host
  pub to_go : List ℕ
  pub sent : given events ≡ fed_to host_events ++ to_go
  pub to_come : List ℕ
  pub came : handed_out host_events ≡ fed events ++ to_come

-- the connection is finished: Closed or Failed
abbrev pub is_over : Transcript → Bool
is_over p = is_stopped (state_at p)

-- What a run leaves: some history left the connections; each had an exchange with the target of its number; and each is
-- Closed or Failed.
pub record IsRun (questions : List Question) (s : MetaSettings) (targets : List TargetState) (meta : MetaLinks)
    : Type 0 where
  pub history : History
  pub after : MetaAfter questions s history meta
  pub talked : (c : ℕ) (target : TargetState) → slice_get targets c ≡ Some target
      → IsExchange target (events_on c history)
  pub over : (c : ℕ) (p : Transcript) → c < length questions → IsTranscript (settings_of s) (events_on c history) p
      → is_over p ≡ true
