-- A connection and a target that exchange octets with each other alone: each received the front of what the other sent
-- (Z39.50-2003, 3.2 and 3.4).
use Rattle.std.specs.Prelude.{◌≡◌, ◌≢◌, ℕ, ◌*◌, ◌≤◌, true, false, List, [], ◌∷◌, ◌++◌, length, take, slice_get, None, Some, Contains, IsPermutation}
use Rattle.std.specs.List.{flat_map}
use Rattle.zber.specs.declared.framer.TheConstants.{MESSAGE_LIMIT}
use Rattle.zber.specs.Unfinished.{IsUnfinished}
use Rattle.zapdu.specs.declared.apdu.Apdu.{Apdu}
use Rattle.zorigin.specs.declared.settings.Settings.{Settings}
use Rattle.zorigin.specs.Standings.{Call}
use Rattle.zorigin.specs.Sending.{encoding_of}
use Rattle.zorigin.specs.Log.{Log, Made, Got, opening, outstanding}
use Rattle.ztarget.specs.Receiving.{may_release}
use Rattle.zoom_questions.specs.declared.question.Question.{Question}
use Rattle.zoom_questions.specs.declared.question.MetaSettings.{MetaSettings}
use Rattle.zoom_pool.specs.declared.state.State.TheVariants as states
use Rattle.zoom_pool.specs.States.{is_stopped}
use Rattle.zoom_pool.specs.Inputs.{Input, IsBehind}
use Rattle.zoom_pool.specs.Transcripts.{Event, Called, Fed, Took, HandedOut, Transcript, IsTranscript, NextInput, empty_transcript, past_of, state_at, sent, after_take, after_call, after_feed}
use Rattle.zoom_pool.specs.Steering.{errand_of, complete_in, is_rejected, IsTried}
use Rattle.zoom_pool.specs.Hosts.{HostState, Holdings, HostAfter, HostTranscript, IsHostTranscript, HostEvent, HostFed, HostFedPart, Released, HostHandedOut, handed_out, replies_to}
use Rattle.zoom_pool.specs.History.{History, events_on}
use Rattle.zoom_pool.specs.Connections.{AreReadBack}
use Rattle.zoom_pool.specs.Metas.{MetaLinks, MetaAfter, IsIdleUnlessStopped, settings_of}
use Rattle.zoom_laws.specs.Accord.{requests, IsConversation}

-- the octets that were fed to the serving end, joined
abbrev pub fed_to : List HostEvent → List ℕ
fed_to [] = []
fed_to (HostFed piece ∷ host_events) = fed_to host_events ++ piece
fed_to (HostFedPart piece ∷ host_events) = fed_to host_events ++ piece
fed_to (_ ∷ host_events) = fed_to host_events

-- each piece was fed whole: memory was found for all of it
abbrev pub ArePlain : List HostEvent → Type 0
ArePlain [] = Unit {0}
ArePlain (HostFedPart piece ∷ host_events) = ⊥
ArePlain (_ ∷ host_events) = ArePlain host_events

-- the APDUs that the log's entries got, the oldest first
abbrev pub got_in : Log → List Apdu
got_in [] = []
got_in (Got v ∷ log) = got_in log ++ v ∷ []
got_in (Made call ∷ log) = got_in log

-- Each end received the front of what the other sent, and neither failed. The messages that the connection took are the
-- replies that the serving end sent, in order, up to those that are still coming.
pub record IsSoundExchange (holdings : Holdings) (settings : Settings) (events : List Event) (p : Transcript)
    (host_events : List HostEvent)
    (host : HostState) : Type 0 where
  -- the transcript of the connection's events, and what the events of the serving end have left
  pub transcript : IsTranscript settings events p
  pub served : HostAfter holdings host_events host
  pub plain : ArePlain host_events
  -- octets on their way to the serving end
  pub to : List ℕ
  pub sends : fed_to host_events ++ to ≡ sent (past_of p)
  -- octets on their way to the connection
  pub from : List ℕ
  pub comes : p.stream ++ from ≡ handed_out host_events
  -- the connection was not stopped, its input did not end, and it refused no reply
  pub goes : p.stop ≡ None
  pub goes_on : p.ended ≡ false
  pub sound : (past_of p).fault ≡ None
  -- the serving end did not stop
  pub serving : served.served.stopped ≡ false
  -- the replies that were sent and not taken yet
  pub coming : List Apdu
  pub got : served.served.sent ≡ got_in p.log ++ coming
  pub count : length (got_in p.log) ≡ p.taken
  -- what each end sent is read back from its octets
  pub asks : AreReadBack (past_of p).sent
  pub answers : AreReadBack served.served.sent

-- ---- what keeps an exchange sound

-- if each piece was fed whole, the events of a serving end have one transcript
abbrev pub OneServedLaw : Type 0
OneServedLaw =
    (holdings : Holdings) (host_events : List HostEvent) (p q : HostTranscript)
    → ArePlain host_events → IsHostTranscript holdings host_events p → IsHostTranscript holdings host_events q → p ≡ q

-- an exchange without events is sound
abbrev pub StartLaw : Type 0
StartLaw =
    (holdings : Holdings) (settings : Settings) (host : HostState)
    → HostAfter holdings [] host → IsSoundExchange holdings settings [] (empty_transcript settings) [] host

-- a call keeps it sound, if all that was sent is read back
abbrev pub CallLaw : Type 0
CallLaw =
    (holdings : Holdings) (settings : Settings) (events : List Event) (p : Transcript) (host_events : List HostEvent)
    (host : HostState)
    (call : Call)
    → IsSoundExchange holdings settings events p host_events host → AreReadBack (past_of (after_call p call)).sent
    → IsSoundExchange holdings settings (Called call ∷ events) (after_call p call) host_events host

-- it stays sound when the connection hands octets out
abbrev pub HandedOutLaw : Type 0
HandedOutLaw =
    (holdings : Holdings) (settings : Settings) (events : List Event) (p : Transcript) (host_events : List HostEvent)
    (host : HostState)
    (octets : List ℕ)
    → IsSoundExchange holdings settings events p host_events host
    → IsSoundExchange holdings settings (HandedOut octets ∷ events) p host_events host

-- it stays sound when a piece of the octets on their way is fed to the serving end
abbrev pub HostFedLaw : Type 0
HostFedLaw =
    (holdings : Holdings) (settings : Settings) (events : List Event) (p : Transcript) (host_events : List HostEvent)
    (host later : HostState) (piece rest : List ℕ) (s : IsSoundExchange holdings settings events p host_events host)
    → s.to ≡ piece ++ rest → HostAfter holdings (HostFed piece ∷ host_events) later
    → IsSoundExchange holdings settings events p (HostFed piece ∷ host_events) later

-- it stays sound when the serving end hands out what waits
abbrev pub HostHandedOutLaw : Type 0
HostHandedOutLaw =
    (holdings : Holdings) (settings : Settings) (events : List Event) (p : Transcript) (host_events : List HostEvent)
    (host later : HostState)
    → IsSoundExchange holdings settings events p host_events host
    → HostAfter holdings (HostHandedOut host.waiting ∷ host_events) later
    → IsSoundExchange holdings settings events p (HostHandedOut host.waiting ∷ host_events) later

-- it stays sound when a piece of the octets on their way is fed to the connection
abbrev pub FedLaw : Type 0
FedLaw =
    (holdings : Holdings) (settings : Settings) (events : List Event) (p : Transcript) (host_events : List HostEvent)
    (host : HostState)
    (piece rest : List ℕ) (s : IsSoundExchange holdings settings events p host_events host)
    → s.from ≡ piece ++ rest → IsSoundExchange holdings settings (Fed piece ∷ events)
    (after_feed p piece) host_events host

-- it stays sound when the connection takes its next input
abbrev pub TakeStepLaw : Type 0
TakeStepLaw =
    (holdings : Holdings) (settings : Settings) (events : List Event) (p : Transcript) (host_events : List HostEvent)
    (host : HostState)
    (input : Input)
    → IsSoundExchange holdings settings events p host_events host → NextInput p input
    → IsSoundExchange holdings settings (Took ∷ events) (after_take p input) host_events host

-- it stays sound when pending reply k is released
abbrev pub ReleasedLaw : Type 0
ReleasedLaw =
    (holdings : Holdings) (settings : Settings) (events : List Event) (p : Transcript) (host_events : List HostEvent)
    (host later : HostState) (k : ℕ)
    → IsSoundExchange holdings settings events p host_events host
    → HostAfter holdings (Released k ∷ host_events) later
    → IsSoundExchange holdings settings events p (Released k ∷ host_events) later

-- ---- what follows

-- the connection got the first of the replies that were sent, as many as it took messages
abbrev pub TakenRepliesLaw : Type 0
TakenRepliesLaw =
    (holdings : Holdings) (settings : Settings) (events : List Event) (p : Transcript) (host_events : List HostEvent)
    (host : HostState)
    (s : IsSoundExchange holdings settings events p host_events host)
    → got_in p.log ≡ take p.taken s.served.served.sent

-- the origin conversed with this target alone
abbrev pub ConversationLaw : Type 0
ConversationLaw =
    (holdings : Holdings) (settings : Settings) (events : List Event) (p : Transcript) (host_events : List HostEvent)
    (host : HostState)
    → IsSoundExchange holdings settings events p host_events host
    → IsConversation holdings.databases holdings.settings p.settings p.log

-- a connection that is over was rejected, or sent its Close
abbrev pub CompletenessLaw : Type 0
CompletenessLaw =
    (holdings : Holdings) (settings : Settings) (events : List Event) (p : Transcript) (host_events : List HostEvent)
    (host : HostState)
    → IsSoundExchange holdings settings events p host_events host → is_stopped (state_at p) ≡ true
    → complete_in (past_of p)
    ≡ true

-- The replies are all that are owed to the requests, their octets all came, and no reply is waited for.
pub record IsSettled (holdings : Holdings) (p : Transcript) (replies : List Apdu) : Type 0 where
  pub answered : IsPermutation (replies_to holdings (requests p.settings p.log)) replies
  pub stream : p.stream ≡ flat_map encoding_of replies
  pub waits : outstanding (past_of p) ≡ []
  pub begun : state_at p ≢ states.Initialising
  pub closed : state_at p ≢ states.Closing

-- the octets behind the messages taken begin with no whole message
abbrev pub HasTakenAll : Transcript → Type 0
HasTakenAll p = (rest : List ℕ) × IsBehind p.stream p.taken rest × IsUnfinished MESSAGE_LIMIT rest

-- if no octets are on their way or wait, no reply is pending and all messages were taken, the exchange is settled
abbrev pub SettledLaw : Type 0
SettledLaw =
    (holdings : Holdings) (settings : Settings) (events : List Event) (p : Transcript) (host_events : List HostEvent)
    (host : HostState)
    (s : IsSoundExchange holdings settings events p host_events host)
    → s.to ≡ [] → s.from ≡ [] → host.waiting ≡ [] → host.target.pending ≡ [] → HasTakenAll p
    → IsSettled holdings p s.served.served.sent

-- ---- what is owed, and how much

-- a pending reply is owed to what was sent
abbrev pub PendingLaw : Type 0
PendingLaw =
    (holdings : Holdings) (settings : Settings) (events : List Event) (p : Transcript) (host_events : List HostEvent)
    (host : HostState)
    → IsSoundExchange holdings settings events p host_events host → (v : Apdu) → Contains host.target.pending v
    → Contains (replies_to holdings (requests p.settings p.log)) v

-- a reply that is owed to the requests of a log is owed to those of a longer log
abbrev pub LongerLaw : Type 0
LongerLaw =
    (holdings : Holdings) (settings : Settings) (more log : Log) (v : Apdu)
    → Contains (replies_to holdings (requests settings log)) v
    → Contains (replies_to holdings (requests settings (more ++ log))) v

-- no more replies than requests were taken, and no more were sent
abbrev pub CountLaw : Type 0
CountLaw =
    (holdings : Holdings) (settings : Settings) (events : List Event) (p : Transcript) (host_events : List HostEvent)
    (host : HostState)
    (s : IsSoundExchange holdings settings events p host_events host)
    → (p.taken ≤ length (past_of p).sent) × (length s.served.served.sent ≤ length (past_of p).sent)

-- if the first pending reply may not be released, none is pending: a Close is the last
abbrev pub EmptyLaw : Type 0
EmptyLaw =
    (holdings : Holdings) (settings : Settings) (events : List Event) (p : Transcript) (host_events : List HostEvent)
    (host : HostState)
    → IsSoundExchange holdings settings events p host_events host → may_release host.target.pending 0 ≡ false
    → host.target.pending ≡ []

-- once a connection is over, the replies sent are all that are owed to its requests, and their octets all came
abbrev pub OverLaw : Type 0
OverLaw =
    (holdings : Holdings) (settings : Settings) (events : List Event) (p : Transcript) (host_events : List HostEvent)
    (host : HostState)
    (s : IsSoundExchange holdings settings events p host_events host)
    → is_stopped (state_at p) ≡ true
    → IsPermutation (replies_to holdings (requests p.settings p.log)) s.served.served.sent
    × (p.stream ≡ flat_map encoding_of s.served.served.sent)

-- ---- connections that are driven

-- if no call is next, no reply is waited for and nothing stopped it, the connection is over
abbrev pub EndedLaw : Type 0
EndedLaw =
    (questions : List Question) (s : MetaSettings) (h : History) (meta : MetaLinks) (c : ℕ) (q : Question)
    (p : Transcript)
    → MetaAfter questions s h meta → slice_get questions c ≡ Some q → IsTranscript (settings_of s) (events_on c h) p
    → IsIdleUnlessStopped (errand_of s q) p → p.stop ≡ None → outstanding (past_of p) ≡ []
    → state_at p ≢ states.Initialising → state_at p ≢ states.Closing → is_stopped (state_at p) ≡ true

-- a complete connection that was not rejected tried its search: the search was admitted or skipped
abbrev pub TriedLaw : Type 0
TriedLaw =
    (questions : List Question) (s : MetaSettings) (h : History) (meta : MetaLinks) (c : ℕ) (q : Question)
    (p : Transcript)
    → MetaAfter questions s h meta → slice_get questions c ≡ Some q → IsTranscript (settings_of s) (events_on c h) p
    → complete_in (past_of p) ≡ true → is_rejected (opening (past_of p)) ≡ false → IsTried p.settings p.log

-- at most 1,000,003 requests are sent, and at most 1,000,003 times MESSAGE_LIMIT octets
abbrev pub FewLaw : Type 0
FewLaw =
    (questions : List Question) (s : MetaSettings) (h : History) (meta : MetaLinks) (c : ℕ) (q : Question)
    (p : Transcript)
    → MetaAfter questions s h meta → slice_get questions c ≡ Some q → IsTranscript (settings_of s) (events_on c h) p
    → (length (past_of p).sent ≤ 1000003) × (length (sent (past_of p)) ≤ 1000003 * MESSAGE_LIMIT)

-- the laws of an exchange
pub record ExchangeLaws : Type 0 where
  pub one_served : OneServedLaw
  pub starts : StartLaw
  pub calls : CallLaw
  pub gives : HandedOutLaw
  pub host_fed : HostFedLaw
  pub handed : HostHandedOutLaw
  pub fed : FedLaw
  pub takes : TakeStepLaw
  pub released : ReleasedLaw
  pub took : TakenRepliesLaw
  pub conversation : ConversationLaw
  pub ends : CompletenessLaw
  pub rests : SettledLaw
  pub pending : PendingLaw
  pub longer : LongerLaw
  pub count : CountLaw
  pub empty : EmptyLaw
  pub over : OverLaw
  pub ended : EndedLaw
  pub tried : TriedLaw
  pub few : FewLaw
