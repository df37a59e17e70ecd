-- The events that can have left a connection as it is.
use Rattle.std.specs.Prelude.{◌≡◌, true, false, ℕ, List, [], ◌∷◌, ◌++◌, Option, None, Some}
use Rattle.zber.specs.Elements.{Element}
use Rattle.zber.specs.Spelling.{HasFirstMessage}
use Rattle.zber.specs.Stream.{Stream}
use Rattle.zapdu.specs.declared.apdu.Apdu.{Apdu}
use Rattle.zorigin.specs.declared.settings.Settings.{Settings}
use Rattle.zorigin.specs.Log.{After as OriginAfter}
use Rattle.zorigin.specs.Sending.{sent_of, IsReadBack}
use Rattle.zoom_pool.specs.States.{is_going}
use Rattle.zoom_pool.specs.Inputs.{IsBehind}
use Rattle.zber.specs.declared.framer.TheConstants.{MESSAGE_LIMIT}
use Rattle.zoom_pool.specs.Transcripts.{Transcript, Event, IsTranscript, past_of, given, is_lost, sent}
use Rattle.zoom_pool.specs.Links.{Link}

-- the octets not yet taken begin with the message kept, if there is one; the framer has those that follow
abbrev pub IsKept : List ℕ → Option Element → List ℕ → Type 0
IsKept rest None octets = rest ≡ octets
IsKept rest (Some e) octets = HasFirstMessage MESSAGE_LIMIT rest e octets

-- The framer has the octets that follow the messages taken and the message kept. It has no fault if the connection
-- was not stopped.
pub record FramerAfter (p : Transcript) (held : Option Element) (framer : Stream) : Type 0 where
  pub rest : List ℕ
  pub behind : IsBehind p.stream p.taken rest
  pub kept : IsKept rest held framer.octets
  pub limited : framer.limit ≡ MESSAGE_LIMIT
  pub sound : is_going p.stop ≡ true → framer.fault ≡ None

-- The transcript agrees with this connection.
pub record AreConsistent (p : Transcript) (c : Link) : Type 0 where
  pub origin : OriginAfter p.settings p.log c.origin
  pub frames : FramerAfter p c.held c.framer
  pub ended : c.ended ≡ p.ended
  pub stop : c.stop ≡ p.stop

-- unless a write failed, the octets handed out, then those that wait, are the octets sent
abbrev pub WaitingAfter : List Event → Transcript → List ℕ → Type 0
WaitingAfter events p waiting = is_lost events ≡ false → given events ++ waiting ≡ sent (past_of p)

-- each is read back from its encoding, whatever octets follow
abbrev pub AreReadBack : List Apdu → Type 0
AreReadBack [] = Unit {0}
AreReadBack (v ∷ vs) = IsReadBack (sent_of v) × AreReadBack vs

-- These events can have left this connection, and `p` is their transcript.
pub record ConnectionAfter (settings : Settings) (events : List Event) (p : Transcript) (c : Link) : Type 0 where
  pub transcript : IsTranscript settings events p
  pub matches : AreConsistent p c
  pub waiting : WaitingAfter events p c.waiting
  -- each request sent is read back from its encoding
  pub reads : AreReadBack (past_of p).sent
