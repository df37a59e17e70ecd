-- The history of a pool, and what it amounts to.
use Rattle.std.specs.Prelude.{◌≡◌, ◌⊎◌, ℕ, ◌≤◌, ◌==◌, not, ◌||◌, List, [], map, filter, length, slice_get, Some, None, Contains}
use Rattle.std.specs.List.{flat_map}
use Rattle.zknow.specs.declared.fact.Fact.{Fact}
use Rattle.zknow.specs.Facts.{AreFacts}
use Rattle.zorigin.specs.declared.settings.Settings.{Settings}
use Rattle.zorigin.specs.declared.answer.Answer.{Answer}
use Rattle.zorigin_facts.specs.Facts.{facts_of}
use Rattle.zoom_pool.specs.States.{is_stopped}
use Rattle.zoom_pool.specs.Transcripts.{Event, Transcript, empty_transcript, past_of, state_at, IsNews}
use Rattle.zoom_pool.specs.Connections.{ConnectionAfter}
use Rattle.zoom_pool.specs.Links.{Link, Links}

-- events with the numbers of their connections, newest first
abbrev pub History : Type 0
History = List (ℕ × Event)

-- the events of connection `c`, newest first
abbrev pub events_on : ℕ → History → List Event
events_on c h = map (λ e. e.1) (filter (λ e. e.0 == c) h)

-- the answers of a connection
abbrev pub accepted : Transcript → List Answer
accepted p = (past_of p).accepted

-- the facts of its answers, each reply read against its own request
abbrev pub facts_at : ℕ → Transcript → List Fact
facts_at c p = flat_map (facts_of c) (accepted p)

-- an answer of some connection has this fact
abbrev pub IsKnown : (ℕ → Transcript) → Fact → Type 0
IsKnown transcript q = (c : ℕ) × Contains (facts_at c (transcript c)) q

-- each connection can have been left by its own events, with this transcript; no other number has events
pub record AreTranscripts (settings : Settings) (h : History) (transcript : ℕ → Transcript)
    (connections : List Link) : Type 0 where
  pub each : (c : ℕ) (k : Link) → slice_get connections c ≡ Some k
      → ConnectionAfter settings (events_on c h) (transcript c) k
  pub others : (c : ℕ) → length connections ≤ c → (events_on c h ≡ []) × (transcript c ≡ empty_transcript settings)

-- the next message of connection `c` says this: the next Take adds it, or would add it if the connection had not
-- been stopped
abbrev pub IsPendingAt : ℕ → Transcript → Fact → Type 0
IsPendingAt c p q = IsNews c (record p { stop = None }) q

-- the next message of one of these connections says this
abbrev pub IsPending : List ℕ → (ℕ → Transcript) → Fact → Type 0
IsPending partial transcript q = (c : ℕ) × Contains partial c × IsPendingAt c (transcript c) q

-- The history can have left this pool. Each fact of the answers is known. A Take of each of the connections `partial`
-- may have found no memory since its last message, so some facts of its next message may be known too; no others are.
pub record AfterPartial (settings : Settings) (partial : List ℕ) (h : History) (pool : Links) : Type 0 where
  pub transcript : ℕ → Transcript
  pub stands : AreTranscripts settings h transcript pool.connections
  pub has : (q : Fact) → IsKnown transcript q → Contains pool.knowledge q
  pub within : (q : Fact) → Contains pool.knowledge q → IsKnown transcript q ⊎ IsPending partial transcript q
  pub lawful : AreFacts pool.knowledge

-- The history can have left this pool, and there is no such connection: the facts known are exactly those of the
-- answers (`ExactLaw`).
abbrev pub After : Settings → History → Links → Type 0
After settings h pool = AfterPartial settings [] h pool

-- the connections of `partial` after a Take of `c`, which had this transcript: `c` is none of them any more, unless
-- it was stopped before
abbrev pub partial_after : ℕ → Transcript → List ℕ → List ℕ
partial_after c p partial = filter (λ d. is_stopped (state_at p) || not (c == d)) partial
