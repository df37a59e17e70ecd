-- What a replay leaves is what the asking left of which its trace tells.
use Rattle.std.specs.Prelude.{◌≡◌, ℕ, true, List, [], length}
use Rattle.zoom_pool.specs.declared.state.State.{State}
use Rattle.zoom_pool.specs.Metas.{MetaLinks}
use Rattle.zoom_pool.specs.PoolSteps.{IsStateAt}
use Rattle.zoom_asking.specs.Asked.{IsAskedBy}
use Rattle.zoom_asking.specs.Inquiries.{Inquiry}
use Rattle.zoom_trace.specs.declared.entry.TraceEntry.{TraceEntry}
use Rattle.zoom_trace.specs.Replays.{history_after}
use Rattle.zmeta_trace.specs.declared.replaying.Replayed.{Replayed}
use Rattle.zmeta_trace.specs.Replays.{IsReplayed}

-- The same is known of both: so many connections, the same facts, and the same state of each connection.
pub record IsSameKnown (one other : MetaLinks) : Type 0 where
  pub size : length one.pool.connections ≡ length other.pool.connections
  pub facts : one.pool.knowledge ≡ other.pool.knowledge
  pub states : (c : ℕ) (s t : State) → IsStateAt c one.pool s → IsStateAt c other.pool t → s ≡ t

-- An asking went on until each connection was over, and what its entries tell left what is known. Entries that tell the
-- same were replayed, by the same inquiry, which has a host or none for each question. Then the same is known, and each
-- connection is over.
abbrev pub KnownLaw : Type 0
KnownLaw =
    (i : Inquiry) (told es : List TraceEntry) (meta : MetaLinks) (r : Replayed)
    → length i.hosts ≡ length i.questions → history_after es [] ≡ history_after told []
    → IsAskedBy i (history_after told []) meta → IsReplayed i es r → IsSameKnown meta r.meta × (r.is_over ≡ true)
