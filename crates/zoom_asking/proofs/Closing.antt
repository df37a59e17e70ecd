-- A connection was closed.
use Rattle.std.proofs.Common.{◌≡◌, ◌∙◌, sym, ap, ℕ, List, ◌∷◌, refl}
use Rattle.zoom_pool.specs.declared.state.Reason.{Reason}
use Rattle.zoom_pool.specs.Transcripts.{Event, Took, InputEnded, Stopped}
use Rattle.zoom_pool.specs.Metas.{MetaLinks, MetaRecorded}
use Rattle.zoom_clock.specs.declared.signal.Ending.{Ending}
use Rattle.zoom_clock.specs.declared.signal.Ending.TheVariants as endings
use Rattle.zoom_asking.specs.declared.talk.Receipt.{Receipt}
use Rattle.zoom_asking.specs.Steps.{IsExtended, IsReceived}
use Rattle.zoom_asking.specs.Talks.{IsClosed, closing}
use Rattle.zoom_asking.proofs.Extending.{IsAdded, recorded, extended_as, extended_on}
use Rattle.zoom_asking.proofs.Taking.{received_adds}

-- the connection was closed so, and no octets were handed out
abbrev pub IsClosing : ℕ → Ending → MetaLinks → MetaLinks → Type 0
IsClosing c ending old new = (waits : List ℕ) → IsExtended c (IsClosed ending) old new waits waits

-- It was stopped for this reason, if that is how it is closed.
pub closed_by : (c : ℕ) (reason : Reason) (ending this : Ending) (old new : MetaLinks) → ending ≡ this
    → ((events : List Event) → Stopped reason ∷ events ≡ closing this events)
    → MetaRecorded c (Stopped reason) old new → IsClosing c ending old new
closed_by c reason ending this old new is so after waits =
    extended_as c (IsAdded (Stopped reason)) (IsClosed ending) old new waits waits
    (λ s question xs ys added. added ∙ so xs ∙ ap (λ e. closing e xs) (sym is))
    (recorded c (Stopped reason) old new waits (λ events. refl) after)

-- Its input ended, and a last message was taken.
pub closed_at_end : (c : ℕ) (receipt : Receipt) (ending : Ending) (old mid new : MetaLinks)
    → ending ≡ endings.InputEnded → MetaRecorded c InputEnded old mid
    → ((waits : List ℕ) → IsExtended c (IsReceived receipt) mid new waits waits) → IsClosing c ending old new
closed_at_end c receipt ending old mid new is after taken waits =
    extended_on c (IsAdded InputEnded) (IsReceived receipt) (IsClosed ending) old mid new waits waits waits
    (λ s question xs ys zs ended took. received_adds receipt s question ys zs took ∙ ap (λ z. Took ∷ z) ended
    ∙ ap (λ e. closing e xs) (sym is))
    (recorded c InputEnded old mid waits (λ events. refl) after) (taken waits)
