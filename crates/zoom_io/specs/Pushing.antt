-- Octets that wait on a connection are written to a device (Z39.50-2003, 3.2).
use Rattle.std.specs.Prelude.{◌≡◌, ℕ, List, ◌∷◌, Some, Result, Ok, Err}
use Rattle.zoom_questions.specs.declared.question.Question.{Question}
use Rattle.zoom_questions.specs.declared.question.MetaSettings.{MetaSettings}
use Rattle.zoom_pool.specs.declared.state.State.TheVariants as states
use Rattle.zoom_pool.specs.declared.state.Reason.TheVariants as reasons
use Rattle.zoom_pool.specs.Transcripts.{HandedOut, Stopped}
use Rattle.zoom_pool.specs.History.{History}
use Rattle.zoom_pool.specs.Links.{waiting_at, stop_at}
use Rattle.zoom_pool.specs.Metas.{MetaLinks, MetaAfterPartial, MetaRecorded}
use Rattle.zoom_devices.specs.Devices.{DeviceState, HasAppendedFront, HasFailed}
use Rattle.zoom_io.specs.declared.outgoing.PushError.{PushError}
use Rattle.zoom_io.specs.declared.outgoing.PushError.TheVariants as errors
use Rattle.std.specs.Io.KnownBytes.{Appends}

-- Octets were handed out, a write failed, and the connection was stopped for `Write`.
abbrev pub MetaWriteFailed : ℕ → List ℕ → MetaLinks → MetaLinks → Type 0
MetaWriteFailed c octets old new =
    (questions : List Question) (s : MetaSettings) (partial : List ℕ) (h : History)
    → MetaAfterPartial questions s partial h old
    → MetaAfterPartial questions s partial ((c, Stopped reasons.Write) ∷ (c, HandedOut octets) ∷ h) new

-- After a push: all that waited was written; a write failed after a front of it; or no memory was found, and nothing
-- changed.
abbrev pub AfterPush : ℕ → Result (Unit {0}) PushError → MetaLinks → MetaLinks → DeviceState → DeviceState → Type 0
AfterPush c (Ok _) old new sink held =
    MetaRecorded c (HandedOut (waiting_at old.pool c)) old new
    × Appends sink.octets held.octets (waiting_at old.pool c) × (held.failures ≡ sink.failures)
AfterPush c (Err errors.Write) old new sink held =
    MetaWriteFailed c (waiting_at old.pool c) old new
    × HasAppendedFront sink.octets held.octets (waiting_at old.pool c) × HasFailed sink.failures held.failures
AfterPush c (Err errors.Memory) old new sink held = (new ≡ old) × (held ≡ sink)

-- If a write failed, the connection has failed for `Write`.
abbrev pub IsBroken : {A : Type 0} → ℕ → Result A PushError → MetaLinks → Type 0
IsBroken c (Err errors.Write) new = stop_at new.pool c ≡ Some (states.Failed reasons.Write)
IsBroken c _ new = Unit {0}
