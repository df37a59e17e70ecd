-- After want of memory, no call of a device failed.
use Rattle.std.proofs.Common.{◌≡◌, ap, ℕ, Bool, Result, Ok, Err, true, false, true≢false}
use Rattle.zoom_pool.specs.Metas.{MetaLinks}
use Rattle.zoom_devices.specs.Devices.{DeviceState, HasNoFailure}
use Rattle.zoom_io.specs.declared.outgoing.PushError.{PushError}
use Rattle.zoom_io.specs.declared.outgoing.PushError.TheVariants as pushes
use Rattle.zoom_io.specs.declared.conversation.TalkError.{TalkError}
use Rattle.zoom_io.specs.declared.conversation.TalkError.TheVariants as errors
use Rattle.zoom_io.specs.Pushing.{AfterPush}
use Rattle.zoom_io.specs.Talking.{AfterSettle, AfterListen, talk_error}
use Rattle.zoom_io.specs.Blameless.{IfPushMemory, IfTalkMemory}

pub if_push : {A P : Type 0} (r : Result A PushError) → P → IfPushMemory r P
if_push (Ok x) p = tt
if_push (Err pushes.Write) p = tt
if_push (Err pushes.Memory) p = p

pub if_talk : {A P : Type 0} (r : Result A TalkError) → P → IfTalkMemory r P
if_talk (Ok x) p = tt
if_talk (Err errors.Read) p = tt
if_talk (Err errors.Write) p = tt
if_talk (Err errors.Ended) p = tt
if_talk (Err errors.Turns) p = tt
if_talk (Err errors.Memory) p = p

-- A push that found no memory wrote nothing.
pub pushed_soundly : (c : ℕ) (r : Result (Unit {0}) PushError) (old new : MetaLinks) (sink held : DeviceState)
    → AfterPush c r old new sink held → IfPushMemory r (HasNoFailure sink held)
pushed_soundly c (Ok u) old new sink held p = tt
pushed_soundly c (Err pushes.Write) old new sink held p = tt
pushed_soundly c (Err pushes.Memory) old new sink held p = ap (λ z. z.failures) p.1

pub push_memory : (A B : Type 0) {P Q : Type 0} (e : PushError) → (P → Q) → IfPushMemory {A = A} (Err e) P
    → IfPushMemory {A = B} (Err e) Q
push_memory A B pushes.Write f p = tt
push_memory A B pushes.Memory f p = f p

pub push_to_talk : (A B : Type 0) {P Q : Type 0} (e : PushError) → (P → Q) → IfPushMemory {A = A} (Err e) P
    → IfTalkMemory {A = B} (Err (talk_error e)) Q
push_to_talk A B pushes.Write f p = tt
push_to_talk A B pushes.Memory f p = f p

pub talk_memory : (A B : Type 0) {P Q : Type 0} (e : TalkError) → (P → Q) → IfTalkMemory {A = A} (Err e) P
    → IfTalkMemory {A = B} (Err e) Q
talk_memory A B errors.Read f p = tt
talk_memory A B errors.Write f p = tt
talk_memory A B errors.Ended f p = tt
talk_memory A B errors.Turns f p = tt
talk_memory A B errors.Memory f p = f p

-- At the end of the input, no read failed.
pub ended_soundly : (c : ℕ) (more : Bool) (old new : MetaLinks) (source left : DeviceState)
    → AfterListen c (Ok more) old new source left → more ≡ false → HasNoFailure source left
ended_soundly c true old new source left a e = absurd (true≢false e)
ended_soundly c false old new source left a e = a.1.failures

-- Settling that went on wrote soundly.
pub settled_soundly : (c : ℕ) (over : Bool) (old new : MetaLinks) (sink held : DeviceState)
    → AfterSettle c (Ok over) old new sink held → HasNoFailure sink held
settled_soundly c true old new sink held a = (a sink).step.writer
settled_soundly c false old new sink held a = (a sink).step.writer
