-- After want of memory, no call of a device failed.
use Rattle.std.specs.Prelude.{Result, Err}
use Rattle.zoom_io.specs.declared.outgoing.PushError.{PushError}
use Rattle.zoom_io.specs.declared.outgoing.PushError.TheVariants as pushes
use Rattle.zoom_io.specs.declared.conversation.TalkError.{TalkError}
use Rattle.zoom_io.specs.declared.conversation.TalkError.TheVariants as errors

-- This holds if a push found no memory.
abbrev pub IfPushMemory : {A : Type 0} → Result A PushError → Type 0 → Type 0
IfPushMemory (Err pushes.Memory) Fact = Fact
IfPushMemory _ Fact = Unit {0}

-- This holds if a talk found no memory.
abbrev pub IfTalkMemory : {A : Type 0} → Result A TalkError → Type 0 → Type 0
IfTalkMemory (Err errors.Memory) Fact = Fact
IfTalkMemory _ Fact = Unit {0}
