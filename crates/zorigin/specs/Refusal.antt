-- The names of refusals, in ASCII codes.
use Rattle.std.specs.Prelude.{ℕ, List, codes}
use Rattle.zorigin.specs.declared.refusal.CallRefused.{CallRefused}
use Rattle.zorigin.specs.declared.refusal.CallRefused.TheVariants as calls
use Rattle.zorigin.specs.declared.refusal.Refused.{Refused}
use Rattle.zorigin.specs.declared.refusal.Refused.TheVariants as replies

-- the name of the refusal of a call
abbrev pub call_refusal_name : CallRefused → List ℕ
call_refusal_name calls.WrongState = codes "WrongState"
call_refusal_name calls.NotOffered = codes "NotOffered"
call_refusal_name calls.OpUsed = codes "OpUsed"
call_refusal_name calls.SetUsed = codes "SetUsed"
call_refusal_name calls.SetUnknown = codes "SetUnknown"
call_refusal_name calls.SetNotReady = codes "SetNotReady"
call_refusal_name calls.SetReplaced = codes "SetReplaced"
call_refusal_name calls.OutOfRange = codes "OutOfRange"
call_refusal_name calls.Busy = codes "Busy"
call_refusal_name calls.Unsendable = codes "Unsendable"
call_refusal_name calls.Memory = codes "Memory"

-- the name of the refusal of a reply
abbrev pub reply_refusal_name : Refused → List ℕ
reply_refusal_name replies.WrongState = codes "WrongState"
reply_refusal_name replies.WrongKind = codes "WrongKind"
reply_refusal_name replies.UnknownReference = codes "UnknownReference"
reply_refusal_name replies.CountMismatch = codes "CountMismatch"
reply_refusal_name replies.BadNumber = codes "BadNumber"
reply_refusal_name replies.BadShape = codes "BadShape"
reply_refusal_name replies.Memory = codes "Memory"
