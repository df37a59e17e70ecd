-- The names of reasons, in ASCII codes; a reason within others gives them its name.
use Rattle.std.specs.Prelude.{ℕ, List, ◌++◌, codes}
use Rattle.std.specs.Fmt.{decimal}
use Rattle.zber.specs.Faults.{fault_kind_name}
use Rattle.zapdu.specs.Apdus.{apdu_error_name as apdu_word}
use Rattle.zorigin.specs.Refusal.{reply_refusal_name}
use Rattle.zoom_pool.specs.declared.state.Reason.{Reason}
use Rattle.zoom_pool.specs.declared.state.Reason.TheVariants as reasons
use Rattle.zoom_pool.specs.declared.step.TakeError.{TakeError}
use Rattle.zoom_pool.specs.declared.step.TakeError.TheVariants as errors

-- the name of the reason for which a connection failed
abbrev pub reason_name : Reason → List ℕ
reason_name (reasons.Frame kind at) = fault_kind_name kind
reason_name (reasons.Decode error) = apdu_word error
reason_name (reasons.Refused reason) = reply_refusal_name reason
reason_name reasons.Ended = codes "Ended"
reason_name reasons.Connect = codes "Connect"
reason_name reasons.Read = codes "Read"
reason_name reasons.Write = codes "Write"
reason_name reasons.Turns = codes "Turns"
reason_name reasons.Memory = codes "Memory"

-- the name of the reason for which a message was not taken
abbrev pub error_name : TakeError → List ℕ
error_name (errors.Frame kind at) = fault_kind_name kind
error_name (errors.Decode error) = apdu_word error
error_name (errors.Refused reason) = reply_refusal_name reason
error_name errors.Memory = codes "Memory"

-- the text that `{}` prints of it
abbrev pub error_text : TakeError → List ℕ
error_text (errors.Frame kind at) = fault_kind_name kind ++ codes " at " ++ decimal at
error_text (errors.Decode error) = codes "not an APDU that is known"
error_text (errors.Refused reason) = codes "not accepted"
error_text errors.Memory = codes "out of memory"
