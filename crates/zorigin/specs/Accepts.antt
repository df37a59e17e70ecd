-- Which replies are accepted, stated for the whole log and not step by step (Z39.50-2003, 3.4).
use Rattle.std.specs.Prelude.{◌≡◌, ℕ, true, false, List, [], ◌∷◌, ◌++◌, Option, None, Some, Contains}
use Rattle.zapdu.specs.declared.apdu.Apdu.{Apdu}
use Rattle.zapdu.specs.declared.apdu.Apdu.TheVariants as apdus
use Rattle.zorigin.specs.declared.settings.Settings.{Settings}
use Rattle.zorigin.specs.declared.answer.Asked.{Asked}
use Rattle.zorigin.specs.declared.answer.Answer.{Answer}
use Rattle.zorigin.specs.References.{reference_id}
use Rattle.zorigin.specs.Standings.{is_open}
use Rattle.zorigin.specs.Fitting.{IsFitReply}
use Rattle.zorigin.specs.Log.{Log, Got, past, Past, state_of, asked, is_answered, outstanding, opening, force_after}

-- the reference id of a reply
abbrev pub id_of : Apdu → Option (List ℕ)
id_of (apdus.InitRequest v) = v.reference_id
id_of (apdus.InitResponse v) = v.reference_id
id_of (apdus.SearchRequest v) = v.reference_id
id_of (apdus.SearchResponse v) = v.reference_id
id_of (apdus.PresentRequest v) = v.reference_id
id_of (apdus.PresentResponse v) = v.reference_id
id_of (apdus.Close v) = v.reference_id

-- The reference id is the operation's; or it is absent, concurrent operations are not in force, and no other operation
-- is outstanding.
abbrev pub IsReferenceTo : Past → Asked → Option (List ℕ) → Type 0
IsReferenceTo p q (Some id) = id ≡ reference_id q.op
IsReferenceTo p q None = ((force_after (opening p)).concurrent ≡ false) × (outstanding p ≡ q ∷ [])

-- The reply was taken after a part of the log. In that part its request was admitted and not answered, and the origin
-- took replies, so no message before this one was refused. The reply's reference id names the request, and the reply
-- fits it.
pub record IsAccepted (settings : Settings) (log : Log) (answer : Answer) : Type 0 where
  pub later : Log
  pub earlier : Log
  pub cut : log ≡ later ++ Got answer.reply ∷ earlier
  pub taking : is_open (state_of (past settings earlier)) ≡ true
  pub asked : Contains (asked (past settings earlier)) answer.asked
  pub unanswered : is_answered (past settings earlier) answer.asked.op ≡ false
  pub refers : IsReferenceTo (past settings earlier) answer.asked (id_of answer.reply)
  pub fits : IsFitReply answer.asked.what answer.reply
