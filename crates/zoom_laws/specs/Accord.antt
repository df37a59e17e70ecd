-- An origin and a target in conversation: the target takes each request, and the origin accepts each reply that the
-- target owes (Z39.50-2003, 3.2 and 3.4).
use Rattle.std.specs.Prelude.{◌≡◌, ◌≢◌, false, List, [], ◌∷◌, ◌++◌, reverse, None, Some, Ok, Contains, IsPermutation}
use Rattle.zapdu.specs.declared.apdu.Apdu.{Apdu}
use Rattle.zapdu.specs.declared.apdu.Apdu.TheVariants as apdus
use Rattle.zapdu.specs.declared.productions.close.Close.{Close}
use Rattle.zorigin.specs.declared.settings.Settings.{Settings}
use Rattle.zorigin.specs.declared.answer.Asked.{Asked}
use Rattle.zorigin.specs.declared.answer.Answer.{Answer as Accepted}
use Rattle.zorigin.specs.declared.answer.Taken.{Taken}
use Rattle.zorigin.specs.declared.answer.Taken.TheVariants as taken
use Rattle.zorigin.specs.References.{reference_id}
use Rattle.zorigin.specs.Standings as calls
use Rattle.zorigin.specs.Fitting.{IsFitReply}
use Rattle.zorigin.specs.Replies.{verdict, taken_as}
use Rattle.zorigin.specs.Accepts.{id_of}
use Rattle.zorigin.specs.Log.{Log, past, asked, standing}
use Rattle.ztarget.specs.declared.database.Database.{Database}
use Rattle.ztarget.specs.declared.settings.TargetSettings.{TargetSettings}
use Rattle.ztarget.specs.Replies.{OwedReply, owed, replies}

-- the requests that the calls of the log sent, the newest first
abbrev pub requests : Settings → Log → List Apdu
requests settings log = reverse (past settings log).sent

-- the target takes each of these requests, listed with the newest first, after those before it
abbrev pub AreTaken : List Database → TargetSettings → List Apdu → Type 0
AreTaken databases target [] = Unit {0}
AreTaken databases target (v ∷ received) =
    ((a : OwedReply) × (owed databases target received v ≡ Ok a)) × AreTaken databases target received

-- the replies that the target owes to the requests that were sent, in their order
abbrev pub replies_due : List Database → TargetSettings → Settings → Log → List Apdu
replies_due databases target settings log = replies databases target (requests settings log)

-- The origin conversed with this target alone: each reply that it accepted is owed to its requests, and it refused no
-- reply.
pub record IsConversation (databases : List Database) (target : TargetSettings) (settings : Settings) (log : Log)
    : Type 0 where
  pub owed : (x : Accepted) → Contains (past settings log).accepted x
      → Contains (replies_due databases target settings log) x.reply
  pub sound : (past settings log).fault ≡ None

-- no reply with this reply's reference id was accepted
abbrev pub IsUnanswered : Settings → Log → Apdu → Type 0
IsUnanswered settings log reply =
    (x : Accepted) → Contains (past settings log).accepted x → id_of x.reply ≢ id_of reply

-- the operation was admitted, and the reply has its reference id
pub record IsReplyTo (settings : Settings) (log : Log) (reply : Apdu) (q : Asked) : Type 0 where
  pub asked : Contains (asked (past settings log)) q
  pub id : id_of reply ≡ Some (reference_id q.op)

-- the target's Close ends the association; any other reply answers the operation with its reference id
abbrev pub IsTakenAs : Settings → Log → Apdu → Taken → Type 0
IsTakenAs settings log (apdus.Close c) x = x ≡ taken.Closed
IsTakenAs settings log reply x =
    (q : Asked) × IsReplyTo settings log reply q × (x ≡ taken_as (record { asked = q; reply = reply }))

-- ---- the laws

-- the target takes each request
abbrev pub TakenLaw : Type 0
TakenLaw =
    (databases : List Database) (target : TargetSettings) (settings : Settings) (log : Log)
    → IsConversation databases target settings log → AreTaken databases target (requests settings log)

-- until a Close is accepted, the origin accepts each owed reply that it has not accepted yet
abbrev pub AcceptanceLaw : Type 0
AcceptanceLaw =
    (databases : List Database) (target : TargetSettings) (settings : Settings) (log : Log) (reply : Apdu)
    → IsConversation databases target settings log → (past settings log).closed ≡ false
    → Contains (replies_due databases target settings log) reply → IsUnanswered settings log reply
    → (x : Taken) × (verdict (standing (past settings log)) reply ≡ Ok x) × IsTakenAs settings log reply x

-- a Close that is owed was never accepted as a reply to an operation
abbrev pub UnansweredLaw : Type 0
UnansweredLaw =
    (databases : List Database) (target : TargetSettings) (settings : Settings) (log : Log) (close : Close)
    → IsConversation databases target settings log
    → Contains (replies_due databases target settings log) (apdus.Close close)
    → IsUnanswered settings log (apdus.Close close)

-- of the replies that are owed, no reply that was released has the reference id of one that is pending
abbrev pub ApartLaw : Type 0
ApartLaw =
    (databases : List Database) (target : TargetSettings) (settings : Settings) (log : Log)
    (released pending : List Apdu) (a b : Apdu)
    → IsPermutation (replies_due databases target settings log) (released ++ pending)
    → Contains released a → Contains pending b → id_of a ≢ id_of b

-- a reply is owed to each operation that was admitted
abbrev pub OwedReplyLaw : Type 0
OwedReplyLaw =
    (databases : List Database) (target : TargetSettings) (settings : Settings) (log : Log) (q : Asked)
    → IsConversation databases target settings log → Contains (asked (past settings log)) q
    → (reply : Apdu) × Contains (replies_due databases target settings log) reply
    × (id_of reply ≡ Some (reference_id q.op))

-- if Close was admitted, a Close is owed behind all other replies
abbrev pub OwedCloseLaw : Type 0
OwedCloseLaw =
    (databases : List Database) (target : TargetSettings) (settings : Settings) (log : Log)
    → IsConversation databases target settings log → Contains (past settings log).admitted calls.Close
    → (close : Close) × (others : List Apdu)
    × (replies_due databases target settings log ≡ others ++ apdus.Close close ∷ [])

-- the reply that is owed to an operation fits it
abbrev pub FittingLaw : Type 0
FittingLaw =
    (databases : List Database) (target : TargetSettings) (settings : Settings) (log : Log) (q : Asked) (reply : Apdu)
    → Contains (replies_due databases target settings log) reply → IsReplyTo settings log reply q
    → IsFitReply q.what reply

-- the laws of a conversation
pub record AccordLaws : Type 0 where
  pub taken : TakenLaw
  pub accepts : AcceptanceLaw
  pub unanswered : UnansweredLaw
  pub apart : ApartLaw
  pub owes : OwedReplyLaw
  pub owes_close : OwedCloseLaw
  pub fits : FittingLaw
