-- No reply that a target owes to the requests for a question is longer than a message may be (Z39.50-2003, 3.2.1.1 and
-- 3.3; X.690, 8.1).
use Rattle.std.specs.Prelude.{◌≡◌, ◌⊎◌, ℕ, ◌≤◌, true, false, List, [], ◌∷◌, length, slice_get, None, Some, Contains}
use Rattle.std.specs.List.{AllByRecursion}
use Rattle.zapdu.specs.declared.apdu.Apdu.{Apdu}
use Rattle.zapdu.specs.declared.apdu.Apdu.TheVariants as apdus
use Rattle.zorigin.specs.Sending.{search_value}
use Rattle.zplan.specs.Plan as plan
use Rattle.zplan.specs.Plan.{number}
use Rattle.zplan.specs.Positions.{IsIn}
use Rattle.ztarget.specs.declared.database.Database.{Database}
use Rattle.ztarget.specs.declared.settings.TargetSettings.{TargetSettings}
use Rattle.ztarget.specs.Faults.{Bib1Fault, match_fault}
use Rattle.ztarget.specs.Positions.{at_positions}
use Rattle.ztarget.specs.Responding.{search_failed}
use Rattle.ztarget.specs.Searching.{Found}
use Rattle.ztarget.specs.Showing.{in_syntax, size_of}
use Rattle.zoom_questions.specs.declared.question.Question.{Question}
use Rattle.zoom_questions.specs.declared.question.MetaSettings.{MetaSettings}
use Rattle.zoom_pool.specs.Transcripts.{Transcript, IsTranscript}
use Rattle.zoom_pool.specs.Hosts.{IsShort}
use Rattle.zoom_pool.specs.History.{History, events_on}
use Rattle.zoom_pool.specs.Steering.{ask_of}
use Rattle.zoom_pool.specs.Metas.{MetaLinks, MetaAfter, settings_of}
use Rattle.zoom_laws.specs.Accord.{replies_due}
use Rattle.zoom_laws.specs.Catalogue.{size_given, entries_for, positions_due, HasFittingRecords}

-- The response that a target owes to the question's search if it does not support it for this reason. Of the search it
-- has the reference id alone, which has the number of the operation.
abbrev pub fault_reply : Question → Bib1Fault → Apdu
fault_reply q reason =
    apdus.SearchResponse (search_failed (search_value true (number plan.Search) 1 (ask_of q)) reason)

-- if the target accepts associations and does not support the search, the response that says why is no longer than a
-- message may be
abbrev pub HasShortFault : Question → List Database → TargetSettings → Type 0
HasShortFault q databases settings =
    (reason : Bib1Fault) → settings.refuse ≡ false → match_fault databases q.databases q.query ≡ Some reason
    → IsShort (fault_reply q reason)

-- if the target accepts associations and does not support the search, the text that says why has at most 2,000,000
-- octets
abbrev pub HasShortText : Question → List Database → TargetSettings → Type 0
HasShortText q databases settings =
    (reason : Bib1Fault) → settings.refuse ≡ false → match_fault databases q.databases q.query ≡ Some reason
    → length reason.info ≤ 2000000

-- If the target accepts associations and supports the search, each record that is due is within the size that is given,
-- or its database has a name of at most 2,000,000 octets. A diagnostic with that name replaces a record that does not
-- fit.
abbrev pub HasShortRecords : Question → List Database → TargetSettings → Type 0
HasShortRecords q databases settings =
    settings.refuse ≡ false → match_fault databases q.databases q.query ≡ None
    → (p : ℕ) (f : Found) → IsIn p (positions_due q (entries_for q databases))
    → IsIn f (at_positions (entries_for q databases) (p ∷ []))
    → (size_of (in_syntax q.syntax f) ≤ size_given settings) ⊎ (length f.database ≤ 2000000)

-- each database has a name of at most 2,000,000 octets
abbrev pub HaveShortNames : List Database → Type 0
HaveShortNames databases = AllByRecursion (λ (d : Database). length d.name ≤ 2000000) databases

-- no reply that a target owes to what the connection sent is longer than a message may be
abbrev pub AreShortReplies : List Database → TargetSettings → Transcript → Type 0
AreShortReplies databases settings p =
    (reply : Apdu) → Contains (replies_due databases settings p.settings p.log) reply → IsShort reply

-- a driven connection is owed short replies alone by each target whose records and response to a search that it does
-- not support are short, whatever replies it accepted
abbrev pub ShortRepliesLaw : Type 0
ShortRepliesLaw =
    (questions : List Question) (s : MetaSettings) (h : History) (meta : MetaLinks) (c : ℕ) (q : Question)
    (p : Transcript)
    (databases : List Database) (settings : TargetSettings)
    → MetaAfter questions s h meta → slice_get questions c ≡ Some q → IsTranscript (settings_of s) (events_on c h) p
    → HasShortRecords q databases settings → HasShortFault q databases settings → AreShortReplies databases settings p

-- records that fit are short
abbrev pub FittingRecordsLaw : Type 0
FittingRecordsLaw =
    (q : Question) (databases : List Database) (settings : TargetSettings)
    → HasFittingRecords q databases settings → HasShortRecords q databases settings

-- records of databases with short names are short
abbrev pub ShortNamesLaw : Type 0
ShortNamesLaw =
    (q : Question) (databases : List Database) (settings : TargetSettings)
    → HaveShortNames databases → HasShortRecords q databases settings

-- a response with a short text is short
abbrev pub ShortTextLaw : Type 0
ShortTextLaw =
    (q : Question) (databases : List Database) (settings : TargetSettings)
    → HasShortText q databases settings → HasShortFault q databases settings

-- the laws of the lengths of replies
pub record LengthLaws : Type 0 where
  pub short : ShortRepliesLaw
  pub fitting : FittingRecordsLaw
  pub named : ShortNamesLaw
  pub text : ShortTextLaw
