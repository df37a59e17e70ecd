-- The facts that a question brings from a target's catalogue, with no message and no protocol in them. A complete
-- exchange with the target makes exactly these known (Z39.50-2003, 3.2.1.1, 3.2.2.1 and 3.2.3.1).
use Rattle.std.specs.Prelude.{◌≡◌, ◌↔◌, ◌⊎◌, ℕ, pos, ◌≤◌, true, false, if◌then◌else◌, List, [], ◌∷◌, map, reverse, length, slice_get, Option, None, Some, Contains}
use Rattle.std.specs.Int.{int_min}
use Rattle.std.specs.List.{flat_map}
use Rattle.zapdu.specs.declared.productions.diagnostic.DiagRec.TheVariants.{Default}
use Rattle.zknow.specs.declared.fact.Fact.{Fact}
use Rattle.zknow.specs.declared.fact.Fact.TheVariants.{Count, Failed, Seen, Diag}
use Rattle.zplan.specs.Positions.{IsIn, up_to}
use Rattle.zorigin.specs.declared.answer.Answer.{Answer}
use Rattle.zplan.specs.Ranges.{positions, natural}
use Rattle.zorigin.specs.Sending.{search_request, is_unsendable}
use Rattle.ztarget.specs.declared.database.Database.{Database}
use Rattle.ztarget.specs.declared.settings.TargetSettings.{TargetSettings}
use Rattle.ztarget.specs.Faults.{Bib1Fault, match_fault}
use Rattle.ztarget.specs.Searching.{Found, result_set}
use Rattle.ztarget.specs.Showing.{diagnostic, in_syntax, size_of}
use Rattle.ztarget.specs.Positions.{at_positions}
use Rattle.ztarget.specs.Replies.{replies}
use Rattle.zoom_questions.specs.declared.question.Question.{Question}
use Rattle.zoom_questions.specs.declared.question.MetaSettings.{MetaSettings}
use Rattle.zoom_pool.specs.Steering.{ask_of}
use Rattle.zoom_pool.specs.Transcripts.{Transcript, IsTranscript, past_of}
use Rattle.zoom_pool.specs.History.{History, events_on, accepted, facts_at}
use Rattle.zoom_pool.specs.Metas.{MetaLinks, MetaAfter, is_skipped, settings_of}
use Rattle.zoom_laws.specs.Schedules.{IsCompleteTranscript}

-- ---- the facts of the catalogue

-- the entries that the question finds
abbrev pub entries_for : Question → List Database → List Found
entries_for q databases = result_set databases q.databases q.query.root

-- the wanted positions, up to the number of entries found
abbrev pub positions_due : Question → List Found → List ℕ
positions_due q found = up_to (length found) (positions q.wanted)

-- the entry at a position of set 1 as it is shown: its record, or a diagnostic if the question asks for another syntax
abbrev pub shown_at : ℕ → Question → List Found → ℕ → List Fact
shown_at target q found p =
    map (λ f. Seen target 1 (pos p) (in_syntax q.syntax f)) (at_positions found (p ∷ []))

-- the number of entries found, and the record at each wanted position
abbrev pub found_facts : ℕ → Question → List Found → List Fact
found_facts target q found =
    Count target 1 (pos (length found)) ∷ flat_map (shown_at target q found) (positions_due q found)

-- the search failed, and a diagnostic says why
abbrev pub fault_facts : ℕ → Bib1Fault → List Fact
fault_facts target reason = Failed target 1 ∷ Diag target 1 (pos 0) (Default (diagnostic reason)) ∷ []

-- what the question finds, or the reason why its search fails
abbrev pub facts_for_question : ℕ → Question → List Found → Option Bib1Fault → List Fact
facts_for_question target q found None = found_facts target q found
facts_for_question target q found (Some reason) = fault_facts target reason

-- The facts that a question brings from target number `target`, with these databases and settings. The target refuses
-- associations, or it does not support the search, or it finds entries.
abbrev pub catalogue : ℕ → Question → List Database → TargetSettings → List Fact
catalogue target q databases settings =
    if settings.refuse
    then Failed target 0 ∷ []
    else facts_for_question target q (entries_for q databases) (match_fault databases q.databases q.query)

-- ---- an exchange with the target

-- each accepted reply is one that such a target owes to the requests that were sent
abbrev pub AreOwed : List Database → TargetSettings → Transcript → Type 0
AreOwed databases settings p =
    (x : Answer) → Contains (accepted p) x → Contains (replies databases settings (reverse (past_of p).sent)) x.reply

-- the most octets that one record may have: what the target allows, and at most what Init asks for
abbrev pub size_given : TargetSettings → ℕ
size_given settings = natural (int_min settings.size (pos 1048576))

-- If the target accepts the association and supports the search, each record that is due is within this size.
abbrev pub HasFittingRecords : Question → List Database → TargetSettings → Type 0
HasFittingRecords q databases settings =
    settings.refuse ≡ false → match_fault databases q.databases q.query ≡ None
    → (p : ℕ) (f : Found) → IsIn p (positions_due q (entries_for q databases))
    → IsIn f (at_positions (entries_for q databases) (p ∷ []))
    → size_of (in_syntax q.syntax f) ≤ size_given settings

-- the target refuses associations, or the search can be sent to it
abbrev pub CanAsk : Question → TargetSettings → Type 0
CanAsk q settings =
    (settings.refuse ≡ true) ⊎ (is_unsendable (search_request settings.named 1 1 (ask_of q)) ≡ false)

-- a complete connection that accepted this target's replies alone knows exactly the facts of the catalogue
abbrev pub CatalogueLaw : Type 0
CatalogueLaw =
    (questions : List Question) (s : MetaSettings) (h : History) (meta : MetaLinks) (c : ℕ) (q : Question)
    (p : Transcript)
    (databases : List Database) (settings : TargetSettings)
    → MetaAfter questions s h meta → slice_get questions c ≡ Some q → IsTranscript (settings_of s) (events_on c h) p
    → IsCompleteTranscript p → AreOwed databases settings p → CanAsk q settings → HasFittingRecords q databases settings
    → (f : Fact) → Contains (facts_at c p) f ↔ Contains (catalogue c q databases settings) f

-- if the search cannot be sent to a target that accepts associations, the connection knows nothing
abbrev pub UnaskedLaw : Type 0
UnaskedLaw =
    (questions : List Question) (s : MetaSettings) (h : History) (meta : MetaLinks) (c : ℕ) (q : Question)
    (p : Transcript)
    (databases : List Database) (settings : TargetSettings)
    → MetaAfter questions s h meta → slice_get questions c ≡ Some q → IsTranscript (settings_of s) (events_on c h) p
    → IsCompleteTranscript p → AreOwed databases settings p → settings.refuse ≡ false
    → is_unsendable (search_request settings.named 1 1 (ask_of q)) ≡ true
    → (f : Fact) → Contains (facts_at c p) f → ⊥

-- no search was skipped on a complete connection, if and only if the search can be sent or the target refuses
abbrev pub SkippedLaw : Type 0
SkippedLaw =
    (questions : List Question) (s : MetaSettings) (h : History) (meta : MetaLinks) (c : ℕ) (q : Question)
    (p : Transcript)
    (databases : List Database) (settings : TargetSettings)
    → MetaAfter questions s h meta → slice_get questions c ≡ Some q → IsTranscript (settings_of s) (events_on c h) p
    → IsCompleteTranscript p → AreOwed databases settings p → (is_skipped p ≡ false) ↔ CanAsk q settings

-- the laws of what a question brings
pub record CatalogueLaws : Type 0 where
  pub answers : CatalogueLaw
  pub unasked : UnaskedLaw
  pub skipped : SkippedLaw
