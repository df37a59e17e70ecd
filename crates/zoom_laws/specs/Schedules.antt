-- Complete connections: what is known of their targets does not depend on the schedule (Z39.50-2003, 3.2).
use Rattle.std.specs.Prelude.{◌≡◌, ℕ, ◌<◌, true, List, length, slice_get, Some, Contains}
use Rattle.zplan.specs.Plan.{Operation, Replies, IsPlanned, replies_in}
use Rattle.zorigin.specs.declared.answer.Answer.{Answer}
use Rattle.zplan.specs.Ranges.{positions}
use Rattle.zoom_questions.specs.declared.question.Question.{Question}
use Rattle.zoom_questions.specs.declared.question.MetaSettings.{MetaSettings}
use Rattle.zoom_pool.specs.Driving.{operation_for, events_of}
use Rattle.zoom_pool.specs.Steering.{ask_of, complete_in}
use Rattle.zoom_pool.specs.Transcripts.{Transcript, IsTranscript, past_of}
use Rattle.zoom_pool.specs.History.{History, events_on, accepted}
use Rattle.zoom_pool.specs.Laws.{plain, SameKnowledge}
use Rattle.zoom_pool.specs.Metas.{MetaLinks, MetaAfter, settings_of}

-- the association was rejected, or Close was sent
abbrev pub IsCompleteTranscript : Transcript → Type 0
IsCompleteTranscript p = complete_in (past_of p) ≡ true

-- the part of the connection's replies that decides which operations are asked
abbrev pub replies_of : Question → Transcript → Replies
replies_of q p = replies_in (events_of (ask_of q) p.settings p.log)

-- exactly the operations that are asked for the connection's replies were answered
pub record HasExactAnswers (q : Question) (step : ℕ) (p : Transcript) : Type 0 where
  pub no_others : (x : Answer) → Contains (accepted p) x
      → IsPlanned (positions q.wanted) step (replies_of q p) (operation_for x.asked.what)
  pub all : (a : Operation) → IsPlanned (positions q.wanted) step (replies_of q p) a
      → (x : Answer) × Contains (accepted p) x × (operation_for x.asked.what ≡ a)

-- on each complete connection, exactly the operations that are asked were answered
abbrev pub AskedLaw : Type 0
AskedLaw =
    (questions : List Question) (s : MetaSettings) (h : History) (meta : MetaLinks) (c : ℕ) (q : Question)
    (p : Transcript)
    → MetaAfter questions s h meta → slice_get questions c ≡ Some q → IsTranscript (settings_of s) (events_on c h) p
    → IsCompleteTranscript p → HasExactAnswers q s.step p

-- equal operations had equal replies, reference ids aside
abbrev pub HaveEqualReplies : Transcript → Transcript → Type 0
HaveEqualReplies one other =
    (x y : Answer) → Contains (accepted one) x → Contains (accepted other) y
    → operation_for x.asked.what ≡ operation_for y.asked.what → plain x.reply ≡ plain y.reply

-- each answer of the one has an answer of the other: to the same operation, with the same reply, reference ids aside
abbrev pub AreAnsweredAlike : Transcript → Transcript → Type 0
AreAnsweredAlike one other =
    (x : Answer) → Contains (accepted one) x
    → (y : Answer) × Contains (accepted other) y
    × (operation_for x.asked.what ≡ operation_for y.asked.what) × (plain x.reply ≡ plain y.reply)

-- two runs with the same questions and step: each connection of both is complete, and equal operations had equal
-- replies
pub record AreAlike
    (questions : List Question) (s t : MetaSettings) (one other : ℕ → Transcript)
    : Type 0 where
  pub step : s.step ≡ t.step
  pub first : (c : ℕ) → c < length questions → IsCompleteTranscript (one c)
  pub second : (c : ℕ) → c < length questions → IsCompleteTranscript (other c)
  pub equal : (c : ℕ) → HaveEqualReplies (one c) (other c)

-- two runs that are alike have their operations answered alike, and know the same
abbrev pub SameListLaw : Type 0
SameListLaw =
    (questions : List Question) (s t : MetaSettings) (g h : History) (one other : MetaLinks)
    (a : MetaAfter questions s g one) (b : MetaAfter questions t h other)
    → AreAlike questions s t a.pool.transcript b.pool.transcript
    → ((c : ℕ) → AreAnsweredAlike (a.pool.transcript c) (b.pool.transcript c))
    × ((c : ℕ) → AreAnsweredAlike (b.pool.transcript c) (a.pool.transcript c)) × SameKnowledge one.pool other.pool

-- the laws of complete connections
pub record ScheduleLaws : Type 0 where
  pub asked : AskedLaw
  pub same : SameListLaw
