-- Laws of driven connections: how many requests are sent, and that equal replies make equal lists.
use Rattle.std.specs.Prelude.{◌≡◌, ℕ, ◌+◌, ◌≤◌, List, length, slice_get, Some}
use Rattle.zplan.specs.Plan.{replies_in, count_in}
use Rattle.zplan.specs.Positions.{up_to}
use Rattle.zplan.specs.Ranges.{positions}
use Rattle.zorigin.specs.Log.{asked}
use Rattle.zoom_questions.specs.declared.question.Question.{Question}
use Rattle.zoom_questions.specs.declared.question.MetaSettings.{MetaSettings}
use Rattle.zoom_pool.specs.Driving.{events_of}
use Rattle.zoom_pool.specs.Transcripts.{Transcript, IsTranscript, past_of}
use Rattle.zoom_pool.specs.History.{History, events_on}
use Rattle.zoom_pool.specs.Laws.{AreSameAccepted, SameKnowledge}
use Rattle.zoom_pool.specs.Metas.{MetaLinks, MetaAfter, settings_of}
use Rattle.zoom_pool.specs.Steering.{ask_of}

-- how many records the accepted reply to the search counted; 0 before that reply, and if none can be presented
abbrev pub found_for : Question → Transcript → ℕ
found_for q p = count_in (replies_in (events_of (ask_of q) p.settings p.log))

-- besides Close, at most two requests were sent, and one for each wanted position up to the number found
abbrev pub FewRequests : Type 0
FewRequests =
    (questions : List Question) (s : MetaSettings) (h : History) (meta : MetaLinks) (c : ℕ) (q : Question)
    (p : Transcript)
    → MetaAfter questions s h meta → slice_get questions c ≡ Some q → IsTranscript (settings_of s) (events_on c h) p
    → length (asked (past_of p)) ≤ 2 + length (up_to (found_for q p) (positions q.wanted))

-- histories with the same accepted replies leave the same knowledge and the same printed list; the questions, the
-- positions of a Present and the number of outstanding Presents may differ
abbrev pub SameList : Type 0
SameList =
    (questions others : List Question) (s t : MetaSettings) (g h : History) (one other : MetaLinks)
    (a : MetaAfter questions s g one) (b : MetaAfter others t h other)
    → AreSameAccepted a.pool.transcript b.pool.transcript → SameKnowledge one.pool other.pool

-- the laws of driven connections
pub record MetaLaws : Type 0 where
  pub few : FewRequests
  pub same : SameList
