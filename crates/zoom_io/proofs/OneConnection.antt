-- Events of one connection are on no other.
use Rattle.std.proofs.Common.{◌≡◌, ◌∙◌, ℕ, ◌==◌, false, List, [], ◌∷◌, ◌++◌, refl}
use Rattle.zorigin.specs.Standings.{Call}
use Rattle.zoom_questions.specs.declared.question.Question.{Question}
use Rattle.zoom_questions.specs.declared.question.MetaSettings.{MetaSettings}
use Rattle.zoom_pool.specs.Transcripts.{Called, Fed, Took, InputEnded, HandedOut}
use Rattle.zoom_pool.specs.History.{History, events_on}
use Rattle.zoom_pool.specs.Metas.{call_events}
use Rattle.zoom_pool.proofs.Pools.{only_other, only_append}
use Rattle.zoom_io.specs.TalkTraces.{Stage, TalkTrace, beginning, due_sent, message_taken, none_taken, stop_taken, piece_read, input_end}

-- A connection without new events has the same transcript.
none_before : (i : ℕ) (a b : History) → events_on i a ≡ [] → events_on i (a ++ b) ≡ events_on i b
none_before i a b p = only_append i a b ∙ rw p refl

pub none_both : (i : ℕ) (a b : History) → events_on i a ≡ [] → events_on i b ≡ [] → events_on i (a ++ b) ≡ []
none_both i a b p q = none_before i a b p ∙ q

pub others_made : (c i : ℕ) (calls : List Call) → (c == i) ≡ false → events_on i (call_events c calls) ≡ []
others_made c i [] far = refl
others_made c i (call ∷ calls) far = only_other c i (Called call) (call_events c calls) far ∙ others_made c i calls far

-- The events of a talk are on no other connection.
pub others_follow : {q : List Question} {s : MetaSettings} {c : ℕ} {h more : History} {read written : List ℕ} {n : ℕ}
    {stage : Stage} (i : ℕ) → TalkTrace q s c h more read written n stage → (c == i) ≡ false → events_on i more ≡ []
others_follow i beginning far = refl
others_follow {c = c} i (due_sent {more = more} calls octets f idle all) far =
    only_other c i (HandedOut octets) (call_events c calls ++ more) far
    ∙ none_both i (call_events c calls) more (others_made c i calls far) (others_follow i f far)
others_follow {c = c} i (message_taken {more = more} step f next is) far =
    only_other c i Took more far ∙ others_follow i f far
others_follow {c = c} i (none_taken {more = more} f next) far = only_other c i Took more far ∙ others_follow i f far
others_follow {c = c} i (stop_taken {more = more} f) far = only_other c i Took more far ∙ others_follow i f far
others_follow {c = c} i (piece_read {more = more} piece f some few) far =
    only_other c i (Fed piece) more far ∙ others_follow i f far
others_follow {c = c} i (input_end {more = more} f) far =
    only_other c i Took ((c, InputEnded) ∷ more) far ∙ only_other c i InputEnded more far ∙ others_follow i f far
