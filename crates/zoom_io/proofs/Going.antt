-- Until a talk takes something, its connection stays neither Closed nor Failed.
use Rattle.std.proofs.Common.{◌≡◌, ◌∙◌, sym, subst, ℕ, Bool, true, false, cond, List, [], ◌∷◌, ◌++◌, Option, None, Some, refl, true≢false, append_assoc}
use Rattle.std.specs.Prelude.{is_some, ◌||◌}
use Rattle.std.specs.List.{list_any}
use Rattle.zapdu.specs.declared.apdu.Apdu.{Apdu}
use Rattle.zapdu.specs.declared.apdu.Apdu.TheVariants as apdus
use Rattle.zorigin.specs.declared.answer.Answer.{Answer}
use Rattle.zorigin.specs.declared.refusal.CallRefused.{CallRefused}
use Rattle.zorigin.specs.declared.refusal.Refused.{Refused}
use Rattle.zorigin.specs.declared.state.State.TheVariants as origins
use Rattle.zorigin.specs.Standings.{Call, ready}
use Rattle.zorigin.specs.Changes.{options_in_force}
use Rattle.zorigin.specs.Calls.{refusal}
use Rattle.zorigin.specs.Log.{Made, Past, past, standing, admit_unless, opening, is_close_call, is_init_call, state_by, closing_state, state_from, state_of}
use Rattle.zoom_questions.specs.declared.question.Question.{Question}
use Rattle.zoom_questions.specs.declared.question.MetaSettings.{MetaSettings}
use Rattle.zoom_pool.specs.States.{state_as, or_else, is_stopped}
use Rattle.zoom_pool.specs.Transcripts.{Transcript, IsTranscript, Event, Called, Fed, HandedOut, EventStep, after_call, after_feed, past_of, state_at}
use Rattle.zoom_pool.specs.History.{History}
use Rattle.zoom_pool.specs.Metas.{call_events, settings_of}
use Rattle.zoom_pool.proofs.Pools.{only_same}
use Rattle.zoom_io.specs.TalkTraces.{Stage, IsGoingAt, TalkTrace, beginning, due_sent, message_taken, none_taken, stop_taken, piece_read, input_end, take_count}

-- ---- calls

going_by : (a x : Bool) (reply : Apdu) → is_stopped (state_as (closing_state a (state_by reply))) ≡ false
    → is_stopped (state_as (closing_state x (state_by reply))) ≡ false
going_by a x (apdus.InitRequest v) f = absurd (true≢false f)
going_by a x (apdus.InitResponse v) f =
    elim v.result as (λ b. is_stopped (state_as (closing_state a (cond b (ready (options_in_force v)) origins.Closed))) ≡ false
    → is_stopped (state_as (closing_state x (cond b (ready (options_in_force v)) origins.Closed))) ≡ false) [
      | true ↦ λ g. elim x as (λ z. is_stopped (state_as (closing_state z (ready (options_in_force v)))) ≡ false)
          [ true ↦ refl | false ↦ refl ]
      | false ↦ λ g. absurd (true≢false g)
    ] f
going_by a x (apdus.SearchRequest v) f = absurd (true≢false f)
going_by a x (apdus.SearchResponse v) f = absurd (true≢false f)
going_by a x (apdus.PresentRequest v) f = absurd (true≢false f)
going_by a x (apdus.PresentResponse v) f = absurd (true≢false f)
going_by a x (apdus.Close v) f = absurd (true≢false f)

going_from : (fault : Option Refused) (closed a b x y : Bool) (answer : Option Answer)
    → is_stopped (state_as (state_from fault closed a b answer)) ≡ false
    → is_stopped (state_as (state_from fault closed x y answer)) ≡ false
going_from (Some reason) closed a b x y answer f = absurd (true≢false f)
going_from None true a b x y answer f = absurd (true≢false f)
going_from None false a b x true None f = refl
going_from None false a b x false None f = refl
going_from None false a b x y (Some answer) f = going_by a x answer.reply f

going_admitted : (p : Past) (call : Call) (r : Option CallRefused) → is_stopped (state_as (state_of p)) ≡ false
    → is_stopped (state_as (state_of (admit_unless p call r))) ≡ false
going_admitted p call None f =
    going_from p.fault p.closed (list_any is_close_call p.admitted) (list_any is_init_call p.admitted)
    (list_any is_close_call (p.admitted ++ call ∷ [])) (list_any is_init_call (p.admitted ++ call ∷ [])) (opening p) f
going_admitted p call (Some reason) f = f

going_call : (p : Transcript) (call : Call) → is_stopped (state_at p) ≡ false
    → is_stopped (state_at (after_call p call)) ≡ false
going_call p call f =
    elim p.stop as (λ o. p.stop ≡ o
    → is_stopped (state_at (cond (is_some o) p (record p { log = Made call ∷ p.log }))) ≡ false) [
      | None ↦ λ e.
          subst (λ o. is_stopped (or_else (state_as (state_of (past p.settings (Made call ∷ p.log)))) o) ≡ false) (sym e)
          (going_admitted (past_of p) call (refusal (standing (past_of p)) call)
          (subst (λ o. is_stopped (or_else (state_as (state_of (past_of p))) o) ≡ false) e f))
      | Some state ↦ λ e. f
    ] refl

going_piece : (p : Transcript) (piece : List ℕ) → is_stopped (state_at p) ≡ false
    → is_stopped (state_at (after_feed p piece)) ≡ false
going_piece p piece f =
    elim (is_stopped (state_at p) || p.ended) as
    (λ b. is_stopped (state_at (cond b p (record p { stream = p.stream ++ piece }))) ≡ false) [ true ↦ f | false ↦ f ]

-- ---- events

-- One event more.
going_more : (s : MetaSettings) (c : ℕ) (event : Event) (h : History)
    → ((p q : Transcript) → EventStep event p q → is_stopped (state_at p) ≡ false → is_stopped (state_at q) ≡ false)
    → IsGoingAt s c h → IsGoingAt s c ((c, event) ∷ h)
going_more s c event h step going q transcript =
    let then = subst (λ z. IsTranscript (settings_of s) z q) (only_same c event h) transcript in
    step then.0 q then.2 (going then.0 then.1)

going_called : (s : MetaSettings) (c : ℕ) (h : History) (calls : List Call) → IsGoingAt s c h
    → IsGoingAt s c (call_events c calls ++ h)
going_called s c h [] going = going
going_called s c h (call ∷ calls) going =
    going_more s c (Called call) (call_events c calls ++ h)
    (λ p q e f. subst (λ z. is_stopped (state_at z) ≡ false) (sym e) (going_call p call f))
    (going_called s c h calls going)

-- Calls are no takes.
pub takes_called : (c : ℕ) (calls : List Call) (more : History) → take_count (call_events c calls ++ more) ≡ take_count more
takes_called c [] more = refl
takes_called c (call ∷ calls) more = takes_called c calls more

-- Without a take, a talk leaves the connection neither Closed nor Failed.
pub going_until : {q : List Question} {s : MetaSettings} {c : ℕ} {h more : History} {read written : List ℕ} {n : ℕ}
    {stage : Stage} → TalkTrace q s c h more read written n stage → take_count more ≡ 0 → IsGoingAt s c h
    → IsGoingAt s c (more ++ h)
going_until beginning none going = going
going_until {s = s} {c = c} {h = h} (due_sent {more = more} calls octets f idle all) none going =
    let before = going_until f (sym (takes_called c calls more) ∙ none) going in
    going_more s c (HandedOut octets) ((call_events c calls ++ more) ++ h)
    (λ p q e g. subst (λ z. is_stopped (state_at z) ≡ false) (sym e) g)
    (subst (λ z. IsGoingAt s c z) (sym (append_assoc (call_events c calls) more h))
    (going_called s c (more ++ h) calls before))
going_until (message_taken step f next m) none going = absurd cc
going_until (none_taken f next) none going = absurd cc
going_until (stop_taken f) none going = absurd cc
going_until {s = s} {c = c} {h = h} (piece_read {more = more} piece f some few) none going =
    going_more s c (Fed piece) (more ++ h)
    (λ p q e g. subst (λ z. is_stopped (state_at z) ≡ false) (sym e) (going_piece p piece g))
    (going_until f none going)
going_until (input_end f) none going = absurd cc
