-- A take completes an earlier one that found no memory.
use Rattle.std.proofs.Common.{◌≡◌, ◌∙◌, sym, ap, subst, ℕ, zero, suc, ◌<◌, ◌==◌, Bool, true, false, cond, not, List, ◌∷◌, filter, Result, Ok, refl, true≢false, arith}
use Rattle.std.specs.Prelude.{Contains, ◌||◌}
use Rattle.zorigin.proofs.Members.{contained, among, of_filter}
use Rattle.zoom_questions.specs.declared.question.Question.{Question}
use Rattle.zoom_questions.specs.declared.question.MetaSettings.{MetaSettings}
use Rattle.zoom_pool.specs.declared.step.Step.{Step}
use Rattle.zoom_pool.specs.declared.step.Step.TheVariants as steps
use Rattle.zoom_pool.specs.declared.step.TakeError.{TakeError}
use Rattle.zoom_pool.specs.States.{is_stopped}
use Rattle.zoom_pool.specs.Inputs.{Input, AlreadyStopped, Message, Foreign, Fault, Rest, Nothing}
use Rattle.zoom_pool.specs.Transcripts.{Transcript, Took, NextInput, take_result, state_at, is_message}
use Rattle.zoom_pool.specs.History.{History, partial_after}
use Rattle.zoom_pool.specs.Metas.{MetaLinks, MetaAfterPartial, MetaTakeStep, settings_of}
use Rattle.zoom_pool.proofs.Pools.{same_number, up_to_more}
use Rattle.zoom_io.specs.TalkTraces.{still_partial}

fewer : (q : List Question) (s : MetaSettings) (some more : List ℕ) (h : History) (meta : MetaLinks)
    → ((c : ℕ) → Contains some c → Contains more c) → MetaAfterPartial q s some h meta → MetaAfterPartial q s more h meta
fewer q s some more h meta all a = record {
  fit = a.fit;
  askable = a.askable;
  pool = up_to_more (settings_of s) some more h meta.pool all a.pool;
  driven = a.driven;
  size = a.size;
}

left_out : (t : ℕ → Bool) (c : ℕ) (partial : List ℕ) (d : ℕ) → t c ≡ false → Contains (filter t (c ∷ partial)) d
    → Contains partial d
left_out t c partial d e h =
    contained d partial (of_filter t partial d (among d (filter t partial)
    (subst (λ b. Contains (cond b (c ∷ filter t partial) (filter t partial)) d) e h)))

-- A take of the connection completes an earlier one, unless it was stopped before.
pub took_whole : (c : ℕ) (old new : MetaLinks) → MetaTakeStep c old new → (q : List Question) (s : MetaSettings)
    (partial : List ℕ) (h : History) (a : MetaAfterPartial q s (c ∷ partial) h old)
    → is_stopped (state_at (a.pool.transcript c)) ≡ false → MetaAfterPartial q s partial ((c, Took) ∷ h) new
took_whole c old new took q s partial h a going =
    let p : Transcript = a.pool.transcript c in
    let own : (is_stopped (state_at p) || not (c == c)) ≡ false =
    ap (λ b. b || not (c == c)) going ∙ ap not (same_number c) in
    fewer q s (partial_after c p (c ∷ partial)) partial ((c, Took) ∷ h) new
    (λ d is. left_out (λ i. is_stopped (state_at p) || not (c == i)) c partial d own is) (took q s (c ∷ partial) h a)

-- ---- takes of a connection that was not stopped

-- The take did not find the connection Closed or Failed.
abbrev pub IsLive : Result Step TakeError → Type 0
IsLive (Ok steps.Stopped) = ⊥
IsLive _ = Unit {0}

pub live_going : (p : Transcript) (input : Input) → NextInput p input → IsLive (take_result p input)
    → is_stopped (state_at p) ≡ false
live_going p AlreadyStopped next live = absurd live
live_going p (Message v) next live = next.0
live_going p (Foreign error) next live = next.0
live_going p (Fault kind at) next live = next.0
live_going p (Rest n) next live = next.0
live_going p Nothing next live = next.0

pub message_live : (step : Step) → is_message step ≡ true → IsLive (Ok step)
message_live steps.Opened m = tt
message_live steps.Rejected m = tt
message_live steps.Answered m = tt
message_live steps.Closed m = tt
message_live steps.Nothing m = absurd (true≢false (sym m))
message_live steps.Ended m = absurd (true≢false (sym m))
message_live steps.Stopped m = absurd (true≢false (sym m))

-- ---- before and after the first read

pub first_partial : (n c : ℕ) (partial : List ℕ) → n ≡ 0 → still_partial n c partial ≡ c ∷ partial
first_partial zero c partial e = refl
first_partial (suc n) c partial e = absurd cc

pub later_partial : (n c : ℕ) (partial : List ℕ) → 0 < n → still_partial n c partial ≡ partial
later_partial zero c partial lt = absurd (omega (arith, lt))
later_partial (suc n) c partial lt = refl

-- What holds in both cases holds after n reads.
pub at_reads : (Fact : List ℕ → Type 0) (n c : ℕ) (partial : List ℕ) → Fact (c ∷ partial) → Fact partial
    → Fact (still_partial n c partial)
at_reads Fact zero c partial first later = first
at_reads Fact (suc n) c partial first later = later
