-- More events, all silent.
use Rattle.std.proofs.Common.{◌≡◌, ◌∙◌, sym, ap, subst, ℕ, ◌==◌, Bool, true, false, List, [], ◌∷◌, ◌++◌, Result, Ok, Err}
use Rattle.std.proofs.Common.{refl, append_assoc, append-nil}
use Rattle.zorigin.specs.Standings.{Call}
use Rattle.zoom_questions.specs.declared.question.Question.{Question}
use Rattle.zoom_questions.specs.declared.question.MetaSettings.{MetaSettings}
use Rattle.zoom_pool.specs.Transcripts.{Event, Called, Fed, Took, InputEnded, HandedOut, Stopped, given, fed}
use Rattle.zoom_pool.specs.History.{History, events_on}
use Rattle.zoom_pool.specs.Metas.{MetaLinks, MetaAfter, MetaRecorded, MetaTakeStep, DriveResult, Progress, call_events}
use Rattle.zoom_pool.proofs.Pools.{only_append}
use Rattle.zoom_sim.specs.RunSteps.{IsSilent, AreSilent, MoreSilentEvents, SilentStep}

-- ---- the octets of events one after the other

pub given_append : (a b : List Event) → given (a ++ b) ≡ given b ++ given a
given_append [] b = sym (append-nil (given b))
given_append (Called call ∷ a) b = given_append a b
given_append (Fed piece ∷ a) b = given_append a b
given_append (Took ∷ a) b = given_append a b
given_append (InputEnded ∷ a) b = given_append a b
given_append (HandedOut octets ∷ a) b =
    ap (λ z. z ++ octets) (given_append a b) ∙ append_assoc (given b) (given a) octets
given_append (Stopped reason ∷ a) b = given_append a b

pub fed_append : (a b : List Event) → fed (a ++ b) ≡ fed b ++ fed a
fed_append [] b = sym (append-nil (fed b))
fed_append (Called call ∷ a) b = fed_append a b
fed_append (Fed piece ∷ a) b = ap (λ z. z ++ piece) (fed_append a b) ∙ append_assoc (fed b) (fed a) piece
fed_append (Took ∷ a) b = fed_append a b
fed_append (InputEnded ∷ a) b = fed_append a b
fed_append (HandedOut octets ∷ a) b = fed_append a b
fed_append (Stopped reason ∷ a) b = fed_append a b

pub silent_append : (a b : List Event) → IsSilent a → IsSilent b → IsSilent (a ++ b)
silent_append a b p q = (
  given_append a b ∙ ap (λ z. z ++ given a) q.0 ∙ p.0,
  fed_append a b ∙ ap (λ z. z ++ fed a) q.1 ∙ p.1,
)

pub silent_more : (i : ℕ) (a b : History) → IsSilent (events_on i a) → IsSilent (events_on i b) → IsSilent (events_on i (a ++ b))
silent_more i a b p q = subst IsSilent (sym (only_append i a b)) (silent_append (events_on i a) (events_on i b) p q)

pub all_silent : (a b : History) → AreSilent a → AreSilent b → AreSilent (a ++ b)
all_silent a b p q i = silent_more i a b (p i) (q i)

-- a silent event
abbrev pub IsSilentEvent : Event → Type 0
IsSilentEvent (Fed piece) = ⊥
IsSilentEvent (HandedOut octets) = ⊥
IsSilentEvent _ = Unit {0}

silent_event : (event : Event) → IsSilentEvent event → IsSilent (event ∷ [])
silent_event (Called call) n = (refl, refl)
silent_event (Fed piece) n = absurd n
silent_event Took n = (refl, refl)
silent_event InputEnded n = (refl, refl)
silent_event (HandedOut octets) n = absurd n
silent_event (Stopped reason) n = (refl, refl)

pub one_silent : (c : ℕ) (event : Event) → IsSilentEvent event → AreSilent ((c, event) ∷ [])
one_silent c event n i = by (c == i) refl
  where
    by : (b : Bool) → (c == i) ≡ b → IsSilent (events_on i ((c, event) ∷ []))
    by true e = rw e (silent_event event n)
    by false e = rw e (refl, refl)

calls_silent : (c : ℕ) (calls : List Call) → AreSilent (call_events c calls)
calls_silent c [] i = (refl, refl)
calls_silent c (call ∷ calls) i =
    all_silent ((c, Called call) ∷ []) (call_events c calls) (one_silent c (Called call) tt) (calls_silent c calls) i

-- ---- silent steps

pub goes_same : (m : MetaLinks) → SilentStep m m
goes_same m = record { on = λ q s h a. record { more = []; after = a; silent = λ i. (refl, refl) } }

pub goes_trans : (a b c : MetaLinks) → SilentStep a b → SilentStep b c → SilentStep a c
goes_trans a b c f g = record {
  on = λ q s h x.
      let one : MoreSilentEvents q s h b = f.on q s h x in
      let two : MoreSilentEvents q s (one.more ++ h) c = g.on q s (one.more ++ h) one.after in
      record {
        more = two.more ++ one.more;
        after = subst (λ z. MetaAfter q s z c) (sym (append_assoc two.more one.more h)) two.after;
        silent = all_silent two.more one.more two.silent one.silent;
      };
}

pub recorded_silent : (c : ℕ) (event : Event) (old new : MetaLinks) → IsSilentEvent event → MetaRecorded c event old new → SilentStep old new
recorded_silent c event old new n b = record {
  on = λ q s h a. record { more = (c, event) ∷ []; after = b q s [] h a; silent = one_silent c event n };
}

pub took_goes : (c : ℕ) (old new : MetaLinks) → MetaTakeStep c old new → SilentStep old new
took_goes c old new t = record {
  on = λ q s h a. record {
    more = (c, Took) ∷ [];
    after = t q s [] h a;
    silent = one_silent c Took tt;
  };
}

progress_went : (q : List Question) (s : MetaSettings) (c : ℕ) (h : History) (n : ℕ) (new : MetaLinks)
    → Progress q s [] c h n new → MoreSilentEvents q s h new
progress_went q s c h n new p = record {
  more = call_events c p.calls;
  after = p.after;
  silent = calls_silent c p.calls;
}

pub drove_goes : {E : Type 0} (c : ℕ) (answer : Result ℕ E) (old new : MetaLinks) → DriveResult c answer old new → SilentStep old new
drove_goes c (Ok n) old new d = record { on = λ q s h a. progress_went q s c h n new (d q s [] h a).progress }
drove_goes c (Err e) old new d = record { on = λ q s h a. let w = d q s [] h a in progress_went q s c h w.0 new w.1 }
