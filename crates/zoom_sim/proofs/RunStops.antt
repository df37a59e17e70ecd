-- Connections that are finished, one after the other.
use Rattle.std.proofs.Common.{◌≡◌, sym, subst, inl, inr, ℕ, ◌+◌, ◌<◌, ◌==◌, Bool, true, false, List, [], ◌∷◌, ◌++◌, length}
use Rattle.std.proofs.Common.{refl, arith}
use Rattle.std.proofs.lemmas.Bool.Decides.{nat_tests}
use Rattle.zoom_questions.specs.declared.question.Question.{Question}
use Rattle.zoom_questions.specs.declared.question.MetaSettings.{MetaSettings}
use Rattle.zoom_pool.specs.declared.state.Reason.{Reason}
use Rattle.zoom_pool.specs.Transcripts.{Stopped, Transcript, IsTranscript}
use Rattle.zoom_pool.specs.History.{History, events_on}
use Rattle.zoom_pool.specs.Metas.{MetaLinks, MetaRecorded, IsTranscriptValue, IsFinished, settings_of}
use Rattle.zoom_pool.proofs.Pools.{only_same, only_other}
use Rattle.zoom_sim.specs.Run.{is_over}
use Rattle.zoom_sim.specs.RunSteps.{StopOneStep, AreStopped, StopAllStep}
use Rattle.zoom_sim.proofs.RunSilentSteps.{all_silent, one_silent}

-- the connection that is next was finished
was_over : (n : ℕ) (q : List Question) (s : MetaSettings) (h : History) (new : MetaLinks)
    → AreStopped q s n h new → IsTranscriptValue n new is_over true → AreStopped q s (n + 1) h new
was_over n q s h new w value_is = record {
  more = w.more;
  after = w.after;
  silent = w.silent;
  over = λ i p lt transcript. by i p lt transcript (n == i) refl;
}
  where
    by : (i : ℕ) (p : Transcript) → i < n + 1 → IsTranscript (settings_of s) (events_on i (w.more ++ h)) p
        → (b : Bool) → (n == i) ≡ b → is_over p ≡ true
    by i p lt transcript true e =
        let at : n ≡ i = grind (arith, nat_tests) in
        sym (value_is q s (w.more ++ h) p w.after
        (subst (λ z. IsTranscript (settings_of s) (events_on z (w.more ++ h)) p) (sym at) transcript))
    by i p lt transcript false e = let below : i < n = grind (arith, nat_tests) in w.over i p below transcript

-- it was stopped
was_stopped : (n : ℕ) (q : List Question) (s : MetaSettings) (h : History) (mid new : MetaLinks) (reason : Reason)
    → AreStopped q s n h mid → MetaRecorded n (Stopped reason) mid new → AreStopped q s (n + 1) h new
was_stopped n q s h mid new reason w recorded = record {
  more = (n, Stopped reason) ∷ w.more;
  after = recorded q s [] (w.more ++ h) w.after;
  silent = all_silent ((n, Stopped reason) ∷ []) w.more (one_silent n (Stopped reason) tt) w.silent;
  over = λ i p lt transcript. by i p lt transcript (n == i) refl;
}
  where
    at_n : (p : Transcript) → IsTranscript (settings_of s) (Stopped reason ∷ events_on n (w.more ++ h)) p → is_over p ≡ true
    at_n p transcript = subst (λ z. is_over z ≡ true) (sym transcript.2) refl

    by : (i : ℕ) (p : Transcript) → i < n + 1 → IsTranscript (settings_of s) (events_on i ((n, Stopped reason) ∷ (w.more ++ h))) p
        → (b : Bool) → (n == i) ≡ b → is_over p ≡ true
    by i p lt transcript true e =
        let at : n ≡ i = grind (arith, nat_tests) in
        at_n p (subst (λ z. IsTranscript (settings_of s) z p) (only_same n (Stopped reason) (w.more ++ h))
        (subst (λ z. IsTranscript (settings_of s) (events_on z ((n, Stopped reason) ∷ (w.more ++ h))) p) (sym at) transcript))
    by i p lt transcript false e =
        let below : i < n = grind (arith, nat_tests) in
        w.over i p below (subst (λ z. IsTranscript (settings_of s) z p)
        (only_other n i (Stopped reason) (w.more ++ h) e) transcript)

halts_by : (n : ℕ) (q : List Question) (s : MetaSettings) (h : History) (mid new : MetaLinks)
    → AreStopped q s n h mid → StopOneStep n mid new → AreStopped q s (n + 1) h new
halts_by n q s h mid new w (inl same) =
    subst (λ z. AreStopped q s (n + 1) h z) (sym same.0) (was_over n q s h mid w same.1)
halts_by n q s h mid new w (inr stopped) = was_stopped n q s h mid new stopped.0 w stopped.1

pub halts_more : (n : ℕ) (old mid new : MetaLinks) → StopAllStep n old mid → StopOneStep n mid new → StopAllStep (n + 1) old new
halts_more n old mid new f g = record { on = λ q s h a. halts_by n q s h mid new (f.on q s h a) g }

-- all were finished
pub finished_halts : (meta : MetaLinks) → IsFinished meta true → StopAllStep (length meta.pool.connections) meta meta
finished_halts meta f = record {
  on = λ q s h a. record {
    more = [];
    after = a;
    silent = λ i. (refl, refl);
    over = λ i p lt transcript. (f q s h a).0 refl i p (subst (λ z. i < z) a.size lt) transcript;
  };
}
