-- Connections that are finished are unchanged.
use Rattle.std.proofs.Common.{◌≡◌, ◌∙◌, sym, ap, subst, ℕ, ◌==◌, Bool, true, false, List, [], ◌∷◌, ◌++◌, refl, append_assoc, arith, true≢false}
use Rattle.std.proofs.lemmas.Bool.Decides.{nat_tests}
use Rattle.zoom_questions.specs.declared.question.Question.{Question}
use Rattle.zoom_questions.specs.declared.question.MetaSettings.{MetaSettings}
use Rattle.zoom_pool.specs.Transcripts.{Event, Transcript, IsTranscript}
use Rattle.zoom_pool.specs.History.{History, events_on}
use Rattle.zoom_pool.specs.Metas.{MetaLinks, MetaAfter, MetaRecorded, IsTranscriptValue, settings_of}
use Rattle.zoom_pool.proofs.Pools.{only_append}
use Rattle.zoom_sim.specs.Run.{is_over}
use Rattle.zoom_sim.specs.RunSound.{at_connection, MoreEvents, MoreEventsOfUnfinished, UnfinishedOnlyStep, AreQuiet}
use Rattle.zoom_sim.specs.RunTakeAll.{MoreEventsStep, QuietStep}
use Rattle.zoom_sim.proofs.RunSound.{none_of}

pub spares_trans : (a b c : MetaLinks) → UnfinishedOnlyStep a b → UnfinishedOnlyStep b c → UnfinishedOnlyStep a c
spares_trans a b c f g = record {
  on = λ questions s h x.
      let one : MoreEventsOfUnfinished questions s h b = f.on questions s h x in
      let two : MoreEventsOfUnfinished questions s (one.more ++ h) c = g.on questions s (one.more ++ h) one.after in
      record {
        more = two.more ++ one.more;
        after = subst (λ z. MetaAfter questions s z c) (sym (append_assoc two.more one.more h)) two.after;
        none = λ i p transcript over.
            let first : events_on i one.more ≡ [] = one.none i p transcript over in
            let same : events_on i (one.more ++ h) ≡ events_on i h = only_append i one.more h ∙ ap (λ z. z ++ events_on i h) first in
            let second : events_on i two.more ≡ [] =
            two.none i p (subst (λ z. IsTranscript (settings_of s) z p) (sym same) transcript) over in
            only_append i two.more one.more ∙ ap (λ z. z ++ events_on i one.more) second ∙ first;
      };
}

-- events of a connection that is not finished
pub adds_spares : (c : ℕ) (old new : MetaLinks) → IsTranscriptValue c old is_over false → MoreEventsStep c old new → UnfinishedOnlyStep old new
adds_spares c old new value_is adds = record {
  on = λ questions s h a.
      let l : MoreEvents questions s c h new = adds questions s h a in
      record {
        more = at_connection c l.events;
        after = l.after;
        none = λ i p transcript over. by questions s h a l.events i p transcript over (c == i) refl;
      };
}
  where
    by : (questions : List Question) (s : MetaSettings) (h : History) → MetaAfter questions s h old
        → (events : List Event)
        (i : ℕ) (p : Transcript) → IsTranscript (settings_of s) (events_on i h) p → is_over p ≡ true → (b : Bool) → (c == i) ≡ b
        → events_on i (at_connection c events) ≡ []
    by questions s h a events i p transcript over true e =
        let at : c ≡ i = grind (arith, nat_tests) in
        absurd (true≢false (sym over ∙ sym (value_is questions s h p a
        (subst (λ z. IsTranscript (settings_of s) (events_on z h) p) (sym at) transcript))))
    by questions s h a events i p transcript over false e = none_of c i events e

-- one event
pub recorded_adds : (c : ℕ) (event : Event) (old new : MetaLinks) → MetaRecorded c event old new → MoreEventsStep c old new
recorded_adds c event old new b questions s h a = record { events = event ∷ []; after = b questions s [] h a }

-- one quiet event
pub recorded_quiet : (c : ℕ) (event : Event) (old new : MetaLinks) → AreQuiet (event ∷ []) → MetaRecorded c event old new
    → QuietStep c old new
recorded_quiet c event old new a b questions s h x = record { events = event ∷ []; after = b questions s [] h x; quiet = a }
