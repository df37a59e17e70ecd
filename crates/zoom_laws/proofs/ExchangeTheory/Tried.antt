-- A driven connection that sent its Close tried its search before.
use Rattle.std.proofs.Common.{◌≡◌, inl, true, false, List, [], refl, sym, ap, ◌∙◌, true≢false}
use Rattle.std.specs.Prelude.{◌||◌}
use Rattle.std.specs.List.{list_any}
use Rattle.zplan.specs.Plan.{PlanEvent}
use Rattle.zorigin.specs.declared.settings.Settings.{Settings}
use Rattle.zorigin.specs.Log.{Log, past, opening, is_close_call}
use Rattle.zoom_pool.specs.declared.phase.Phase.{Phase}
use Rattle.zoom_pool.specs.declared.phase.Phase.TheVariants as phases
use Rattle.zoom_pool.specs.Transcripts.{past_of}
use Rattle.zoom_pool.specs.Driving.{events_of}
use Rattle.zoom_pool.specs.Steering.{Errand, errand_of, is_rejected, IsTried}
use Rattle.zoom_pool.specs.Drivers.{IsAtPhase}
use Rattle.zoom_pool.proofs.Closings.{closes_in, closing_known}
use Rattle.zoom_pool.proofs.MetaLaws.{driver_of}
use Rattle.zoom_laws.specs.Exchange.{TriedLaw}

module _ (e : Errand) (settings : Settings) (log : Log)
    (closes : list_any is_close_call (past settings log).admitted ≡ true) where
  -- Close is one of the events
  not_yet : (events : List PlanEvent) → events_of e.ask settings log ≡ events → closes_in events ≡ false → ⊥
  not_yet events is f = true≢false (sym closes ∙ closing_known e.ask settings log ∙ ap closes_in is ∙ f)

  tried_at : (ph : Phase) → is_rejected (opening (past settings log)) ≡ false → IsAtPhase e settings log ph
      → IsTried settings log
  tried_at phases.Fresh r a = absurd (not_yet [] a.events refl)
  tried_at phases.Opening r a = absurd (not_yet _ a.events refl)
  tried_at (phases.Opened present three) r a = absurd (not_yet _ a.events refl)
  tried_at (phases.Searching present three) r a = inl (λ none. absurd (cc))
  tried_at (phases.Counted three count) r a = inl (λ none. let is = a.set.asked in absurd (cc))
  tried_at (phases.Asking agenda) r a = inl (λ none. let is = a.set.asked in absurd (cc))
  tried_at phases.Done r a = a.tried
  tried_at phases.Closed r a = a.tried r

pub tried : TriedLaw
tried questions s h meta c q p a at transcript complete accepted =
    let d = driver_of questions meta.drivers c q a.driven.size at in
    let closes = sym (ap (λ b. b || list_any is_close_call (past_of p).admitted) accepted) ∙ complete in
    tried_at (errand_of s q) p.settings p.log closes d.0.phase accepted
    (a.driven.each c q d.0 p at d.1 transcript).at
