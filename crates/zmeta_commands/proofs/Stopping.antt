-- Why the first connections stopped, one after the other.
use Rattle.std.proofs.Common.{◌≡◌, ◌∙◌, sym, ap, subst, subst₂, ℕ, ◌+◌, List, [], ◌∷◌, ◌++◌, length, Option}
use Rattle.std.proofs.lemmas.List.{length-append}
use Rattle.zknow_stops.specs.declared.stop.Stop.{Stop}
use Rattle.zoom.specs.Asking.{limits_at}
use Rattle.zoom.specs.HostWaits.{HostWaits}
use Rattle.zoom.specs.Limits.{Limits}
use Rattle.zoom.specs.Metas.{MetaLinks}
use Rattle.zoom.specs.Notice.{Notice}
use Rattle.zoom.specs.PoolSteps.{IsStateAt}
use Rattle.zoom.specs.State.{State}
use Rattle.zmeta_commands.specs.Stops.{AreStopsOf, IsStopOf, notice_at, none, more}

pub none_yet : (limits : Limits) (waits : List HostWaits) (noticed : List Notice) (meta : MetaLinks)
    (stops : List (Option Stop)) → stops ≡ [] → AreStopsOf limits waits noticed meta stops × (length stops ≡ 0)
none_yet limits waits noticed meta stops is =
    (subst (AreStopsOf limits waits noticed meta) (sym is) none, ap length is)

pub one_more : (limits : Limits) (waits : List HostWaits) (noticed : List Notice) (meta : MetaLinks)
    (old new : List (Option Stop)) (c : ℕ) (state : State) (of_host : Limits) (notice : Notice) (stop : Option Stop)
    → AreStopsOf limits waits noticed meta old × (length old ≡ c) → IsStateAt c meta.pool state
    → of_host ≡ limits_at limits waits c → notice ≡ notice_at noticed c → IsStopOf of_host notice state stop
    → new ≡ old ++ stop ∷ [] → AreStopsOf limits waits noticed meta new × (length new ≡ c + 1)
one_more limits waits noticed meta old new c state of_host notice stop so at own is of made =
    let here = subst (λ k. IsStateAt k meta.pool state) (sym so.1) at in
    let why = subst₂ (λ l n. IsStopOf l n state stop) (own ∙ ap (limits_at limits waits) (sym so.1))
    (is ∙ ap (notice_at noticed) (sym so.1)) of in (
      subst (AreStopsOf limits waits noticed meta) (sym made) (more state stop so.0 here why),
      ap length made ∙ length-append old (stop ∷ []) ∙ ap (λ z. z + 1) so.1,
    )
