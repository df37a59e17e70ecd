-- After all were given up, each connection is over, or was not chosen.
use Rattle.std.proofs.Common.{◌≡◌, inl, inr, ◌<◌, max, true, slice_get, get_or, Some, sym, ap, subst, ◌∙◌}
use Rattle.std.proofs.lemmas.Option.{slice_get_within}
use Rattle.zoom_clock.specs.declared.course.Course.{Course}
use Rattle.zoom_clock.specs.declared.signal.Signal.TheVariants as signals
use Rattle.zoom_clock.specs.Courses.{event, is_settled}
use Rattle.zoom_clock.proofs.Places.{some_at}
use Rattle.zoom_asking.specs.Inquiries.{GivenUp, passed_in}
use Rattle.zoom_asking.specs.Hosts.{AskedConnection}
use Rattle.zoom_asking.specs.Askings.{time_in}
use Rattle.zoom_asking.specs.Laws.{GivenUpLaw}
use Rattle.zoom_asking.proofs.Owning.{beside}
use Rattle.zoom_asking.proofs.Rulings.{given_up_settles, settled_stays}
use Rattle.zoom_asking.proofs.Turned.{found}

abbrev IsSettled : AskedConnection → Type 0
IsSettled h = is_settled h.course.stage ≡ true

pub given_up_of : GivenUpLaw
given_up_of i history hosts at size after c h get =
    let passed = passed_in i.start history in
    let time = time_in passed (GivenUp at) in
    let f = found i.manner time after.1 c h (ap (λ l. slice_get l c) (sym after.4) ∙ get) in
    let was = get_or after.0 c f.0 in
    let there : slice_get after.0 c ≡ Some was = beside after.0 after.1 c f.0 after.3.size f.1 in
    let q = some_at i.questions c (subst (λ n. c < n) size (slice_get_within hosts c h get)) in
    let told = after.3.each c q.0 was f.0 q.1 there f.1 in
    let settled : IsSettled f.0 =
    ap (λ (p : Course). is_settled p.stage) told.course ∙ given_up_settles (max passed at) was.course in
    elim f.2 [
      | inl e ↦ subst IsSettled (sym e) settled
      | inr e ↦ subst IsSettled (sym e) (settled_stays (event time signals.Turn) f.0.course settled)
    ]
