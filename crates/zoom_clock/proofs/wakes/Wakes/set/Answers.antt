use Rattle.std.proofs.Common.{◌≡◌, ◌<◌, true, false, length, Some, slice_get, refl, sym, ◌∙◌}
use Rattle.std.proofs.lemmas.Option.{slice_get_read}
use Rattle.zoom_clock.proofs.Order.{Step, order_kept, differ}
use Rattle.zoom_clock.proofs.wakes.Wakes.set.Goals as goal
use Rattle.zoom_clock.proofs.wakes.Wakes.set.Goals.{in-Some+in_ok-insert, in_default, in-Some-old, in_default-old}

pub invariant_of-self-2 : goal.invariant_of-self-2
invariant_of-self-2 c =
    let before = c.self.inside in
    let between = c.match-time.self-inside in
    let after = c.match-old.self-inside in
    let times = before.times.items in
    let old = c.index.result.now in
    let time = c.args.time in
    let added : Step true c.args.c time before between = elim c.match-time.branch [
      | in-Some+in_ok-insert w ↦
          let puts = w.in_ok-insert.ensures.updates.0 in
          rw (w.self-inside-is, w.in-Some.is) (record { times = refl; puts = puts })
      | in_default w ↦ rw (w.self-inside-is, w.in_default.is) (record { times = refl; puts = refl })
    ] in
    let removed : Step false c.args.c old between after = elim c.match-old.branch [
      | in-Some-old w ↦
          let puts = w.remove.ensures.updates.0 in
          rw (w.self-inside-is, w.in-Some-old.is) (record { times = refl; puts = puts })
      | in_default-old w ↦ rw (w.self-inside-is, w.in_default-old.is) (record { times = refl; puts = refl })
    ] in
    let same : c.match-time.time ≡ time = elim c.match-time.branch [
      | in-Some+in_ok-insert w ↦ w.time-is ∙ sym w.in-Some.is
      | in_default w ↦ w.time-is
    ] in
    let within : c.args.c < length times = rw c.self.view_is c.requires in
    let was : slice_get times c.args.c ≡ Some old = slice_get_read _ _ _ _ refl within c.index.ensures in
    let new : old ≡ time → ⊥ = differ old time (sym c.if-eq.ensures) in
    rw (same, removed.times, added.times)
    (order_kept times c.args.c old time before.order between.order after.order c.self.invariant within was new
    added.puts removed.puts)
