use Rattle.std.proofs.Common.{subst, sym}
use Rattle.zplan.specs.Ranges.{IsApart, IsBounded}
use Rattle.zplan.proofs.Plans.{new_sound, new_agenda, new_apart}
use Rattle.zplan.proofs.schedule.Schedule.new.Goals as goal

pub invariant_of-result : goal.invariant_of-result
invariant_of-result c =
    let a = new_apart c.args.wanted.now c.args.count c.requires.wanted in
    new_sound (record { ranges = c.in_ok-ranges.ranges; place = record { at = 0; used = 0 }; room = c.args.step; step = c.args.step; three = c.args.three })
    c.new.result.items (subst (IsApart 1) (sym c.in_ok-ranges.ensures) a.0) (subst IsBounded (sym c.in_ok-ranges.ensures) a.1) c.requires.step c.new.ensures.items

pub returns : goal.returns
returns c =
    new_agenda c.args.wanted.now c.args.count (record { ranges = c.in_ok-ranges.ranges; place = record { at = 0; used = 0 }; room = c.args.step; step = c.args.step; three = c.args.three })
    c.new.result.items c.requires.wanted c.in_ok-ranges.ensures c.new.ensures.items
