use Rattle.std.proofs.Common.{◌≡◌, ◌+◌, ◌-◌, ◌<◌, ℕ, suc, sym, ap, ◌∙◌, arith}
use Rattle.std.specs.Option.{is_none}
use Rattle.zmarc.specs.Records.{directory, entry_len}
use Rattle.zmarc.proofs.Cuts.{to_end}
use Rattle.zmarc.proofs.FieldTheory.{contents_at, directory_at, lost_at_first, lost_next, flag_is, counted_yes, counted_no, none_lost, told_is, room_at_first, room_for_one, room_for_rest}
use Rattle.zmarc.proofs.records.count_lost.Goals as goal
use Rattle.zmarc.proofs.records.count_lost.Goals.{then-is_none, else-is_none}

-- one more is left
more : (i n : ℕ) → i < n → n - i ≡ suc (n - (i + 1))
more i n h = omega arith

pub loop-init : goal.loop-init
loop-init c =
    let octets = c.args.octets.now in
    let sizes = c.read_entry_layout-layout.ensures in
    let sized : 3 + c.read_entry_layout-layout.result.length_digits + c.read_entry_layout-layout.result.start_digits
    + c.read_entry_layout-layout.result.other_octets ≡ entry_len octets =
    omega (arith, sizes.length, sizes.start, sizes.other) in
    let is : c.cut_before_end-rest.result.now ≡ directory octets =
    c.cut_before_end-rest.ensures ∙ sym (directory_at octets c.in-Some.at (sym c.read_base_address.ensures.value ∙ c.in-Some.is)) in
    let first = lost_at_first octets _ c.cut_before_end-rest.result.now sized is in
    record { same = omega (arith, first); within = omega arith; room = room_at_first _ _ }

pub returns-in_default : goal.returns-in_default
returns-in_default c = sym (none_lost c.args.octets.now (sym c.read_base_address.ensures.value ∙ c.in_default.is))

pub split_at-requires : goal.split_at-requires
split_at-requires c = room_for_one _ _ _ _ (more _ _ c.loop-test.true) c.loop.invariant.room

pub loop-preserved : goal.loop-preserved
loop-preserved c =
    let octets = c.args.octets.now in
    let sizes = c.read_entry_layout-layout.ensures in
    let there =
    to_end octets c.in-Some.at
    ∙ sym (contents_at octets c.in-Some.at (sym c.read_base_address.ensures.value ∙ c.in-Some.is)) in
    let told = told_is octets _ _ _ _ _ _ c.read_entry.ensures there sizes.length sizes.start c.split_at.ensures.front in
    let flag = ap is_none (sym told) ∙ flag_is c.read_entry.result c.is_none.result c.is_none.ensures in
    let next = lost_next octets _ _ _ c.loop.rest.now (more _ _ c.loop-test.true) in
    let inv = c.loop.invariant in
    elim c.if-is_none.branch [
      | then-is_none w ↦ record {
        same = rw c.split_at.ensures.back (counted_yes _ c.loop.lost _ _ _ _ next (flag ∙ w.if-is_none.true) w.lost-is inv.same);
        within = omega (arith, w.lost-is, inv.within);
        room = room_for_rest _ _ _ _ _ (more _ _ c.loop-test.true) inv.room c.split_at.ensures.back_len;
      }
      | else-is_none w ↦ record {
        same = rw c.split_at.ensures.back (counted_no _ c.loop.lost _ _ _ _ next (flag ∙ w.if-is_none.false) w.lost-is inv.same);
        within = omega (arith, w.lost-is, inv.within);
        room = room_for_rest _ _ _ _ _ (more _ _ c.loop-test.true) inv.room c.split_at.ensures.back_len;
      }
    ]
