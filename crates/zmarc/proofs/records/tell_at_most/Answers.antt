use Rattle.std.proofs.Common.{◌≡◌, ◌+◌, ◌-◌, ◌<◌, ℕ, suc, refl, sym, ap, ◌∙◌, arith}
use Rattle.std.proofs.lemmas.Bool.{le-leb}
use Rattle.zmarc.specs.Records.{directory, entry_len, told_total, told_len}
use Rattle.zmarc.proofs.Cuts.{to_end}
use Rattle.zmarc.proofs.FieldTheory.{contents_at, directory_at, told_at_first, told_next, none_told, told_is, too_many, room_at_first, room_for_one, room_for_rest}
use Rattle.zmarc.proofs.records.tell_at_most.Goals as goal

-- one more is left
more : (i n : ℕ) → i < n → n - i ≡ suc (n - (i + 1))
more i n h = omega arith

pub loop-init : goal.loop-init
loop-init c =
    let octets = c.args.octets.now in
    let sizes = c.read_entry_layout-layout.ensures in
    let sized : 3 + c.read_entry_layout-layout.result.length_digits + c.read_entry_layout-layout.result.start_digits
    + c.read_entry_layout-layout.result.other_octets ≡ entry_len octets =
    omega (arith, sizes.length, sizes.start, sizes.other) in
    let is : c.cut_before_end-rest.result.now ≡ directory octets =
    c.cut_before_end-rest.ensures ∙ sym (directory_at octets c.in-Some.at (sym c.read_base_address.ensures.value ∙ c.in-Some.is)) in
    let first = told_at_first octets _ c.cut_before_end-rest.result.now sized is in
    record { same = omega (arith, first); place = room_at_first _ _ }

pub returns-in_default : goal.returns-in_default
returns-in_default c =
    let none = none_told c.args.octets.now (sym c.read_base_address.ensures.value ∙ c.in_default.is) in
    sym (le-leb (told_total c.args.octets.now) c.args.most (omega (arith, none)))

pub split_at-requires : goal.split_at-requires
split_at-requires c = room_for_one _ _ _ _ (more _ _ c.loop-test.true) c.loop.invariant.place

pub returns-then-told-room : goal.returns-then-told-room
returns-then-told-room c =
    let octets = c.args.octets.now in
    let sizes = c.read_entry_layout-layout.ensures in
    let there =
    to_end octets c.in-Some.at
    ∙ sym (contents_at octets c.in-Some.at (sym c.read_base_address.ensures.value ∙ c.in-Some.is)) in
    let told = c.count_told-told.ensures
    ∙ ap told_len (told_is octets _ _ _ _ _ _ refl there sizes.length sizes.start c.split_at.ensures.front) in
    let next = told_next octets _ _ _ _ c.loop.rest.now (more _ _ c.loop-test.true) told in
    sym (too_many (told_total octets) c.args.most c.loop.room _ _ _ next c.if-told-room.true c.loop.invariant.same)

pub loop-preserved : goal.loop-preserved
loop-preserved c =
    let octets = c.args.octets.now in
    let sizes = c.read_entry_layout-layout.ensures in
    let there =
    to_end octets c.in-Some.at
    ∙ sym (contents_at octets c.in-Some.at (sym c.read_base_address.ensures.value ∙ c.in-Some.is)) in
    let told = c.count_told-told.ensures
    ∙ ap told_len (told_is octets _ _ _ _ _ _ refl there sizes.length sizes.start c.split_at.ensures.front) in
    let next = told_next octets _ _ _ _ c.loop.rest.now (more _ _ c.loop-test.true) told in
    record {
      same = rw c.split_at.ensures.back (omega (arith, next, c.if-told-room.false, c.loop.invariant.same));
      place = room_for_rest _ _ _ _ _ (more _ _ c.loop-test.true) c.loop.invariant.place c.split_at.ensures.back_len;
    }
