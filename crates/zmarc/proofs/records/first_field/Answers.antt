use Rattle.std.proofs.Common.{◌≡◌, ◌+◌, ◌-◌, ◌<◌, ℕ, suc, arith, sym, ap, ◌∙◌}
use Rattle.zmarc.specs.Records.{entry_len, directory}
use Rattle.std.specs.Option.{option_copied}
use Rattle.zmarc.proofs.Cuts.{to_end}
use Rattle.zmarc.proofs.FieldTheory.{directory_at, contents_at, all_found, room_at_first, room_for_one, room_for_rest, tagged_is, seen_now, seen_later}
use Rattle.zmarc.proofs.records.first_field.Goals as goal

-- one more is left
more : (i n : ℕ) → i < n → n - i ≡ suc (n - (i + 1))
more i n h = omega arith

pub loop-init : goal.loop-init
loop-init c =
    let octets = c.args.octets.now in
    let sizes = c.read_entry_layout-layout.ensures in
    let sized : 3 + c.read_entry_layout-layout.result.length_digits + c.read_entry_layout-layout.result.start_digits
    + c.read_entry_layout-layout.result.other_octets ≡ entry_len octets = omega (arith, sizes.length, sizes.start, sizes.other) in
    let is : c.cut_before_end-rest.result.now ≡ directory octets =
    c.cut_before_end-rest.ensures ∙ sym (directory_at octets c.in_ok-at.at (sym c.read_base_address.ensures.value ∙ c.in_ok-at.was)) in
    record {
      same = all_found c.args.tag.now octets _ _ sized is;
      room = room_at_first _ _;
    }

pub split_at-requires : goal.split_at-requires
split_at-requires c = room_for_one _ _ _ _ (more _ _ c.loop-test.true) c.loop.invariant.room

pub returns-in-Some : goal.returns-in-Some
returns-in-Some c =
    let octets = c.args.octets.now in
    let sizes = c.read_entry_layout-layout.ensures in
    let there = to_end octets c.in_ok-at.at ∙ sym (contents_at octets c.in_ok-at.at (sym c.read_base_address.ensures.value ∙ c.in_ok-at.was)) in
    let told = tagged_is c.args.tag.now octets _ _ _ _ _ _ c.read_tagged_entry.ensures there sizes.length sizes.start c.split_at.ensures.front in
    sym (seen_now c.args.tag.now octets _ _ _ c.loop.rest.now _ (more _ _ c.loop-test.true) (sym told ∙ ap option_copied c.in-Some.is))
    ∙ c.loop.invariant.same

pub loop-preserved : goal.loop-preserved
loop-preserved c =
    let octets = c.args.octets.now in
    let sizes = c.read_entry_layout-layout.ensures in
    let there = to_end octets c.in_ok-at.at ∙ sym (contents_at octets c.in_ok-at.at (sym c.read_base_address.ensures.value ∙ c.in_ok-at.was)) in
    let told = tagged_is c.args.tag.now octets _ _ _ _ _ _ c.read_tagged_entry.ensures there sizes.length sizes.start c.split_at.ensures.front in
    let later = seen_later c.args.tag.now octets _ _ _ c.loop.rest.now (more _ _ c.loop-test.true) (sym told ∙ ap option_copied c.in_default.is) in
    record {
      same = rw c.split_at.ensures.back (sym later ∙ c.loop.invariant.same);
      room = room_for_rest _ _ _ _ _ (more _ _ c.loop-test.true) c.loop.invariant.room c.split_at.ensures.back_len;
    }
