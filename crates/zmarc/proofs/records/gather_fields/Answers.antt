use Rattle.std.proofs.Common.{◌≡◌, ◌+◌, ◌-◌, ◌<◌, ℕ, suc, sym, ◌∙◌, arith}
use Rattle.zmarc.specs.Records.{directory, entry_len}
use Rattle.zmarc.proofs.Cuts.{to_end}
use Rattle.zmarc.proofs.FieldTheory.{contents_at, directory_at, all_fields, fields_on, field_is, room_at_first, room_for_one, room_for_rest}
use Rattle.zmarc.proofs.records.gather_fields.Goals as goal

-- one more is left
more : (i n : ℕ) → i < n → n - i ≡ suc (n - (i + 1))
more i n h = omega arith

pub loop-init : goal.loop-init
loop-init c =
    let octets = c.args.octets.now in
    let sizes = c.read_entry_layout-layout.ensures in
    let sized : 3 + c.read_entry_layout-layout.result.length_digits + c.read_entry_layout-layout.result.start_digits
    + c.read_entry_layout-layout.result.other_octets ≡ entry_len octets =
    omega (arith, sizes.length, sizes.start, sizes.other) in
    let is : c.cut_before_end-rest.result.now ≡ directory octets =
    c.cut_before_end-rest.ensures ∙ sym (directory_at octets c.in-Some.at (sym c.read_base_address.ensures.value ∙ c.in-Some.is)) in
    record { same = rw c.new-found.ensures.items (all_fields octets _ _ sized is); room = room_at_first _ _ }

pub split_at-requires : goal.split_at-requires
split_at-requires c = room_for_one _ _ _ _ (more _ _ c.loop-test.true) c.loop.invariant.room

pub loop-preserved : goal.loop-preserved
loop-preserved c =
    let octets = c.args.octets.now in
    let sizes = c.read_entry_layout-layout.ensures in
    let there =
    to_end octets c.in-Some.at
    ∙ sym (contents_at octets c.in-Some.at (sym c.read_base_address.ensures.value ∙ c.in-Some.is)) in
    let told = field_is octets _ _ _ _ _ there sizes.length sizes.start c.split_at.ensures.front in
    record {
      same = rw c.split_at.ensures.back
          (fields_on octets _ _ _ c.loop.rest.now _ _ _ _ (more _ _ c.loop-test.true) told
          c.in_ok-take_field.ensures c.loop.invariant.same);
      room = room_for_rest _ _ _ _ _ (more _ _ c.loop-test.true) c.loop.invariant.room c.split_at.ensures.back_len;
    }
