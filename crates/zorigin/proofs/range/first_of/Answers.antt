use Rattle.std.proofs.Common.{◌≡◌, pos, get_or, to_z, of_z, w64, sym, ◌∙◌, arith}
use Rattle.std.proofs.lemmas.Int.{ints}
use Rattle.std.proofs.lemmas.List.{get_or_default}
use Rattle.zorigin.proofs.Ranges.{first_start, good_each, good_in, follows}
use Rattle.zorigin.proofs.range.first_of.Goals as goal

pub returns-in-len1-up : goal.returns-in-len1-up
returns-in-len1-up c =
    let ranges = c.args.ranges.now in
    let x = get_or ranges 0 (record { start = pos 0; n = pos 0 }) in
    let is : x ≡ get_or ranges 0 x = get_or_default ranges 0 _ x c.in-len1-up.len_at_least in
    let g = good_in ranges 0 x (good_each (pos 0) ranges (follows ranges c.requires)) c.in-len1-up.len_at_least is in
    let plain : to_z w64 (of_z w64 x.start) ≡ x.start = omega (arith, ints, g.low, g.high, g.some) in
    plain ∙ sym (first_start ranges c.requires x is)
