use Rattle.std.proofs.Common.{◌≡◌, ◌-◌, length, ap, ◌∙◌, arith, rules, w64, FitsSigned}
use Rattle.std.proofs.lemmas.Int.{to_z-of_z}
use Rattle.zplan.specs.Ranges.{natural}
use Rattle.ztarget.proofs.AskedPositions.{in_set, part_at, rest_length}
use Rattle.ztarget.proofs.present.hits_at.Goals as goal

pub returns : goal.returns
returns c =
    let x = c.args.range.now in
    let found = c.args.found.now in
    let s = natural x.start in
    let n = natural x.n in
    let starts : FitsSigned w64 x.start = search rules in
    let numbers : FitsSigned w64 x.n = search rules in
    let start : c.natural.result ≡ s = c.natural.ensures ∙ ap natural (to_z-of_z w64 x.start starts) in
    let number : c.natural-number.result ≡ n = c.natural-number.ensures ∙ ap natural (to_z-of_z w64 x.n numbers) in
    let f = in_set s n (length found) c.requires in
    let one : c.min.result ≡ s - 1 = omega (arith, c.min.ensures, c.saturating_sub-before.ensures, start, f.0, f.1, f.2) in
    let two : c.min-2.result ≡ n = omega (arith, c.min-2.ensures, number, one, rest_length found c.min.result, f.0, f.1, f.2) in
    part_at found s n c.min.result c.min-2.result c.requires one two
