use Rattle.std.proofs.Common.{◌≡◌, ◌*◌, ◌+◌, ℕ, get_or, refl, arith}
use Rattle.zknow_merge.proofs.CanonicalTheory.{syntax_oid}
use Rattle.zknow_merge.proofs.canonical.is_syntax.Goals as goal

pub returns-else-middle-ne13505285 : goal.returns-else-middle-ne13505285
returns-else-middle-ne13505285 c =
    let xs = c.args.octets.now in
    let third = c.from.ensures in
    let last = c.from-in-len6-up.ensures in
    let front : (get_or xs 0 0 * 256 + get_or xs 1 0) * 256 + get_or xs 2 0 ≡ 2786888 =
    omega (arith, c.if-front-ne2786888.false, c.pair.ensures, third) in
    let middle : (get_or xs 3 0 * 256 + get_or xs 4 0) * 256 + get_or xs 5 0 ≡ 13505285 =
    omega (arith, c.if-middle-ne13505285.false, c.pair-in-len6-up.ensures, last) in
    λ ended. syntax_oid xs _ c.in-len6-up.len_at_least (λ (k : ℕ). (c.type_inv.octets k).fits) refl front middle
    (c.is_syntax_end.ensures ended)
