use Rattle.std.proofs.Common.{rules, ◌≡◌, ◌≤◌, ◌-◌, length, arith}
use Rattle.zmeta_offline.proofs.Keeping.{stand_window}
use Rattle.zmeta_offline.proofs.rows.octets_of.Goals as goal

pub returns : goal.returns
returns c known h =
    let xs = c.as_slice.result.now in
    let same : c.args.window.now.file ≡ c.args.file = search rules in
    let above : c.args.window.now.begin ≤ c.args.offset = omega (arith, c.if-offset-window.false) in
    let le : c.args.offset - c.args.window.now.begin ≤ length xs = search rules in (
      same,
      stand_window known c.args.window.now.begin c.args.offset c.args.window.now.octets.items xs above le
          c.as_slice.ensures.value h,
    )
