use Rattle.std.proofs.Common.{◌≡◌, map, take, string_bytes}
use Rattle.zopac.specs.Copies.{holding_line}
use Rattle.zknow_html.proofs.descriptions.show_holdings.Given as goal

abbrev pub invariant-loop-holding : goal.invariant-loop-holding
invariant-loop-holding l = map string_bytes l.lines.items ≡ map holding_line (take l.holding-index l.holdings)
