use Rattle.std.proofs.Common.{ℤ, Some, inr, ap, rules}
use Rattle.zknow_runs.proofs.rows.Rows.turn_to.Goals as goal

pub returns : goal.returns
returns c = inr (
  λ same. search rules,
  (
    c.append.new.self,
    c.in_ok-append.ensures,
    ap (λ (z : ℤ). record c.append.new.self { position = Some z })
        (search rules),
  ),
)
