use Rattle.std.proofs.Common.{◌+◌, ◌*◌, refl}
use Rattle.zmeta_offline.proofs.Reading.{octet_is, no_high, no_low}
use Rattle.zmeta_offline.proofs.digits.octet_of.Goals as goal
use Rattle.zmeta_offline.proofs.digits.octet_of.Goals.{else-first-lt16-via-then-first-lt16+else-second-lt16, else-first-lt16-via-else-first-lt16}

pub returns-then-second-lt16-clause-some : goal.returns-then-second-lt16-clause-some
returns-then-second-lt16-clause-some c =
    octet_is c.args.high c.args.low c.digit_value-first.result c.digit_value-second.result (c.digit_value-first.result * 16 + c.digit_value-second.result)
    c.digit_value-first.ensures c.digit_value-second.ensures c.if-first-lt16.true c.if-second-lt16.true refl

pub returns-else-first-lt16-clause-none : goal.returns-else-first-lt16-clause-none
returns-else-first-lt16-clause-none c octet s = elim c.else-first-lt16.branch [
  | else-first-lt16-via-then-first-lt16+else-second-lt16 w ↦ no_low c.args.high c.args.low c.digit_value-second.result octet c.digit_value-second.ensures w.if-second-lt16.false s
  | else-first-lt16-via-else-first-lt16 w ↦ no_high c.args.high c.args.low c.digit_value-first.result octet c.digit_value-first.ensures w.if-first-lt16.false s
]
