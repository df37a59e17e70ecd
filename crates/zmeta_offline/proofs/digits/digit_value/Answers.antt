use Rattle.std.proofs.Common.{arith}
use Rattle.zmeta_offline.proofs.Reading.{value_at}
use Rattle.zmeta_offline.proofs.digits.digit_value.Goals as goal

pub returns : goal.returns
returns c = value_at c.args.octet (omega arith)
