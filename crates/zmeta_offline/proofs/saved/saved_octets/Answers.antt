use Rattle.std.proofs.Common.{refl, inr}
use Rattle.zmeta_offline.proofs.saved.saved_octets.Goals as goal

pub returns-in-Err-TooLong : goal.returns-in-Err-TooLong
returns-in-Err-TooLong c =
    let refused = rw c.in-Err-TooLong.field-0-is at c.in-Err-TooLong.ensures.refused in
    (refl, inr refused.0)
