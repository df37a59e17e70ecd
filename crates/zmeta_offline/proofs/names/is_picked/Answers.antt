use Rattle.std.proofs.Common.{◌<◌, length, rules}
use Rattle.zmeta_offline.proofs.Choosing.{picked_by}
use Rattle.zmeta_offline.proofs.names.is_picked.Goals as goal

pub returns-else-is_empty : goal.returns-else-is_empty
returns-else-is_empty c =
    let some : 0 < length c.args.only.now = search rules in
    picked_by c.args.only.now c.args.name.now c.is_text.result some c.is_text.ensures
