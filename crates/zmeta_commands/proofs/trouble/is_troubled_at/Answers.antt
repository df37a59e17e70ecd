use Rattle.std.proofs.Common.{◌≡◌, true, rules}
use Rattle.zmeta_commands.specs.Finished.{is_asked}
use Rattle.zmeta_commands.proofs.Troubles.{troubled_at}
use Rattle.zmeta_commands.proofs.trouble.is_troubled_at.Goals as goal

pub returns-then-is_asked : goal.returns-then-is_asked
returns-then-is_asked c =
    let asked : is_asked c.args.addresses.now c.args.c ≡ true = search rules in
    troubled_at c.args.addresses.now c.args.c c.args.meta.now c.is_troubled.result asked c.is_troubled.ensures
