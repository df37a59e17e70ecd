use Rattle.std.proofs.Common.{subst}
use Rattle.zmeta_commands.specs.Finished.{IsStatusOf}
use Rattle.zmeta_commands.proofs.trouble.finished_status.Goals as goal

pub returns : goal.returns
returns c =
    subst (λ z. IsStatusOf z c.args.finished.now.meta c.status_of.result) c.as_slice.ensures.value c.status_of.ensures
