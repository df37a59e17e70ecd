use Rattle.std.proofs.Common.{◌∙◌, ap, sym, inr}
use Rattle.zmeta_world.specs.InMemoryRuns.{target_named}
use Rattle.zmeta_commands.proofs.serve.serve_world.Goals as goal

pub returns-in-Some-clause-serves : goal.returns-in-Some-clause-serves
returns-in-Some-clause-serves g c = inr (
  c.in-Some.target.now,
  ap (λ z. target_named z c.args.world.now.targets) (sym c.as_bytes.ensures.value) ∙ sym c.in-Some.ensures.named,
  c.serve_target.ensures.serves,
)
