use Rattle.std.proofs.Common.{◌∙◌, ◌≡◌, Some, subst}
use Rattle.zmeta_world.specs.WorldParts.{list_of}
use Rattle.zmeta_world.specs.WorldReading.{world_of}
use Rattle.zmeta_world.specs.Worlds.{in_last, in_target, in_database, add_content}
use Rattle.zmeta_world.proofs.WorldReads.{names_stay, target_keeps, changed}
use Rattle.zmeta_world.proofs.world.reader.Reader.add_content.Goals as goal

pub returns : goal.returns
returns c =
    let change = in_target (in_database (add_content c.args.content)) in
    let all = subst (λ z. in_last change (list_of z) ≡ Some c.in_ok-targets.targets) c.take.ensures.value c.in_ok-targets.ensures in (
      record {
        targets = c.requires.targets ∙ names_stay change (list_of c.args.self.now.targets) c.in_ok-targets.targets (target_keeps (in_database (add_content c.args.content))) all;
        hosts = c.requires.hosts;
        asked = c.requires.asked;
      },
      changed change (world_of c.args.self.now) c.in_ok-targets.targets all,
    )
