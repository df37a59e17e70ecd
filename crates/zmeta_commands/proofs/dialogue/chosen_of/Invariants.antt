use Rattle.std.proofs.Common.{◌≡◌, take}
use Rattle.zmeta_args.specs.Texts.{texts_of}
use Rattle.zmeta_commands.specs.Dialogue.{are_shown}
use Rattle.zmeta_commands.proofs.dialogue.chosen_of.Given as goal

abbrev pub invariant-loop-name : goal.invariant-loop-name
invariant-loop-name l = l.chosen.items ≡ are_shown (texts_of l.only) (take l.name-index l.names)
