use Rattle.std.proofs.Common.{◌≡◌, length}
use Rattle.zmeta_args.specs.Texts.{texts_of}
use Rattle.zmeta_commands.specs.Choice.{AreChosen}
use Rattle.zmeta_commands.proofs.choice.pick_addresses.Given as goal

abbrev pub invariant-loop-c : goal.invariant-loop-c
invariant-loop-c l =
    AreChosen (texts_of l.only) l.names l.addresses l.c l.chosen.items × (length l.chosen.items ≡ l.c)
