use Rattle.std.proofs.Common.{◌≡◌, take}
use Rattle.zmeta_args.specs.Texts.{texts_of}
use Rattle.zmeta_commands.proofs.replay.names_of.Given as goal

abbrev pub invariant-loop-name : goal.invariant-loop-name
invariant-loop-name l = texts_of l.names.items ≡ texts_of (take l.name-index l.only)
