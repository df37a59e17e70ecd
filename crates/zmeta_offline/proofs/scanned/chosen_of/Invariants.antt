-- whether records are taken of the catalogues so far
use Rattle.std.proofs.Common.{◌≡◌, map, take}
use Rattle.zmeta_args.specs.Texts.{texts_of}
use Rattle.zmeta_offline.specs.Names.{is_picked}
use Rattle.zmeta_offline.proofs.scanned.chosen_of.Given as goal

abbrev pub invariant-loop-name : goal.invariant-loop-name
invariant-loop-name l = l.targets.items ≡ map (is_picked (texts_of l.only)) (take l.name-index l.names)
