-- the path of the first file, and of the others so far
use Rattle.std.proofs.Common.{◌≡◌, ◌∷◌, take}
use Rattle.zmeta_args.specs.Texts.{texts_of}
use Rattle.zmeta_offline.proofs.records.paths_of.Given as goal

abbrev pub invariant-loop-path : goal.invariant-loop-path
invariant-loop-path l = texts_of l.paths.items ≡ l.saved.first.now ∷ texts_of (take l.path-index l.saved.others.now)
