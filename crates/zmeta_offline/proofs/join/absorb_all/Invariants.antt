-- the files so far are joined to the files before them
use Rattle.std.proofs.Common.{ℕ, List, ◌++◌, take}
use Rattle.zmeta_offline.specs.Join.{AreJoined}
use Rattle.zmeta_args.specs.Texts.{texts_of}
use Rattle.zmeta_offline.proofs.join.absorb_all.Given as goal

abbrev pub invariant-loop-path : goal.invariant-loop-path
invariant-loop-path g l =
    (before : List (List ℕ)) → AreJoined (g.F.Folder.octets l.files) l.names before l.initial.knowledge
    → AreJoined (g.F.Folder.octets l.files) l.names (before ++ texts_of (take l.path-index l.paths)) l.knowledge
