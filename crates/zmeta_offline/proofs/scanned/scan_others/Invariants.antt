-- the files so far were scanned behind the first
use Rattle.std.proofs.Common.{◌≡◌, ℕ, List, [], ◌∷◌, take}
use Rattle.zmeta_args.specs.Texts.{texts_of}
use Rattle.zmeta_offline.specs.Scanned.{IsScannedTo}
use Rattle.zmeta_offline.proofs.scanned.scan_others.Given as goal

abbrev pub invariant-loop-path : goal.invariant-loop-path
invariant-loop-path g l =
    (l.number ≡ l.path-index)
    × ((only : List (List ℕ)) (path : List ℕ)
    → IsScannedTo (g.F.Folder.octets l.files) only (path ∷ []) l.first l.initial.marks
    → IsScannedTo (g.F.Folder.octets l.files) only (path ∷ texts_of (take l.path-index l.others)) l.first l.marks)
