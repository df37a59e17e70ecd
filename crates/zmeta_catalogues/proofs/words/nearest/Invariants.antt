use Rattle.std.proofs.Common.{◌≡◌, drop}
use Rattle.zmeta_catalogues.specs.Words.{nearest_of}
use Rattle.zmeta_catalogues.specs.declared.fault.Key.{Key}
use Rattle.zmeta_catalogues.proofs.Nearest.{begun}
use Rattle.zmeta_catalogues.proofs.words.nearest.Given as goal

abbrev pub invariant-keys : goal.invariant-keys
invariant-keys l =
    nearest_of l.word begun l.keys
    ≡ nearest_of l.word (record { key = l.near; parted = l.parted }) (drop l.key-index l.keys)
