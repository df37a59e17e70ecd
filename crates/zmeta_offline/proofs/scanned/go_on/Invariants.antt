-- nothing more was found of the file
use Rattle.std.proofs.Common.{◌≡◌, ℕ, List, Option}
use Rattle.zknow_merge.specs.Scans.{Found}
use Rattle.zmeta_devices.specs.Devices.{input_device}
use Rattle.zmeta_offline.specs.Scanned.{IsScanning}
use Rattle.zmeta_offline.proofs.scanned.go_on.Given as goal

abbrev pub invariant-loop : goal.invariant-loop
invariant-loop g l =
    ((octets : List ℕ → Option (List ℕ)) (path : List ℕ) (found : Found)
    → IsScanning octets path (input_device g.R.Readable.remaining l.initial.file) found l.initial.scan
    → IsScanning octets path (input_device g.R.Readable.remaining l.file) found l.scan)
    × (l.file.path ≡ l.initial.file.path)
