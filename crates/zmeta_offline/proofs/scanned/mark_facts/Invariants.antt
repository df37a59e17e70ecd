-- the facts of the file were noted so far
use Rattle.std.proofs.Common.{◌≡◌, ℕ, List, [], length, Option, Some}
use Rattle.zknow.specs.declared.fact.Fact.{Fact}
use Rattle.zmeta_devices.specs.Devices.{input_device}
use Rattle.zmeta_offline.specs.Scanned.{IsScanning, AreMarks}
use Rattle.zmeta_offline.proofs.scanned.mark_facts.Given as goal

abbrev pub invariant-loop : goal.invariant-loop
invariant-loop g l =
    (octets : List ℕ → Option (List ℕ)) (path : List ℕ) (own : List (List ℕ))
    → IsScanning octets path (input_device g.R.Readable.remaining l.initial.file) (Some (own, [])) l.initial.scan
    → (facts : List Fact)
    × IsScanning octets path (input_device g.R.Readable.remaining l.file) (Some (own, facts)) l.scan
    × ((theirs : List (List Fact)) → l.number ≡ length theirs
    → AreMarks l.first theirs own [] l.initial.marks → AreMarks l.first theirs own facts l.marks)
