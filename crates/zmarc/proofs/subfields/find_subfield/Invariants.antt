use Rattle.std.proofs.Common.{◌≡◌, length}
use Rattle.zmarc.specs.Subfields.{first_subfield}
use Rattle.zmarc.proofs.subfields.find_subfield.Given as goal

abbrev pub invariant-loop-part : goal.invariant-loop-part
invariant-loop-part l = first_subfield l.code l.rest ≡ first_subfield l.code l.field

abbrev pub decreases-loop-part : goal.decreases-loop-part
decreases-loop-part l = length l.rest
