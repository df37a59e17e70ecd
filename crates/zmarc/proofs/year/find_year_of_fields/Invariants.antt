use Rattle.std.proofs.Common.{◌≡◌, drop}
use Rattle.zmarc.specs.References.{behind_each}
use Rattle.zmarc.specs.Subfields.{first_given}
use Rattle.zmarc.specs.Years.{year_of_field}
use Rattle.zmarc.proofs.year.find_year_of_fields.Given as goal

abbrev pub invariant-loop-field : goal.invariant-loop-field
invariant-loop-field l =
    first_given (year_of_field l.code) (behind_each (drop l.field-index l.fields))
    ≡ first_given (year_of_field l.code) (behind_each l.fields)
