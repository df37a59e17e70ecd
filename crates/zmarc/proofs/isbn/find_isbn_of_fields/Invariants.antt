use Rattle.std.proofs.Common.{◌≡◌, drop}
use Rattle.zmarc.specs.References.{behind_each}
use Rattle.zmarc.specs.Subfields.{first_given}
use Rattle.zmarc.specs.Isbns.{isbn_of_field}
use Rattle.zmarc.proofs.isbn.find_isbn_of_fields.Given as goal

abbrev pub invariant-loop-field : goal.invariant-loop-field
invariant-loop-field l =
    first_given isbn_of_field (behind_each (drop l.field-index l.fields))
    ≡ first_given isbn_of_field (behind_each l.fields)
