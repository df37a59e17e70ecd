-- Ranges of a result set (Z39.50-2003, 4.1: Range).
use Rattle.std.specs.Prelude.{refl}
use Rattle.zber.specs.AsnTags.{context, universal}
use Rattle.zasn.specs.Place.{Place}
use Rattle.zasn.specs.Table.{ComponentTable, required, ended, ◌⨾◌, Elements}
use Rattle.zasn.specs.Places.{of_table, integer, within}
use Rattle.zapdu.specs.declared.productions.range.Range.{Range}

-- startingPosition [1] INTEGER, numberOfRecords [2] INTEGER
abbrev pub range_table : ComponentTable Range
range_table =
    required (integer (context 1)) (λ v. v.starting_position)
    ⨾ required (integer (context 2)) (λ v. v.number_of_records)
    ⨾ ended

-- Range of a PresentRequest (Z39.50-2003, 4.1): how its elements are read and built
unfoldable pub range_parts : Elements Range
range_parts =
    of_table range_table (λ a b. record { starting_position = a; number_of_records = b }) (λ v. refl) (λ x. refl) refl

-- one entry of additionalRanges: a SEQUENCE of these two numbers
abbrev pub whole_range : Place Range
whole_range = within (universal 16) range_parts
