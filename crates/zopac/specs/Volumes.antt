-- Volume (Z39.50-2003, Appendix REC: OPACRecord).
use Rattle.std.specs.Prelude.{refl}
use Rattle.zber.specs.AsnTags.{context, universal}
use Rattle.zasn.specs.Place.{Place}
use Rattle.zasn.specs.Table.{ComponentTable, optional, ended, ◌⨾◌, Elements}
use Rattle.zasn.specs.Places.{of_table, octets, within}
use Rattle.zopac.specs.declared.volume.Volume.{Volume}

-- enumeration [1], chronology [2], enumAndChron [3]
abbrev pub volume_table : ComponentTable Volume
volume_table =
    optional (octets (context 1)) (λ v. v.enumeration)
    ⨾ optional (octets (context 2)) (λ v. v.chronology)
    ⨾ optional (octets (context 3)) (λ v. v.enumeration_and_chronology)
    ⨾ ended

-- Volume: how its elements are read and built
unfoldable pub volume_parts : Elements Volume
volume_parts =
    of_table volume_table
    (λ a b c. record { enumeration = a; chronology = b; enumeration_and_chronology = c }) (λ v. refl) (λ x. refl) refl

-- one entry of volumes: a SEQUENCE
abbrev pub whole_volume : Place Volume
whole_volume = within (universal 16) volume_parts
