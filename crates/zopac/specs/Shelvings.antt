-- The last places of HoldingsAndCircData (Z39.50-2003, Appendix REC: OPACRecord).
use Rattle.std.specs.Prelude.{◌≡◌, true, refl}
use Rattle.zber.specs.AsnTags.{context}
use Rattle.zasn.specs.Table.{ComponentTable, optional, also, ended, ◌⨾◌, Elements, clear}
use Rattle.zasn.specs.Places.{of_table, octets, list}
use Rattle.zopac.specs.declared.holdings.HoldingsAndCirc.{HoldingsAndCirc}
use Rattle.zopac.specs.declared.shelving.Notes.{Notes}
use Rattle.zopac.specs.declared.shelving.Shelving.{Shelving}
use Rattle.zopac.specs.Circulations.{whole_circulation}
use Rattle.zopac.specs.Volumes.{whole_volume}

-- publicNote [14], reproductionNote [15], termsUseRepro [16], enumAndChron [17], volumes [18] SEQUENCE OF Volume,
-- circulationData [19] SEQUENCE OF CircRecord
abbrev pub notes_table : ComponentTable Notes
notes_table =
    optional (octets (context 14)) (λ v. v.public_note)
    ⨾ optional (octets (context 15)) (λ v. v.reproduction_note)
    ⨾ optional (octets (context 16)) (λ v. v.terms_of_use)
    ⨾ optional (octets (context 17)) (λ v. v.enumeration_and_chronology)
    ⨾ optional (list (context 18) whole_volume) (λ v. v.volumes)
    ⨾ optional (list (context 19) whole_circulation) (λ v. v.circulations)
    ⨾ ended

-- HoldingsAndCircData from publicNote on: how its elements are read and built
unfoldable pub notes_parts : Elements Notes
notes_parts =
    of_table notes_table
    (λ a b c d e f. record {
      public_note = a;
      reproduction_note = b;
      terms_of_use = c;
      enumeration_and_chronology = d;
      volumes = e;
      circulations = f;
    })
    (λ v. refl) (λ x. refl) refl

-- the last six fields of HoldingsAndCircData as one value
abbrev pub notes : HoldingsAndCirc → Notes
notes v =
    record {
      public_note = v.public_note;
      reproduction_note = v.reproduction_note;
      terms_of_use = v.terms_of_use;
      enumeration_and_chronology = v.enumeration_and_chronology;
      volumes = v.volumes;
      circulations = v.circulations;
    }

-- nucCode [8], localLocation [9], shelvingLocation [10], callNumber [11], shelvingData [12], copyNumber [13], then
-- the last six
abbrev pub shelving_table : ComponentTable Shelving
shelving_table =
    optional (octets (context 8)) (λ v. v.nuc_code)
    ⨾ optional (octets (context 9)) (λ v. v.local_location)
    ⨾ optional (octets (context 10)) (λ v. v.shelving_location)
    ⨾ optional (octets (context 11)) (λ v. v.call_number)
    ⨾ optional (octets (context 12)) (λ v. v.shelving_data)
    ⨾ optional (octets (context 13)) (λ v. v.copy_number)
    ⨾ also notes_parts (λ v. v.notes)

-- no optional place has a tag that comes again after it
pub shelving_clear : clear shelving_table ≡ true
unfolding notes_parts
shelving_clear = refl

-- HoldingsAndCircData from nucCode on: how its elements are read and built
unfoldable pub shelving_parts : Elements Shelving
shelving_parts =
    of_table shelving_table
    (λ a b c d e f g. record {
      nuc_code = a;
      local_location = b;
      shelving_location = c;
      call_number = d;
      shelving_data = e;
      copy_number = f;
      notes = g;
    })
    (λ v. refl) (λ x. refl) shelving_clear

-- the last twelve fields of HoldingsAndCircData as one value
abbrev pub shelving : HoldingsAndCirc → Shelving
shelving v =
    record {
      nuc_code = v.nuc_code;
      local_location = v.local_location;
      shelving_location = v.shelving_location;
      call_number = v.call_number;
      shelving_data = v.shelving_data;
      copy_number = v.copy_number;
      notes = notes v;
    }
