-- CircRecord (Z39.50-2003, Appendix REC: OPACRecord).
use Rattle.std.specs.Prelude.{◌≡◌, true, refl}
use Rattle.zber.specs.AsnTags.{context, universal}
use Rattle.zasn.specs.Place.{Place}
use Rattle.zasn.specs.Table.{ComponentTable, required, optional, also, ended, ◌⨾◌, Elements, clear}
use Rattle.zasn.specs.Places.{of_table, octets, boolean, within}
use Rattle.zopac.specs.declared.circulation.Circulation.{Circulation}
use Rattle.zopac.specs.declared.circulation.Loan.{Loan}

-- renewable [6], onHold [7], enumAndChron [8], midspine [9], temporaryLocation [10]
abbrev pub loan_table : ComponentTable Loan
loan_table =
    required (boolean (context 6)) (λ v. v.renewable)
    ⨾ required (boolean (context 7)) (λ v. v.on_hold)
    ⨾ optional (octets (context 8)) (λ v. v.enumeration_and_chronology)
    ⨾ optional (octets (context 9)) (λ v. v.midspine)
    ⨾ optional (octets (context 10)) (λ v. v.temporary_location)
    ⨾ ended

-- CircRecord from renewable on: how its elements are read and built
unfoldable pub loan_parts : Elements Loan
loan_parts =
    of_table loan_table
    (λ a b c d e. record {
      renewable = a;
      on_hold = b;
      enumeration_and_chronology = c;
      midspine = d;
      temporary_location = e;
    })
    (λ v. refl) (λ x. refl) refl

-- the last five fields of a CircRecord as one value
abbrev pub loan : Circulation → Loan
loan v =
    record {
      renewable = v.renewable;
      on_hold = v.on_hold;
      enumeration_and_chronology = v.enumeration_and_chronology;
      midspine = v.midspine;
      temporary_location = v.temporary_location;
    }

-- availableNow [1], availablityDate [2], availableThru [3], restrictions [4], itemId [5], then the last five
abbrev pub circulation_table : ComponentTable Circulation
circulation_table =
    required (boolean (context 1)) (λ v. v.available_now)
    ⨾ optional (octets (context 2)) (λ v. v.availability_date)
    ⨾ optional (octets (context 3)) (λ v. v.available_through)
    ⨾ optional (octets (context 4)) (λ v. v.restrictions)
    ⨾ optional (octets (context 5)) (λ v. v.item_id)
    ⨾ also loan_parts loan

-- no optional place has a tag that comes again after it
pub circulation_clear : clear circulation_table ≡ true
unfolding loan_parts
circulation_clear = refl

-- CircRecord: how its elements are read and built
unfoldable pub circulation_parts : Elements Circulation
circulation_parts =
    of_table circulation_table
    (λ a b c d e f. record {
      available_now = a;
      availability_date = b;
      available_through = c;
      restrictions = d;
      item_id = e;
      renewable = f.renewable;
      on_hold = f.on_hold;
      enumeration_and_chronology = f.enumeration_and_chronology;
      midspine = f.midspine;
      temporary_location = f.temporary_location;
    })
    (λ v. refl) (λ x. refl) circulation_clear

-- one entry of circulationData: a SEQUENCE
abbrev pub whole_circulation : Place Circulation
whole_circulation = within (universal 16) circulation_parts
