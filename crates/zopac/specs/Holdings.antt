-- HoldingsAndCircData (Z39.50-2003, Appendix REC: OPACRecord).
use Rattle.std.specs.Prelude.{◌≡◌, true, refl}
use Rattle.zber.specs.AsnTags.{context}
use Rattle.zasn.specs.Table.{ComponentTable, optional, also, ◌⨾◌, Elements, clear}
use Rattle.zasn.specs.Places.{of_table, octets}
use Rattle.zopac.specs.declared.holdings.HoldingsAndCirc.{HoldingsAndCirc}
use Rattle.zopac.specs.Shelvings.{notes_parts, shelving, shelving_parts}

-- typeOfRecord [1], encodingLevel [2], format [3], receiptAcqStatus [4], generalRetention [5], completeness [6],
-- dateOfReport [7], then the last twelve places
abbrev pub holdings_table : ComponentTable HoldingsAndCirc
holdings_table =
    optional (octets (context 1)) (λ v. v.type_of_record)
    ⨾ optional (octets (context 2)) (λ v. v.encoding_level)
    ⨾ optional (octets (context 3)) (λ v. v.format)
    ⨾ optional (octets (context 4)) (λ v. v.receipt_status)
    ⨾ optional (octets (context 5)) (λ v. v.general_retention)
    ⨾ optional (octets (context 6)) (λ v. v.completeness)
    ⨾ optional (octets (context 7)) (λ v. v.date_of_report)
    ⨾ also shelving_parts shelving

-- no optional place has a tag that comes again after it
pub holdings_clear : clear holdings_table ≡ true
unfolding notes_parts shelving_parts
holdings_clear = refl

-- HoldingsAndCircData: how its elements are read and built
unfoldable pub holdings_parts : Elements HoldingsAndCirc
holdings_parts =
    of_table holdings_table
    (λ a b c d e f g h. record {
      type_of_record = a;
      encoding_level = b;
      format = c;
      receipt_status = d;
      general_retention = e;
      completeness = f;
      date_of_report = g;
      nuc_code = h.nuc_code;
      local_location = h.local_location;
      shelving_location = h.shelving_location;
      call_number = h.call_number;
      shelving_data = h.shelving_data;
      copy_number = h.copy_number;
      public_note = h.notes.public_note;
      reproduction_note = h.notes.reproduction_note;
      terms_of_use = h.notes.terms_of_use;
      enumeration_and_chronology = h.notes.enumeration_and_chronology;
      volumes = h.notes.volumes;
      circulations = h.notes.circulations;
    })
    (λ v. refl) (λ x. refl) holdings_clear
