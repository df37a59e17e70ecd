-- Reading returns what was built.
use Rattle.std.specs.Prelude.{◌≡◌, ◌⊎◌, Option, Some, None, Result, Ok, Err}
use Rattle.zber.specs.Elements.{Element}
use Rattle.zapdu.specs.declared.apdu.Apdu.{Apdu}
use Rattle.zapdu.specs.declared.apdu.ApduError.{ApduError}
use Rattle.zapdu.specs.declared.apdu.ApduError.TheVariants as errors
use Rattle.zapdu.specs.declared.productions.diagnostic.DiagRec.{DiagRec}
use Rattle.zapdu.specs.declared.productions.record.Record.{Record}
use Rattle.zapdu.specs.Productions.Diagnostics.{WritesDiag, diag_spelling}
use Rattle.zapdu.specs.Productions.Records.{WritesRecord, record_spelling}
use Rattle.zapdu.specs.Writes.{IsDecodeResult, apdu_spelling}

-- decoding the element that was built of an APDU returns this APDU, unless no memory is found
abbrev pub ApduReadBack : Type 0
ApduReadBack = (v : Apdu) (n : Element) (r : Result Apdu ApduError)
    → apdu_spelling v ≡ Some n → IsDecodeResult n r → (r ≡ Ok v) ⊎ (r ≡ Err errors.Memory)

-- the record that the element stands for; none if it stands for none
abbrev pub IsRecordOf : Element → Option Record → Type 0
IsRecordOf n (Some v) = WritesRecord v n
IsRecordOf n None = (v : Record) → WritesRecord v n → ⊥

-- reading the element that was built of a record returns this record
abbrev pub RecordReadBack : Type 0
RecordReadBack = (v : Record) (n : Element) (o : Option Record)
    → record_spelling v ≡ Some n → IsRecordOf n o → o ≡ Some v

-- the diagnostic that the element stands for; none if it stands for none
abbrev pub IsDiagOf : Element → Option DiagRec → Type 0
IsDiagOf n (Some v) = WritesDiag v n
IsDiagOf n None = (v : DiagRec) → WritesDiag v n → ⊥

-- reading the element that was built of a diagnostic returns this diagnostic
abbrev pub DiagReadBack : Type 0
DiagReadBack = (v : DiagRec) (n : Element) (o : Option DiagRec) → diag_spelling v ≡ Some n → IsDiagOf n o → o ≡ Some v
