-- What was built is read back.
use Rattle.std.proofs.Common.{◌≡◌, ◌⊎◌, inl, inr, refl, ap, Option, Some, None, Result, Ok, Err}
use Rattle.zber.specs.Elements.{Element}
use Rattle.zasn.specs.Place.{Place}
use Rattle.zapdu.specs.declared.apdu.Apdu.{Apdu}
use Rattle.zapdu.specs.declared.apdu.ApduError.{ApduError}
use Rattle.zapdu.specs.declared.apdu.ApduError.TheVariants as errors
use Rattle.zapdu.specs.declared.productions.diagnostic.DiagRec.{DiagRec}
use Rattle.zapdu.specs.declared.productions.record.Record.{Record}
use Rattle.zapdu.specs.Productions.Diagnostics.{diag_rec}
use Rattle.zapdu.specs.Productions.Records.{whole_record}
use Rattle.zapdu.specs.Writes.{Writes, IsDecodeResult}
use Rattle.zapdu.specs.ReadingBack.{ApduReadBack, RecordReadBack, IsRecordOf, DiagReadBack, IsDiagOf}
use Rattle.zapdu.proofs.Decoding.{one_value}
use Rattle.zapdu.proofs.Refusals.{one_refusal}
use Rattle.zapdu.proofs.Written.{apdu_written}

decoded : (v : Apdu) (n : Element) (r : Result Apdu ApduError) → Writes v n → IsDecodeResult n r → (r ≡ Ok v) ⊎ (r ≡ Err errors.Memory)
decoded v n (Ok w) h d = inl (ap (λ (x : Apdu). Ok x) (one_value w v n d h))
decoded v n (Err errors.NotApdu) h d = absurd (one_refusal.written v n h d)
decoded v n (Err (errors.Malformed kind at)) h d = absurd (d.0 v h)
decoded v n (Err errors.Memory) h d = inr refl

pub apdu_back : ApduReadBack
apdu_back = λ v n r e d. decoded v n r (apdu_written v (Ok n) e) d

-- a place gives back the value that it stands for
found : {A : Type 0} (p : Place A) (v w : A) (n : Element) → p.writes v n → p.writes w n → w ≡ v
found p v w n h k =
    let mine : p.meaning n ≡ Some v = p.finds v n h in
    let other : p.meaning n ≡ Some w = p.finds w n k in
    cc

record_of : (v : Record) (n : Element) (o : Option Record) → whole_record.writes v n → IsRecordOf n o → o ≡ Some v
record_of v n (Some w) h k = ap (λ (x : Record). Some x) (found whole_record v w n h k)
record_of v n None h k = absurd (k v h)

pub record_back : RecordReadBack
record_back = λ v n o e k. record_of v n o (whole_record.makes v n e) k

diag_of : (v : DiagRec) (n : Element) (o : Option DiagRec) → diag_rec.writes v n → IsDiagOf n o → o ≡ Some v
diag_of v n (Some w) h k = ap (λ (x : DiagRec). Some x) (found diag_rec v w n h k)
diag_of v n None h k = absurd (k v h)

pub diag_back : DiagReadBack
diag_back = λ v n o e k. diag_of v n o (diag_rec.makes v n e) k
