-- Records of a response (Z39.50-2003, 4.1: Records, NamePlusRecord).
use Rattle.std.specs.Prelude.{◌≡◌, [], ◌∷◌, Option, refl}
use Rattle.std.proofs.Common.{inl, inr}
use Rattle.zber.specs.AsnTags.{context, universal}
use Rattle.zber.specs.Elements.{Element}
use Rattle.zasn.specs.Place.{Place}
use Rattle.zasn.specs.Choice.{Choice, either, finally, Pick, picked}
use Rattle.zasn.specs.Table.{ComponentTable, required, optional, ended, ◌⨾◌, Elements}
use Rattle.zasn.specs.Places.{of_table, of_choice, octets, within, explicit, kept, list}
use Rattle.zapdu.specs.declared.productions.record.RecordBody.{RecordBody}
use Rattle.zapdu.specs.declared.productions.record.RecordBody.TheVariants.{Retrieval, Surrogate, Fragment}
use Rattle.zapdu.specs.declared.productions.record.Record.{Record}
use Rattle.zapdu.specs.declared.productions.record.Records.{Records}
use Rattle.zapdu.specs.declared.productions.record.Records.TheVariants.{List, OneDiag, ManyDiags}
use Rattle.zapdu.specs.Productions.Externals.{external_parts}
use Rattle.zapdu.specs.Productions.Diagnostics.{default_parts, diag_rec}

-- retrievalRecord [1] EXTERNAL, surrogateDiagnostic [2] DiagRec, a fragment [3] to [5]; the tags of the first two are
-- explicit
abbrev pub bodies : Choice RecordBody
bodies =
    either (explicit (context 1) (within (universal 8) external_parts)) Retrieval
    (either (explicit (context 2) diag_rec) Surrogate
    (finally (kept (context 3) (context 4 ∷ context 5 ∷ [])) Fragment))

-- which form of record it is (a retrieval record, a surrogate diagnostic or a fragment), and its value
abbrev pub body_pick : RecordBody → Pick bodies
body_pick (Retrieval v) = inl v
body_pick (Surrogate v) = inr (inl v)
body_pick (Fragment m) = inr (inr m)

pub body-same : (b : RecordBody) → picked bodies (body_pick b) ≡ b
body-same (Retrieval v) = refl
body-same (Surrogate v) = refl
body-same (Fragment m) = refl

pub body-back : (x : Pick bodies) → body_pick (picked bodies x) ≡ x
body-back (inl v) = refl
body-back (inr (inl v)) = refl
body-back (inr (inr m)) = refl

-- record of a NamePlusRecord, without the explicit tag [1] around it: its own tag [1] to [5] gives its form
abbrev pub body : Place RecordBody
body = of_choice bodies body_pick body-same body-back refl

-- NamePlusRecord
abbrev pub record_table : ComponentTable Record
record_table =
    optional (octets (context 0)) (λ v. v.name)
    ⨾ required (explicit (context 1) body) (λ v. v.body)
    ⨾ ended

-- NamePlusRecord (Z39.50-2003, 4.1): how its elements are read and built
unfoldable pub record_parts : Elements Record
record_parts = of_table record_table (λ a b. record { name = a; body = b }) (λ v. refl) (λ x. refl) refl

-- one entry of responseRecords: a SEQUENCE of the name of the database, which may be absent, and the record
abbrev pub whole_record : Place Record
whole_record = within (universal 16) record_parts

-- the element stands for the record
abbrev pub WritesRecord : Record → Element → Type 0
WritesRecord v n = whole_record.writes v n

-- the element that is built for the record, with the contents octets of the canonical encoding
abbrev pub record_spelling : Record → Option Element
record_spelling v = whole_record.spelling v

-- responseRecords [28] SEQUENCE OF, nonSurrogateDiagnostic [130], multipleNonSurDiagnostics [205] SEQUENCE OF
abbrev pub kinds_of_records : Choice Records
kinds_of_records =
    either (list (context 28) whole_record) List
    (either (within (context 130) default_parts) OneDiag
    (finally (list (context 205) diag_rec) ManyDiags))

-- which form of records it is (records, one nonsurrogate diagnostic or several diagnostics), and its value
abbrev pub records_pick : Records → Pick kinds_of_records
records_pick (List vs) = inl vs
records_pick (OneDiag v) = inr (inl v)
records_pick (ManyDiags vs) = inr (inr vs)

pub records-same : (r : Records) → picked kinds_of_records (records_pick r) ≡ r
records-same (List vs) = refl
records-same (OneDiag v) = refl
records-same (ManyDiags vs) = refl

pub records-back : (x : Pick kinds_of_records) → records_pick (picked kinds_of_records x) ≡ x
records-back (inl vs) = refl
records-back (inr (inl v)) = refl
records-back (inr (inr vs)) = refl

-- records of a SearchResponse or a PresentResponse: the tag [28], [130] or [205] gives their form
abbrev pub records : Place Records
records = of_choice kinds_of_records records_pick records-same records-back refl
