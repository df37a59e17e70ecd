-- Records as ISO 2709 (ANSI/NISO Z39.2) has them written in MARC 21 and UNIMARC.
use Rattle.std.specs.Prelude.{◌≡◌, ℕ, zero, suc, ◌+◌, ◌*◌, ◌/◌, ◌%◌, ◌^◌, ◌<◌, false, List, [], ◌∷◌, ◌++◌, length}
use Rattle.std.specs.Prelude.{All, take, codes}
use Rattle.std.specs.List.{flat_map}
use Rattle.zmarc.specs.Records.{Field, fields, is_end}

-- the last k decimal digits of n
abbrev pub digits : ℕ → ℕ → List ℕ
digits zero n = []
digits (suc k) n = digits k (n / 10) ++ (48 + n % 10) ∷ []

-- a field with its terminator
abbrev pub ended : Field → List ℕ
ended f = f.octets ++ 0x1E ∷ []

-- the entry of a field that starts there: its tag, its length and its start
abbrev pub entry_of : ℕ → Field → List ℕ
entry_of at f = f.tag ++ (digits 4 (length (ended f)) ++ digits 5 at)

-- the entries of fields that stand one behind the other from there on
abbrev pub directory_from : ℕ → List Field → List ℕ
directory_from at [] = []
directory_from at (f ∷ fs) = entry_of at f ++ directory_from (at + length (ended f)) fs

-- the base address: behind the leader, the entries of 12 octets and the terminator of the directory
abbrev pub base_of : List Field → ℕ
base_of fs = 24 + length fs * 12 + 1

-- the leader, of which positions 0 to 11 and 17 to 19 are given
abbrev pub leader : List ℕ → List ℕ → List Field → List ℕ
leader status coded fs = (status ++ (digits 5 (base_of fs) ++ coded)) ++ codes "4500"

-- a whole record: leader, directory and field terminator, then the fields and the record terminator
abbrev pub record_of : List ℕ → List ℕ → List Field → List ℕ
record_of status coded fs =
    leader status coded fs ++ (directory_from 0 fs ++ 0x1E ∷ (flat_map ended fs ++ 0x1D ∷ []))

-- ---- what can be written

-- the octets have no field terminator and no record terminator
abbrev pub NoEnd : List ℕ → Type 0
NoEnd octets = All (λ x. is_end x ≡ false) octets

-- a tag of three octets, and a length of at most four digits; no terminator stands in them
pub record IsWritable (f : Field) : Type 0 where
  pub tag_len : length f.tag ≡ 3
  pub plain_tag : NoEnd f.tag
  pub plain : NoEnd f.octets
  pub short : length (ended f) < 10 ^ 4

-- what the leader and the directory have place for
pub record AreWritable (status coded : List ℕ) (fs : List Field) : Type 0 where
  pub status_len : length status ≡ 12
  pub coded_len : length coded ≡ 3
  pub each : All IsWritable fs
  pub few : base_of fs < 10 ^ 5
  pub near : length (flat_map ended fs) < 10 ^ 5

-- the leader tells how many octets the record has, in its positions 0 to 4
pub record TellsLength (octets : List ℕ) : Type 0 where
  pub short : length octets < 10 ^ 5
  pub told : take 5 octets ≡ digits 5 (length octets)

-- the fields of a record are those that it was written of
abbrev pub RecordLaw : Type 0
RecordLaw = (status coded : List ℕ) (fs : List Field) → AreWritable status coded fs
    → fields (record_of status coded fs) ≡ fs
