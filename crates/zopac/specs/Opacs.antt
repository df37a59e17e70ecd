-- OPACRecord (Z39.50-2003, Appendix REC).
use Rattle.std.specs.Prelude.{◌≡◌, ◌⊎◌, Option, Some, Result, Ok, Err, refl}
use Rattle.zber.specs.AsnTags.{context, universal}
use Rattle.zber.specs.Elements.{Element}
use Rattle.zasn.specs.declared.error.PartError.{PartError}
use Rattle.zasn.specs.declared.error.PartError.TheVariants.{Misfit, Memory}
use Rattle.zasn.specs.Place.{Place}
use Rattle.zasn.specs.Table.{ComponentTable, optional, ended, ◌⨾◌, Elements}
use Rattle.zasn.specs.Within.{whole_of}
use Rattle.zasn.specs.Places.{of_table, within, list}
use Rattle.zapdu.specs.Productions.Externals.{external_parts}
use Rattle.zopac.specs.declared.opac.OpacRecord.{OpacRecord}
use Rattle.zopac.specs.HoldingKinds.{holding}

-- bibliographicRecord [1] IMPLICIT EXTERNAL, holdingsData [2] IMPLICIT SEQUENCE OF HoldingsRecord
abbrev pub opac_table : ComponentTable OpacRecord
opac_table =
    optional (within (context 1) external_parts) (λ v. v.bibliographic)
    ⨾ optional (list (context 2) holding) (λ v. v.holdings)
    ⨾ ended

-- OPACRecord: how its elements are read and built
unfoldable pub opac_parts : Elements OpacRecord
opac_parts = of_table opac_table (λ a b. record { bibliographic = a; holdings = b }) (λ v. refl) (λ x. refl) refl

-- OPACRecord: a SEQUENCE
abbrev pub whole_opac : Place OpacRecord
whole_opac = within (universal 16) opac_parts

-- the element stands for the record
abbrev pub WritesOpac : OpacRecord → Element → Type 0
WritesOpac v n = whole_opac.writes v n

-- the record that the element stands for
abbrev pub opac_meaning : Element → Option OpacRecord
opac_meaning n = whole_of whole_opac n

-- the element that is built for the record, with the contents octets of the canonical encoding
abbrev pub opac_spelling : OpacRecord → Option Element
opac_spelling v = whole_opac.spelling v

-- the element stands for the record that was read, or for none, unless no memory was found
abbrev pub IsReadResult : Element → Result OpacRecord PartError → Type 0
IsReadResult n (Ok v) = WritesOpac v n
IsReadResult n (Err Misfit) = (v : OpacRecord) → WritesOpac v n → ⊥
IsReadResult n (Err Memory) = Unit {0}

-- reading the element that was built of a record returns this record, unless no memory is found
abbrev pub OpacReadBack : Type 0
OpacReadBack = (v : OpacRecord) (n : Element) (r : Result OpacRecord PartError)
    → opac_spelling v ≡ Some n → IsReadResult n r → (r ≡ Ok v) ⊎ (r ≡ Err Memory)
