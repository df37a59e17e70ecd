-- Diagnostics (Z39.50-2003, 4.1: DiagRec, DefaultDiagFormat).
use Rattle.std.specs.Prelude.{◌≡◌, Option, refl}
use Rattle.std.proofs.Common.{inl, inr}
use Rattle.zber.specs.AsnTags.{universal}
use Rattle.zber.specs.Elements.{Element}
use Rattle.zasn.specs.Place.{Place}
use Rattle.zasn.specs.Choice.{Choice, either, finally, Pick, picked}
use Rattle.zasn.specs.Table.{ComponentTable, required, ended, ◌⨾◌, Elements}
use Rattle.zasn.specs.Places.{of_table, of_choice, octets, integer, oid, within}
use Rattle.zapdu.specs.declared.productions.diagnostic.Info.{Info}
use Rattle.zapdu.specs.declared.productions.diagnostic.Info.TheVariants.{V2, V3}
use Rattle.zapdu.specs.declared.productions.diagnostic.DefaultDiag.{DefaultDiag}
use Rattle.zapdu.specs.declared.productions.diagnostic.DiagRec.{DiagRec}
use Rattle.zapdu.specs.declared.productions.diagnostic.DiagRec.TheVariants.{Default, Ext}
use Rattle.zapdu.specs.Productions.Externals.{external_parts}

-- addinfo: v2Addinfo VisibleString, v3Addinfo InternationalString
abbrev pub infos : Choice Info
infos =
    either (octets (universal 26)) V2
    (finally (octets (universal 27)) V3)

-- which form of addinfo it is, v2Addinfo first, and its octets
abbrev pub info_pick : Info → Pick infos
info_pick (V2 xs) = inl xs
info_pick (V3 xs) = inr xs

pub info-same : (i : Info) → picked infos (info_pick i) ≡ i
info-same (V2 xs) = refl
info-same (V3 xs) = refl

pub info-back : (x : Pick infos) → info_pick (picked infos x) ≡ x
info-back (inl xs) = refl
info-back (inr xs) = refl

-- addinfo: the tag of VisibleString [UNIVERSAL 26] or of GeneralString [UNIVERSAL 27] gives its form
abbrev pub info : Place Info
info = of_choice infos info_pick info-same info-back refl

-- DefaultDiagFormat: diagnosticSetId OBJECT IDENTIFIER, condition INTEGER, addinfo
abbrev pub default_diag_table : ComponentTable DefaultDiag
default_diag_table =
    required (oid (universal 6)) (λ v. v.diag_set)
    ⨾ required (integer (universal 2)) (λ v. v.condition)
    ⨾ required info (λ v. v.info)
    ⨾ ended

-- DefaultDiagFormat (Z39.50-2003, 4.1): how its elements are read and built
unfoldable pub default_parts : Elements DefaultDiag
default_parts =
    of_table default_diag_table (λ a b c. record { diag_set = a; condition = b; info = c }) (λ v. refl) (λ x. refl) refl

-- defaultFormat SEQUENCE, externallyDefined EXTERNAL
abbrev pub diag_recs : Choice DiagRec
diag_recs =
    either (within (universal 16) default_parts) Default
    (finally (within (universal 8) external_parts) Ext)

-- which form of diagnostic it is, defaultFormat first, and its value
abbrev pub diag_pick : DiagRec → Pick diag_recs
diag_pick (Default v) = inl v
diag_pick (Ext v) = inr v

pub diag-same : (d : DiagRec) → picked diag_recs (diag_pick d) ≡ d
diag-same (Default v) = refl
diag-same (Ext v) = refl

pub diag-back : (x : Pick diag_recs) → diag_pick (picked diag_recs x) ≡ x
diag-back (inl v) = refl
diag-back (inr v) = refl

-- DiagRec, in surrogateDiagnostic and multipleNonSurDiagnostics: the tag of SEQUENCE or of EXTERNAL gives its form
abbrev pub diag_rec : Place DiagRec
diag_rec = of_choice diag_recs diag_pick diag-same diag-back refl

-- the element stands for the diagnostic
abbrev pub WritesDiag : DiagRec → Element → Type 0
WritesDiag v n = diag_rec.writes v n

-- the element that is built for the diagnostic, with the contents octets of the canonical encoding
abbrev pub diag_spelling : DiagRec → Option Element
diag_spelling v = diag_rec.spelling v
