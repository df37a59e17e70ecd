-- The printed texts of octets, diagnostics and records.
use Rattle.std.specs.Prelude.{ℕ, ℤ, ◌==◌, ◌||◌, ◌&&◌, nat_le, if◌then◌else◌, Bool, Option, Some, None}
use Rattle.std.specs.Prelude.{List, [], ◌∷◌, ◌++◌, codes}
use Rattle.std.specs.List.{flat_map}
use Rattle.std.specs.Int.{w64, trailing_zeros}
use Rattle.std.specs.Fmt.{signed_decimal}
use Rattle.hex.specs.Hex.{encode_lower}
use Rattle.zber.specs.Elements.{Element}
use Rattle.zber.specs.Canonical.{canonical}
use Rattle.zber.specs.Dotted.{dotted}
use Rattle.zapdu.specs.declared.productions.external.Content.{Content}
use Rattle.zapdu.specs.declared.productions.external.Content.TheVariants.{Aligned}
use Rattle.zapdu.specs.declared.productions.diagnostic.Info.{Info}
use Rattle.zapdu.specs.declared.productions.diagnostic.Info.TheVariants.{V2, V3}
use Rattle.zapdu.specs.declared.productions.diagnostic.DefaultDiag.{DefaultDiag}
use Rattle.zapdu.specs.declared.productions.diagnostic.DiagRec.{DiagRec}
use Rattle.zapdu.specs.declared.productions.diagnostic.DiagRec.TheVariants.{Default, Ext}
use Rattle.zapdu.specs.declared.productions.record.RecordBody.{RecordBody}
use Rattle.zapdu.specs.declared.productions.record.RecordBody.TheVariants.{Retrieval, Surrogate, Fragment}
use Rattle.zapdu.specs.declared.productions.record.Record.{Record}
use Rattle.zapdu.specs.Productions.Diagnostics.{diag_rec}
use Rattle.zapdu.specs.Productions.Records.{whole_record}

-- An octet in quotes: 20 to 7E unchanged, with a backslash before a quote and before a backslash; any other as `\x` and
-- two hexadecimal digits.
unfoldable pub quoted_octet : ℕ → List ℕ
quoted_octet b =
    if b == 34 || b == 92 then 92 ∷ b ∷ [] else
    if nat_le 32 b && nat_le b 126 then b ∷ [] else
    codes "\\x" ++ encode_lower (b ∷ [])

-- the place of the lowest bit that is set; 16 if none is
abbrev pub first_set : ℕ → ℕ
first_set mask = if mask == 0 then 16 else trailing_zeros w64 mask

-- the octets in quotes
abbrev pub quoted : List ℕ → List ℕ
quoted octets = 34 ∷ [] ++ flat_map quoted_octet octets ++ 34 ∷ []

-- a text that may be absent: in quotes, or a dash
abbrev pub quoted_or_dash : Option (List ℕ) → List ℕ
quoted_or_dash None = codes "-"
quoted_or_dash (Some text) = quoted text

-- `ber` and the element's canonical encoding in hexadecimal; only `ber` if there is no element
abbrev pub ber_text : Option Element → List ℕ
ber_text None = codes "ber "
ber_text (Some n) = codes "ber " ++ encode_lower (canonical n)

-- the octets of the additional information
abbrev pub info_octets : Info → List ℕ
info_octets (V2 xs) = xs
info_octets (V3 xs) = xs

-- a diagnostic in the default format: `OID CONDITION "INFO"`
unfoldable pub default_diag_text : DefaultDiag → List ℕ
default_diag_text d =
    dotted d.diag_set ++ codes " " ++ signed_decimal d.condition ++ codes " " ++ quoted (info_octets d.info)

-- a diagnostic: in the default format, or as `ber`
unfoldable pub diag_text : DiagRec → List ℕ
diag_text (Default d) = default_diag_text d
diag_text (Ext v) = ber_text (diag_rec.spelling (Ext v))

-- the object identifier and the octets of an EXTERNAL, if it has these and nothing else
abbrev pub octets_alone : Option (List ℕ) → Option ℤ → Option (List ℕ) → Content → Option (List ℕ × List ℕ)
octets_alone (Some oid) None None (Aligned octets) = Some (oid, octets)
octets_alone _ _ _ _ = None

-- the octets in hexadecimal or in quotes
abbrev pub octets_text : Bool → List ℕ → List ℕ
octets_text hex octets = if hex then encode_lower octets else quoted octets

-- `rec OID DB TEXT`, or the whole record as `ber`
abbrev pub retrieval_text : Bool → Record → Option (List ℕ × List ℕ) → List ℕ
retrieval_text hex r (Some p) =
    codes "rec " ++ dotted p.0 ++ codes " " ++ quoted_or_dash r.name ++ codes " " ++ octets_text hex p.1
retrieval_text hex r None = ber_text (whole_record.spelling r)

-- a record by what its body is: `rec` or `ber`, `diag DB DIAGNOSTIC`, or the whole record as `ber` for a fragment
abbrev pub body_text : Bool → Record → RecordBody → List ℕ
body_text hex r (Retrieval v) = retrieval_text hex r (octets_alone v.direct v.indirect v.descriptor v.content)
body_text hex r (Surrogate d) = codes "diag " ++ quoted_or_dash r.name ++ codes " " ++ diag_text d
body_text hex r (Fragment m) = ber_text (whole_record.spelling r)

-- a record, with its octets in hexadecimal if `hex` is set
abbrev pub record_text : Bool → Record → List ℕ
record_text hex r = body_text hex r r.body
