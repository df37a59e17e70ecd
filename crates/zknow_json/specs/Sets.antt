-- The lines of a target's set: its counts, its failure and its diagnostics.
use Rattle.std.specs.Prelude.{ℕ, ℤ, pos, ◌==◌, if◌then◌else◌, Bool, Option, Some, None, List, [], ◌++◌, codes, slice_get}
use Rattle.std.specs.List.{flat_map}
use Rattle.std.specs.Ordering.{int_eq}
use Rattle.json.specs.Token.{Token}
use Rattle.zber.specs.Dotted.{dotted}
use Rattle.zapdu.specs.declared.productions.diagnostic.DefaultDiag.{DefaultDiag}
use Rattle.zapdu.specs.declared.productions.diagnostic.DiagRec.{DiagRec}
use Rattle.zapdu.specs.declared.productions.diagnostic.DiagRec.TheVariants.{Default, Ext}
use Rattle.zapdu.specs.Productions.Diagnostics.{diag_rec}
use Rattle.zapdu.specs.Text.{info_octets}
use Rattle.zknow.specs.declared.fact.Fact.{Fact}
use Rattle.zknow.specs.declared.tables.keys.SetKey.{SetKey}
use Rattle.zknow.specs.Encodings.{encoding}
use Rattle.zknow.specs.Known.{counts_at, is_failed_at, diags_at}
use Rattle.zknow_json.specs.Members.{text_member, natural_member, integer_member, octets_member, received_member, object, line}

-- ---- what lines begin with

-- the name of a catalogue, or its number if it has no name
abbrev pub catalogue_member : ℕ → Option (List ℕ) → List Token
catalogue_member target None = natural_member (codes "catalogueNumber") target
catalogue_member target (Some name) = received_member (codes "catalogue") (codes "catalogueOctets") name

-- the number of a set; nothing for set 0, which is the association
abbrev pub set_member : ℕ → List Token
set_member set = if set == 0 then [] else natural_member (codes "set") set

-- the type of a line, the catalogue and the set
unfoldable pub head : List ℕ → List (List ℕ) → ℕ → ℕ → List Token
head kind names target set =
    text_member (codes "type") kind ++ catalogue_member target (slice_get names target) ++ set_member set

-- ---- counts and failures

-- the line of the number of records that a search found
unfoldable pub count_line : List (List ℕ) → SetKey → ℤ → List ℕ
count_line names b n = line (object (head (codes "count") names b.target b.set ++ integer_member (codes "count") n))

-- the line of a failed search
unfoldable pub failure_line : List (List ℕ) → SetKey → List ℕ
failure_line names b = line (object (head (codes "failure") names b.target b.set))

-- the line of the failure, if there is one
abbrev pub failure_lines : List (List ℕ) → SetKey → Bool → List ℕ
failure_lines names b failed = if failed then failure_line names b else []

-- ---- diagnostics (Z39.50-2003, 4.1: DiagRec)

-- a condition and its set
unfoldable pub condition_members : DefaultDiag → List Token
condition_members d =
    text_member (codes "diagnosticSet") (dotted d.diag_set) ++ integer_member (codes "condition") d.condition

-- a diagnostic in the default format
unfoldable pub default_members : DefaultDiag → List Token
default_members d =
    condition_members d ++ received_member (codes "addinfo") (codes "addinfoOctets") (info_octets d.info)

-- a diagnostic; of an EXTERNAL its canonical encoding
abbrev pub diag_members : DiagRec → List Token
diag_members (Default d) = default_members d
diag_members (Ext v) = octets_member (codes "encoding") (encoding diag_rec (Ext v))

-- the first position of the request for records that failed; nothing for place 0, which is the search
abbrev pub place_member : ℤ → List Token
place_member place = if int_eq place (pos 0) then [] else integer_member (codes "from") place

-- the line of a diagnostic, with its place
unfoldable pub diag_line : List (List ℕ) → SetKey → ℤ × DiagRec → List ℕ
diag_line names b x =
    line (object (head (codes "diagnostic") names b.target b.set ++ place_member x.0 ++ diag_members x.1))

-- ---- all

-- what is known of a set apart from its records
unfoldable pub set_lines : List (List ℕ) → List Fact → SetKey → List ℕ
set_lines names facts b =
    flat_map (count_line names b) (counts_at b.target b.set facts)
    ++ failure_lines names b (is_failed_at b.target b.set facts)
    ++ flat_map (diag_line names b) (diags_at b.target b.set facts)
