-- The octets of the known records, one record after the other, and what is left out, as functions of the facts.
use Rattle.std.specs.Prelude.{ℕ, Bool, true, false, not, ◌&&◌, nat_lt, if◌then◌else◌, Option, Some, None, is_some, unwrap_or, List, [], ◌∷◌, length, map, filter}
use Rattle.std.specs.Borrow.{Bor}
use Rattle.std.specs.List.{flat_map, filter_map, count_by}
use Rattle.std.specs.Option.{option_map}
use Rattle.std.specs.Str.{bytes_eq}
use Rattle.zapdu.specs.declared.productions.external.Content.{Content}
use Rattle.zapdu.specs.declared.productions.external.Content.TheVariants.{Single, Aligned, Arbitrary}
use Rattle.zapdu.specs.declared.productions.external.External.{External}
use Rattle.zapdu.specs.declared.productions.record.Record.{Record}
use Rattle.zapdu.specs.declared.productions.record.RecordBody.{RecordBody}
use Rattle.zapdu.specs.declared.productions.record.RecordBody.TheVariants.{Retrieval, Surrogate, Fragment}
use Rattle.zapdu.specs.Text.{octets_alone}
use Rattle.zknow.specs.declared.fact.Fact.{Fact}
use Rattle.zknow.specs.declared.tables.keys.RowKey.{RowKey}
use Rattle.zknow.specs.Known.{records_at}
use Rattle.zknow.specs.List.Listing.{ascending, row_key_of}
use Rattle.zknow.specs.Tables.Keys.{row_cmp}
use Rattle.zopac.specs.declared.opac.OpacRecord.{OpacRecord}
use Rattle.zopac.specs.Opacs.{opac_meaning}
use Rattle.zknow_records.specs.declared.left_out.LeftOut.{LeftOut}

-- ---- one record

-- the syntax OPAC, a bibliographic record with its copies (Appendix REC): 1.2.840.10003.5.102
abbrev pub opac : List ℕ
opac = 1 ∷ 2 ∷ 840 ∷ 10003 ∷ 5 ∷ 102 ∷ []

-- the record with its copies that an element in a syntax stands for, if it stands for one
abbrev pub opac_of : List ℕ → Content → Option OpacRecord
opac_of syntax (Single e) = if bytes_eq syntax opac then opac_meaning e else None
opac_of syntax (Aligned octets) = None
opac_of syntax (Arbitrary bits) = None

-- the record with its copies that a target sent, if it is one
abbrev pub opac_in : RecordBody → Option OpacRecord
opac_in (Retrieval v) = opac_of (unwrap_or v.direct []) v.content
opac_in (Surrogate d) = None
opac_in (Fragment m) = None

-- of a record with its copies the bibliographic record, if it has one; else the record itself
abbrev pub alone_of : External → Option OpacRecord → Option External
alone_of v None = Some v
alone_of v (Some o) = o.bibliographic

-- the same of what a target sent; diagnostics and fragments are none
abbrev pub written_in : RecordBody → Option OpacRecord → Option External
written_in (Retrieval v) o = alone_of v o
written_in (Surrogate d) o = None
written_in (Fragment m) o = None

-- the EXTERNAL whose octets are written for a record, if it has octets
abbrev pub written : Record → Option External
written r = written_in r.body (opac_in r.body)

-- no syntax is asked for, or the EXTERNAL names none, or it names the one asked for
abbrev pub is_in_syntax : Option (List ℕ) → Option (List ℕ) → Bool
is_in_syntax None direct = true
is_in_syntax (Some asked) None = true
is_in_syntax (Some asked) (Some direct) = bytes_eq asked direct

-- there is no EXTERNAL of another syntax than the one asked for
abbrev pub is_external_wanted : Option (List ℕ) → Option External → Bool
is_external_wanted asked None = true
is_external_wanted asked (Some v) = is_in_syntax asked v.direct

-- the record is not of another syntax than the one asked for: diagnostics and fragments never are, and of a record with
-- its copies the syntax is that of the bibliographic record
abbrev pub is_wanted : Option (List ℕ) → Record → Bool
is_wanted asked r = is_external_wanted asked (written r)

-- the record is of another syntax than the one asked for
abbrev pub is_unwanted : Option (List ℕ) → Record → Bool
is_unwanted asked r = not (is_wanted asked r)

-- the octets of an EXTERNAL that has a syntax and octets, and no more; of another none
abbrev pub external_octets : Option External → Option (List ℕ)
external_octets None = None
external_octets (Some v) = option_map (λ p. p.1) (octets_alone v.direct v.indirect v.descriptor v.content)

-- the octets of a record that has octets of its own; of a record with its copies those of the bibliographic record
abbrev pub own_octets : Record → Option (List ℕ)
own_octets r = external_octets (written r)

-- the octets that are written for a record, empty if it has none
abbrev pub record_octets : Record → List ℕ
record_octets r = unwrap_or (own_octets r) []

-- a diagnostic stands in place of the record (Z39.50-2003, 4.1: surrogateDiagnostic)
abbrev pub is_surrogate : RecordBody → Bool
is_surrogate (Retrieval v) = false
is_surrogate (Surrogate d) = true
is_surrogate (Fragment m) = false

-- the record is a surrogate diagnostic
abbrev pub is_diagnostic : Record → Bool
is_diagnostic r = is_surrogate r.body

-- the record has no octets and is no surrogate diagnostic: it is a fragment, or another EXTERNAL
abbrev pub is_other : Record → Bool
is_other r = not (is_some (own_octets r)) && not (is_diagnostic r)

-- ---- one position

-- several records are known
abbrev pub is_conflict : List Record → Bool
is_conflict records = nat_lt 1 (length records)

-- the records taken at a position: none of a conflict if conflicts are not asked for, else all of the right syntax
abbrev pub taken : Option (List ℕ) → Bool → List Record → List Record
taken asked conflicts records =
    if is_conflict records && not conflicts then [] else filter (is_wanted asked) records

-- the known records of a row of the list
abbrev pub row_records : List Fact → RowKey → List Record
row_records facts k = records_at k.target k.set k.position facts

-- ---- all positions

-- the rows of the list: by position, target and set
abbrev pub rows : List Fact → List RowKey
rows facts = ascending row_cmp (filter_map row_key_of facts)

-- the records that are taken, row by row
abbrev pub all_taken : Option (List ℕ) → Bool → List Fact → List Record
all_taken asked conflicts facts = flat_map (λ k. taken asked conflicts (row_records facts k)) (rows facts)

-- their octets, one record after the other
abbrev pub records_octets : Option (List ℕ) → Bool → List Fact → List ℕ
records_octets asked conflicts facts = flat_map record_octets (all_taken asked conflicts facts)

-- how many positions are left out because of a conflict
abbrev pub conflicts_left : Bool → List Fact → ℕ
conflicts_left conflicts facts = if conflicts then 0 else count_by (λ k. is_conflict (row_records facts k)) (rows facts)

-- how many records are left out because of their syntax
abbrev pub syntaxes_left : Option (List ℕ) → Bool → List Fact → ℕ
syntaxes_left asked conflicts facts = count_by (is_unwanted asked) (all_taken None conflicts facts)

-- counts of what is left out: conflicts, records of another syntax, and records taken that have no octets
abbrev pub left_out : Option (List ℕ) → Bool → List Fact → LeftOut
left_out asked conflicts facts =
    record {
      conflicts = conflicts_left conflicts facts;
      syntaxes = syntaxes_left asked conflicts facts;
      diagnostics = count_by is_diagnostic (all_taken asked conflicts facts);
      others = count_by is_other (all_taken asked conflicts facts);
    }

-- the records behind references
abbrev pub referenced : List (Bor Record) → List Record
referenced found = map (λ r. r.now) found
