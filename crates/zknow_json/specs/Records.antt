-- The lines of records: one for each position of a set (Z39.50-2003, 4.1: NamePlusRecord).
use Rattle.std.specs.Prelude.{ℕ, Option, Some, None, List, [], ◌∷◌, ◌++◌, codes}
use Rattle.std.specs.List.{flat_map}
use Rattle.json.specs.Token.{Token}
use Rattle.zber.specs.Dotted.{dotted}
use Rattle.zapdu.specs.declared.productions.record.RecordBody.{RecordBody}
use Rattle.zapdu.specs.declared.productions.record.RecordBody.TheVariants.{Retrieval, Surrogate, Fragment}
use Rattle.zapdu.specs.declared.productions.record.Record.{Record}
use Rattle.zapdu.specs.Productions.Records.{whole_record}
use Rattle.zapdu.specs.Text.{octets_alone}
use Rattle.zknow.specs.declared.fact.Fact.{Fact}
use Rattle.zknow.specs.declared.tables.keys.RowKey.{RowKey}
use Rattle.zknow.specs.Encodings.{encoding}
use Rattle.zknow.specs.Known.{records_at}
use Rattle.zmarc.specs.declared.charset.Charset.{Charset}
use Rattle.zmarc.specs.Charsets.{charset_at}
use Rattle.zknow_json.specs.Holdings.{read_members}
use Rattle.zknow_json.specs.Members.{text_member, integer_member, octets_member, received_member, object, array_member, line}
use Rattle.zknow_json.specs.Sets.{head, diag_members}

-- ---- one record

-- the syntax, if an object identifier names it
abbrev pub syntax_member : Option (List ℕ) → List Token
syntax_member None = []
syntax_member (Some syntax) = text_member (codes "syntax") (dotted syntax)

-- the name of the database, if the record has it
abbrev pub database_member : Option (List ℕ) → List Token
database_member None = []
database_member (Some name) = received_member (codes "database") (codes "databaseOctets") name

-- the canonical encoding of the record with its database
abbrev pub encoding_member : Record → List Token
encoding_member r = octets_member (codes "encoding") (encoding whole_record r)

-- the octets, if the EXTERNAL has a syntax and octets and nothing else; else the encoding
abbrev pub contents_member : Record → Option (List ℕ × List ℕ) → List Token
contents_member r None = encoding_member r
contents_member r (Some p) = octets_member (codes "octets") p.1

-- the type: a record, a diagnostic in its place, or an element that is neither
abbrev pub body_kind : RecordBody → List ℕ
body_kind (Retrieval v) = codes "record"
body_kind (Surrogate d) = codes "diagnostic"
body_kind (Fragment m) = codes "element"

-- what a line has of a record; the character set of the target's records may be known
abbrev pub body_members : Option Charset → Record → RecordBody → List Token
body_members charset r (Retrieval v) =
    syntax_member v.direct ++ database_member r.name ++ read_members charset v.direct v.content
    ++ contents_member r (octets_alone v.direct v.indirect v.descriptor v.content)
body_members charset r (Surrogate d) = database_member r.name ++ diag_members d
body_members charset r (Fragment m) = encoding_member r

-- one of several records
unfoldable pub record_object : Option Charset → Record → List Token
record_object charset r = object (text_member (codes "type") (body_kind r.body) ++ body_members charset r r.body)

-- ---- rows

-- what the line of a row begins with
unfoldable pub row_head : List ℕ → List (List ℕ) → RowKey → List Token
row_head kind names k = head kind names k.target k.set ++ integer_member (codes "position") k.position

-- the line of one record
unfoldable pub record_line : Option Charset → List (List ℕ) → RowKey → Record → List ℕ
record_line charset names k r = line (object (row_head (body_kind r.body) names k ++ body_members charset r r.body))

-- the line of several different records at one position
unfoldable pub conflict_line : Option Charset → List (List ℕ) → RowKey → List Record → List ℕ
conflict_line charset names k records =
    line (object (row_head (codes "conflict") names k
    ++ array_member (codes "records") (flat_map (record_object charset) records)))

-- the line of the records at one position: none without a record, and a conflict where there are several
abbrev pub records_line : Option Charset → List (List ℕ) → RowKey → List Record → List ℕ
records_line charset names k [] = []
records_line charset names k (r ∷ []) = record_line charset names k r
records_line charset names k (r ∷ q ∷ rest) = conflict_line charset names k (r ∷ q ∷ rest)

-- the line of a row, in the character set of the row's target
unfoldable pub row_line : List (List ℕ) → List (Option Charset) → List Fact → RowKey → List ℕ
row_line names charsets facts k =
    records_line (charset_at charsets k.target) names k (records_at k.target k.set k.position facts)
