-- What `pqf` prints for a text, or for the options of a search.
use Rattle.std.specs.Prelude.{◌≡◌, ◌≤◌, ℕ, List, [], ◌∷◌, ◌++◌, Option, Some, None, Result, Ok, Err, codes}
use Rattle.std.specs.Option.{unwrap_or}
use Rattle.hex.specs.Hex.{encode_lower}
use Rattle.zber.specs.AsnTags.{context}
use Rattle.zber.specs.Elements.{Element, cons}
use Rattle.zber.specs.Canonical.{canonical}
use Rattle.zquery.specs.Trees.{RpnQuery, height}
use Rattle.zquery.specs.Notation.Texts.{IsText, IsTextFault}
use Rattle.zquery.specs.Notation.Printing.{query_text}
use Rattle.zquery.specs.Element.Type1.{WritesQuery}
use Rattle.zquery.specs.Element.Type1Reading.{query_spelling}
use Rattle.zmeta_args.specs.declared.arguments.SearchOptions.{SearchOptions}
use Rattle.zmeta_args.specs.Texts.{now_of}
use Rattle.zmeta_searches.specs.Searches.{search_of}
use Rattle.zmeta_devices.specs.Faults.{as_done}
use Rattle.zmeta_devices.specs.Devices.{Device, Outputs, IsUnchanged, HasGained, HasStopped, AfterEnd}
use Rattle.zmeta_devices.specs.declared.fault.Fault.{Fault}
use Rattle.zmeta_devices.specs.declared.fault.Fault.TheVariants.{Write, Query, Memory}
use Rattle.zmeta_devices.specs.declared.fault.Status.{Status}

-- the element [21] of a SearchRequest around the query's element, in hexadecimal
abbrev pub element_text : Element → List ℕ
element_text n = encode_lower (canonical (cons (context 21) (n ∷ [])))

-- the text is this query, with at most 31 operators above an operand
abbrev pub IsQueryOf : List ℕ → RpnQuery → Type 0
IsQueryOf text q = IsText text q × (height q.root ≤ 32)

-- the element encodes the query, and is the one that `zquery::to_node` makes
abbrev pub IsElementOf : RpnQuery → Element → Type 0
IsElementOf q n = WritesQuery q n × (query_spelling q ≡ Some n)

-- the printed query and its element, on two lines
unfoldable pub query_lines : RpnQuery → Element → List ℕ
query_lines q n = query_text q ++ codes "\n" ++ element_text n ++ codes "\n"

-- both lines of a query were appended, or no memory was found
abbrev pub PutBothResult : RpnQuery → List ℕ → List ℕ → Result (Unit {0}) Fault → Type 0
PutBothResult q old new (Ok _) = (n : Element) × IsElementOf q n × (new ≡ old ++ query_lines q n)
PutBothResult q old new (Err e) = e ≡ Memory

-- both lines of a text's query were appended, or why the text is no query
abbrev pub PutQueryResult : List ℕ → List ℕ → List ℕ → Result (Unit {0}) Fault → Type 0
PutQueryResult text old new (Ok _) = (q : RpnQuery) × (n : Element) × IsQueryOf text q × IsElementOf q n
    × (new ≡ old ++ query_lines q n)
PutQueryResult text old new (Err (Query kind at told)) = IsTextFault text (record { at = at; kind = kind })
PutQueryResult text old new (Err Memory) = Unit {0}
PutQueryResult text old new (Err _) = ⊥

-- the text is a query, and these are its lines
abbrev pub AreLinesOf : List ℕ → List ℕ → Type 0
AreLinesOf text lines = (q : RpnQuery) × (n : Element) × IsQueryOf text q × IsElementOf q n × (lines ≡ query_lines q n)

-- the text of the query: the one that is given, or else that of the options, which is empty if they have none
abbrev pub queried_text : Option (List ℕ) → SearchOptions → List ℕ
queried_text (Some text) search = text
queried_text None search = unwrap_or (search_of search).query []

-- the text that a fault of the query speaks of: the one that is given, or else that of `--query`, if there is one
abbrev pub told_text : Option (List ℕ) → SearchOptions → Option (List ℕ)
told_text (Some text) search = Some text
told_text None search = now_of search.query

-- the result of `pqf` for this text of the query, and the stream after it; a fault speaks of the text `known`
abbrev pub PqfResult : Option (List ℕ) → List ℕ → Device → Device → Result (Unit {0}) Fault → Type 0
PqfResult known text old new (Ok _) = (lines : List ℕ) × AreLinesOf text lines × HasGained old new lines
PqfResult known text old new (Err (Query kind at told)) =
    (now_of told ≡ known) × IsTextFault text (record { at = at; kind = kind }) × IsUnchanged old new
PqfResult known text old new (Err Memory) = IsUnchanged old new
PqfResult known text old new (Err (Write path)) =
    (path.now ≡ old.path) × ((lines : List ℕ) × AreLinesOf text lines × HasStopped old new lines)
PqfResult known text old new (Err _) = ⊥

-- the streams and the status after `pqf` of this text, or else of these options
abbrev pub AfterPqf : Option (List ℕ) → SearchOptions → Outputs → Outputs → Status → Type 0
AfterPqf given search before after status = (result : Result (Unit {0}) Fault)
    × PqfResult (told_text given search) (queried_text given search) before.output after.output result
    × AfterEnd (as_done result) before.errors after.errors status
