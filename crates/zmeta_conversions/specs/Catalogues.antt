-- The file of catalogues that says a world whose questions go to hosts.
use Rattle.std.specs.Prelude.{◌≡◌, ℕ, ◌+◌, ◌/◌, ◌%◌, ◌==◌, ◌&&◌, ◌||◌, nat_lt, nat_le, Bool, true, false, not, if◌then◌else◌, List, [], ◌∷◌, ◌++◌, length, codes, Option, Some, None, Result, Ok, Err}
use Rattle.std.specs.Fmt.{decimal}
use Rattle.std.specs.List.{flat_map, list_any, list_all}
use Rattle.std.specs.Option.{option_map, option_or, is_some}
use Rattle.std.specs.Str.{bytes_eq, is_utf8}
use Rattle.zber.specs.Dotted.{dotted}
use Rattle.zquery.specs.Trees.{RpnQuery}
use Rattle.zquery.specs.Notation.Printing.{printable, query_text}
use Rattle.zmeta_world.specs.declared.world.World.{World}
use Rattle.zmeta_world.specs.declared.world.NamedHost.{NamedHost}
use Rattle.zmeta_world.specs.declared.world.AskedQuestion.{AskedQuestion}
use Rattle.zmeta_world.specs.NetworkRuns.{address_for}
use Rattle.zmeta_catalogues.specs.Keys.{name_of, keys_for_all}
use Rattle.zmeta_catalogues.specs.declared.fault.Key.{Key}
use Rattle.zmeta_catalogues.specs.declared.fault.Key.TheVariants as keys
use Rattle.zmeta_conversions.specs.Worlds.{wanted_text, ended, first_unsaid}
use Rattle.zmeta_conversions.specs.declared.catalogues.NoTable.{NoTable}
use Rattle.zmeta_conversions.specs.declared.catalogues.NoTable.TheVariants as reasons
use Rattle.zmeta_conversions.specs.declared.catalogues.CatalogueFileError.{CatalogueFileError}
use Rattle.zmeta_conversions.specs.declared.catalogues.CatalogueFileError.TheVariants as errors

-- ---- texts of TOML

-- the hexadecimal digit of a number below 16
abbrev pub hex_digit : ℕ → ℕ
hex_digit n = if nat_lt n 10 then 48 + n else 87 + n

-- a control character, by its number
abbrev pub control_text : ℕ → List ℕ
control_text b = codes "\\u00" ++ hex_digit (b / 16) ∷ hex_digit (b % 16) ∷ []

-- the octet is a control character
abbrev pub is_control : ℕ → Bool
is_control b = nat_lt b 32 || (b == 127)

-- an octet between quotes: a quote and a backslash have a backslash before them, and a control character stands as its
-- number
unfoldable pub string_octet : ℕ → List ℕ
string_octet b =
    if (b == 34) || (b == 92) then 92 ∷ b ∷ [] else if is_control b then control_text b else b ∷ []

-- octets in quotes
abbrev pub string_text : List ℕ → List ℕ
string_text octets = 34 ∷ (flat_map string_octet octets ++ 34 ∷ [])

-- the octet is a letter, a digit, a hyphen or an underscore
unfoldable pub is_bare : ℕ → Bool
is_bare b =
    (nat_le 48 b && nat_le b 57) || (nat_le 65 b && nat_le b 90) || (nat_le 97 b && nat_le b 122) || (b == 45)
    || (b == 95)

-- a key as it is, if TOML takes it so, or else in quotes
abbrev pub key_text : List ℕ → List ℕ
key_text name = if not (length name == 0) && list_all is_bare name then name else string_text name

-- ---- lines

-- the line of a value
unfoldable pub value_line : Key → List ℕ → List ℕ
value_line key value = ended (name_of key ++ codes " = " ++ value)

-- the line of a text
abbrev pub text_line : Key → List ℕ → List ℕ
text_line key text = value_line key (string_text text)

-- the line of a record syntax, if there is one
abbrev pub syntax_line : Option (List ℕ) → List ℕ
syntax_line None = []
syntax_line (Some oid) = text_line keys.Syntax (dotted oid)

-- the line of a database
abbrev pub database_line : List ℕ → List ℕ
database_line name = text_line keys.Database name

-- the first line of a table, with an empty one before it
abbrev pub head_line : List ℕ → List ℕ
head_line name = codes "\n[" ++ key_text name ++ codes "]\n"

-- the line of an address, if there is one
abbrev pub address_line : Option (List ℕ) → List ℕ
address_line None = []
address_line (Some address) = text_line keys.Address address

-- where a question goes
abbrev pub place_lines : List NamedHost → AskedQuestion → List ℕ
place_lines hosts q =
    head_line q.name ++ address_line (address_for hosts q) ++ flat_map database_line q.question.databases

-- the table of a question
abbrev pub table_text : List NamedHost → AskedQuestion → List ℕ
table_text hosts q =
    place_lines hosts q ++ syntax_line q.question.syntax ++ text_line keys.Records (wanted_text q.question.wanted)
    ++ text_line keys.Query (query_text q.question.query)

-- the file of catalogues of a world: step and window for all, and a table for each question
abbrev pub catalogues_text : World → List ℕ
catalogues_text w =
    value_line keys.Step (decimal w.step) ++ value_line keys.Window (decimal w.window)
    ++ flat_map (table_text w.hosts) w.questions

-- ---- what a file of catalogues cannot say

-- the name is that of a setting for all
unfoldable pub is_setting : List ℕ → Bool
is_setting name = list_any (λ key. bytes_eq (name_of key) name) keys_for_all

-- the text is not empty, and UTF-8
abbrev pub is_text : List ℕ → Bool
is_text octets = not (length octets == 0) && is_utf8 octets

-- a catalogue can have the name
abbrev pub is_name : List ℕ → Bool
is_name name = is_text name && not (is_setting name)

-- one database, whose name is a text
abbrev pub is_database : List (List ℕ) → Bool
is_database (name ∷ []) = is_text name
is_database _ = false

-- the query has a text, which is UTF-8
abbrev pub is_query : RpnQuery → Bool
is_query query = printable query && is_utf8 (query_text query)

-- why the question to this address has no table, but for its query
abbrev pub place_reason : AskedQuestion → List ℕ → Option NoTable
place_reason q address =
    if not (is_name q.name) then Some reasons.Name
    else if not (is_text address) then Some reasons.Address
    else if not (is_database q.question.databases) then Some reasons.Database
    else if is_some q.question.elements then Some reasons.Elements
    else None

-- why a query cannot stand in a table
abbrev pub query_reason : RpnQuery → Option NoTable
query_reason query = if is_query query then None else Some reasons.Query

-- why the question to this address has no table
abbrev pub question_reason : AskedQuestion → List ℕ → Option NoTable
question_reason q address = option_or (place_reason q address) (query_reason q.question.query)

-- why a question has no table, by its address
abbrev pub reason_at : AskedQuestion → Option (List ℕ) → Option NoTable
reason_at q None = Some reasons.Target
reason_at q (Some address) = question_reason q address

-- a line of a world file, the name on it, and why its question has no table
abbrev pub Untabled : Type 0
Untabled = ℕ × List ℕ × NoTable

-- the question that has no table
abbrev pub untabled : List NamedHost → AskedQuestion → Option Untabled
untabled hosts q = option_map (λ reason. (q.line, q.name, reason)) (reason_at q (address_for hosts q))

-- the first question of a world that has no table
abbrev pub first_untabled : World → Option Untabled
first_untabled w = first_unsaid (untabled w.hosts) w.questions

-- ---- results

-- this is what has no table
abbrev pub IsUntabled : Option Untabled → CatalogueFileError → Type 0
IsUntabled due (errors.NoTable line name reason) = due ≡ Some (line, name, reason)
IsUntabled due errors.Memory = Unit {0}

-- the text was appended, and nothing has no table; or something has none
abbrev pub TableResult : Option Untabled → List ℕ → List ℕ → List ℕ → Result Unit CatalogueFileError → Type 0
TableResult due text old new (Ok _) = (due ≡ None) × (new ≡ old ++ text)
TableResult due text old new (Err e) = IsUntabled due e

-- the text of the query, if it can stand in a table
abbrev pub TextOfResult : RpnQuery → Option (List ℕ) → Type 0
TextOfResult query (Some text) = (is_query query ≡ true) × (text ≡ query_text query)
TextOfResult query None = is_query query ≡ false
