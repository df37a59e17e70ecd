-- What the values of a file of catalogues stand for.
use Rattle.std.specs.Prelude.{◌≡◌, ℕ, ℤ, pos, negsuc, ◌==◌, ◌&&◌, nat_le, if◌then◌else◌, List, length, codes, Option, Some, None, Result, Ok, Err}
use Rattle.std.specs.Option.{option_map, option_or, is_some}
use Rattle.std.specs.Fmt.{signed_decimal}
use Rattle.toml.specs.Data.{Data, Members, get_member, as_str, as_integer}
use Rattle.zmeta_world.specs.WorldWants.{wanted_of}
use Rattle.zmeta_world.specs.WorldLines.{syntax_of}
use Rattle.zmeta_world.specs.Search.{dotted_syntax}
use Rattle.zmeta_catalogues.specs.declared.charset.Charset.{Charset}
use Rattle.zmeta_catalogues.specs.declared.fault.Key.{Key}
use Rattle.zmeta_catalogues.specs.declared.fault.Key.TheVariants as keys
use Rattle.zmeta_catalogues.specs.declared.fault.FaultKind.{FaultKind}
use Rattle.zmeta_catalogues.specs.declared.fault.FaultKind.TheVariants as faults
use Rattle.zmeta_catalogues.specs.declared.fault.SettingFault.{SettingFault}
use Rattle.zmeta_catalogues.specs.declared.fault.Stop.{Stop}
use Rattle.zmeta_catalogues.specs.declared.fault.Stop.TheVariants as stops
use Rattle.zmeta_catalogues.specs.Keys.{name_of}
use Rattle.zmeta_catalogues.specs.Charsets.{charset_named, octets_in}

-- ---- readings

-- what a value stands for, or the setting at fault
abbrev pub Reading : Type 0 → Type 0
Reading A = Result A SettingFault

-- the reading that follows from what was read, or the first fault
abbrev pub bind : {A B : Type 0} → Reading A → (A → Reading B) → Reading B
bind (Ok x) next = next x
bind (Err fault) next = Err fault

-- the setting is at fault in this way
abbrev pub fault : {A : Type 0} → Key → FaultKind → Reading A
fault key kind = Err (record { key = key; kind = kind })

-- the result is this reading; no memory may be found
abbrev pub Reads : {A : Type 0} → Reading A → Result A Stop → Type 0
Reads due (Ok x) = due ≡ Ok x
Reads due (Err (stops.Fault f)) = due ≡ Err f
Reads due (Err stops.Memory) = Unit {0}

-- the value, or this fault if there is none
abbrev pub or_fault : {A : Type 0} → Key → FaultKind → Option A → Reading (Option A)
or_fault key kind None = fault key kind
or_fault key kind (Some x) = Ok (Some x)

-- ---- values

-- the value of a setting: the catalogue's own, or else that for all
abbrev pub value_of : Key → Members → Members → Option Data
value_of key own top = option_or (get_member (name_of key) own) (get_member (name_of key) top)

-- a text that is not empty
abbrev pub filled : Key → Option (List ℕ) → Reading (Option (List ℕ))
filled key None = fault key faults.Type
filled key (Some text) = if length text == 0 then fault key faults.Empty else Ok (Some text)

-- a text, if there is a value
abbrev pub text_of : Key → Option Data → Reading (Option (List ℕ))
text_of key None = Ok None
text_of key (Some value) = filled key (as_str value)

-- the number, if it is from 1 to `most`
abbrev pub in_range : ℕ → ℤ → Option ℕ
in_range most (pos n) = if nat_le 1 n && nat_le n most then Some n else None
in_range most (negsuc n) = None

-- a number from 1 to `most`
abbrev pub ranged : Key → ℕ → Option ℤ → Reading (Option ℕ)
ranged key most None = fault key faults.Type
ranged key most (Some z) = or_fault key faults.Range (in_range most z)

-- a number from 1 to `most`, if there is a value
abbrev pub number_of : Key → ℕ → Option Data → Reading (Option ℕ)
number_of key most None = Ok None
number_of key most (Some value) = ranged key most (as_integer value)

-- the character set of this name
abbrev pub charset_by : Option (Option Charset) → Reading (Option Charset)
charset_by None = fault keys.Charset faults.Type
charset_by (Some None) = fault keys.Charset faults.Text
charset_by (Some (Some charset)) = Ok (Some charset)

-- a character set, if there is a value
abbrev pub charset_of : Option Data → Reading (Option Charset)
charset_of None = Ok None
charset_of (Some value) = charset_by (option_map charset_named (as_str value))

-- the text, if it is a record syntax
abbrev pub known_syntax : Option (List ℕ) → Reading (Option (List ℕ))
known_syntax None = Ok None
known_syntax (Some text) =
    if is_some (syntax_of (dotted_syntax text)) then Ok (Some text) else fault keys.Syntax faults.Text

-- a record syntax, if there is a value
abbrev pub syntax_text_of : Option Data → Reading (Option (List ℕ))
syntax_text_of value = bind (text_of keys.Syntax value) known_syntax

-- the most positions that may be wanted
abbrev pub most_positions : ℕ
most_positions = 1000000

-- the text, if it is wanted positions
abbrev pub known_records : Option (List ℕ) → Reading (Option (List ℕ))
known_records None = Ok None
known_records (Some text) = if is_some (wanted_of text) then Ok (Some text) else fault keys.Records faults.Text

-- a number of wanted positions, from 1 to 1,000,000
abbrev pub counted_records : ℤ → Reading (Option (List ℕ))
counted_records z =
    bind (or_fault keys.Records faults.Range (in_range most_positions z)) (λ n. known_records (Some (signed_decimal z)))

-- wanted positions as a text
abbrev pub listed_records : Data → Reading (Option (List ℕ))
listed_records value = bind (filled keys.Records (as_str value)) known_records

-- wanted positions: a number from 1 to 1,000,000, or a text
abbrev pub records_in : Option ℤ → Data → Reading (Option (List ℕ))
records_in (Some z) value = counted_records z
records_in None value = listed_records value

-- wanted positions, if there is a value
abbrev pub records_of : Option Data → Reading (Option (List ℕ))
records_of None = Ok None
records_of (Some value) = records_in (as_integer value) value

-- the text in this character set
abbrev pub converted : Option Charset → Option (List ℕ) → Reading (Option (List ℕ))
converted charset None = Ok None
converted charset (Some text) = or_fault keys.Query faults.Charset (octets_in charset text)

-- the octets of a query in this character set, if there is a value
abbrev pub query_of : Option Charset → Option Data → Reading (Option (List ℕ))
query_of charset value = bind (text_of keys.Query value) (converted charset)
