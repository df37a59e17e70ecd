-- The address of a catalogue.
use Rattle.std.specs.Prelude.{ℕ, ◌+◌, Bool, true, false, ◌==◌, ◌&&◌, not, nat_le, nat_lt, if◌then◌else◌, List, [], ◌∷◌, ◌++◌, length, drop, position, codes, Option, Some, None, Ok}
use Rattle.std.specs.List.{slice_split}
use Rattle.zquery.specs.Notation.Numbers.{number_of_text}
use Rattle.toml.specs.Data.{Data, as_str}
use Rattle.zmeta_catalogues.specs.declared.fault.Key.TheVariants as keys
use Rattle.zmeta_catalogues.specs.declared.fault.FaultKind.TheVariants as faults
use Rattle.zmeta_catalogues.specs.Values.{Reading, fault}

-- the octet is a colon
abbrev pub is_colon : ℕ → Bool
is_colon b = b == 58

-- this is the number of a port, from 1 to 65,535
abbrev pub is_port_number : Option ℕ → Bool
is_port_number None = false
is_port_number (Some n) = nat_le 1 n

-- the text is the number of a port
abbrev pub is_port : List ℕ → Bool
is_port text = is_port_number (number_of_text 65535 text)

-- the text is not empty
abbrev pub is_filled : List ℕ → Bool
is_filled text = not (length text == 0)

-- the address of these parts between colons: a host, whose port is 210, or a host and a port
abbrev pub address_in : List ℕ → List (List ℕ) → Option (List ℕ)
address_in text (host ∷ []) = if is_filled host then Some (text ++ codes ":210") else None
address_in text (host ∷ port ∷ []) = if is_filled host && is_port port then Some text else None
address_in text _ = None

-- ---- addresses in brackets, as those of IPv6 are written

-- the octet is an opening bracket
abbrev pub is_opening : ℕ → Bool
is_opening b = b == 91

-- the octet is a closing bracket
abbrev pub is_closing : ℕ → Bool
is_closing b = b == 93

-- the text begins with a bracket
abbrev pub is_bracketed : List ℕ → Bool
is_bracketed [] = false
is_bracketed (b ∷ bs) = is_opening b

-- the address with this behind its closing bracket: nothing, where the port is 210, or a colon and a port
abbrev pub address_behind : List ℕ → List ℕ → Option (List ℕ)
address_behind text [] = Some (text ++ codes ":210")
address_behind text (b ∷ port) = if is_colon b && is_port port then Some text else None

-- the address with its first closing bracket at this place; something stands in the brackets
abbrev pub address_closed : List ℕ → Option ℕ → Option (List ℕ)
address_closed text None = None
address_closed text (Some at) = if nat_lt 1 at then address_behind text (drop (at + 1) text) else None

-- the address that a text with a bracket at its front writes
unfoldable pub bracketed_address : List ℕ → Option (List ℕ)
bracketed_address text = address_closed text (position is_closing text)

-- ---- addresses

-- the address that a text without brackets writes
unfoldable pub plain_address : List ℕ → Option (List ℕ)
plain_address text = address_in text (slice_split is_colon text)

-- the address that the text writes
abbrev pub address_text : List ℕ → Option (List ℕ)
address_text text = if is_bracketed text then bracketed_address text else plain_address text

-- the address, if there is one
abbrev pub known_address : Option (List ℕ) → Reading (List ℕ)
known_address None = fault keys.Address faults.Text
known_address (Some address) = Ok address

-- the address of a text
abbrev pub address_by : Option (List ℕ) → Reading (List ℕ)
address_by None = fault keys.Address faults.Type
address_by (Some text) = known_address (address_text text)

-- the address of a catalogue
abbrev pub address_of : Option Data → Reading (List ℕ)
address_of None = fault keys.Address faults.Missing
address_of (Some value) = address_by (as_str value)
