-- Octets written as hexadecimal digits.
use Rattle.std.specs.Prelude.{◌≡◌, ℕ, ◌+◌, ◌*◌, ◌≤◌, List, [], ◌∷◌, length, filter, false, not, if◌then◌else◌}
use Rattle.std.specs.Prelude.{Some, Result, Ok, Err, Vec, vec_items}
use Rattle.std.specs.Option.{unwrap_or}
use Rattle.std.specs.Char.{is_ascii_whitespace}
use Rattle.hex.specs.Hex.{hex_digit_value, decode_pairs, decode_of}
use Rattle.hex.specs.declared.error.FromHexError.{FromHexError}
use Rattle.zmeta_devices.specs.declared.fault.Fault.{Fault}
use Rattle.zmeta_devices.specs.declared.fault.Fault.TheVariants.{Hex, Memory}

-- the text without its white space
abbrev pub digits : List ℕ → List ℕ
digits text = filter (λ b. not (is_ascii_whitespace b)) text

-- the octets that the digits of a text write
abbrev pub octets_of : List ℕ → Result (List ℕ) FromHexError
octets_of text = decode_of (digits text)

-- the octets of a text, or why it has none
abbrev pub IsDecoded : {A : Type 0} → List ℕ → Result (Vec ℕ A) Fault → Type 0
IsDecoded text (Ok v) = octets_of text ≡ Ok (vec_items v)
IsDecoded text (Err Hex) = (xs : List ℕ) → octets_of text ≡ Ok xs → ⊥
IsDecoded text (Err Memory) = Unit {0}
IsDecoded text (Err _) = ⊥

-- the value of a digit in either case; 16 for white space, and 17 for any other octet
unfoldable pub digit_value : ℕ → ℕ
digit_value c = unwrap_or (hex_digit_value c) (if is_ascii_whitespace c then 16 else 17)

-- two digits, and the octet that they write
pub record IsOctetOf (high low octet : ℕ) : Type 0 where
  pub first : ℕ
  pub second : ℕ
  pub high_is : hex_digit_value high ≡ Some first
  pub low_is : hex_digit_value low ≡ Some second
  pub octet_is : octet ≡ first * 16 + second

-- the text does not begin with white space
abbrev pub HasNoSpaceFirst : List ℕ → Type 0
HasNoSpaceFirst [] = Unit {0}
HasNoSpaceFirst (x ∷ xs) = is_ascii_whitespace x ≡ false

-- the first two digits of the text write this octet, and the rest follows
pub record HasOctetFirst (text : List ℕ) (octet : ℕ) (rest : List ℕ) : Type 0 where
  pub high : ℕ
  pub low : ℕ
  pub cut : digits text ≡ high ∷ low ∷ digits rest
  pub spell : IsOctetOf high low octet
  pub shorter : length rest + 2 ≤ length text

-- the digits of the text write no octets, whatever index their first digit has
abbrev pub HasNoOctets : List ℕ → Type 0
HasNoOctets text = (i : ℕ) (xs : List ℕ) → decode_pairs i (digits text) ≡ Ok xs → ⊥
