-- JSON objects (RFC 8259), by the tokens of their members. `print` of the kit's `json` spells tokens: without spaces,
-- with the escapes of `"`, of the backslash and of the octets below 20.
use Rattle.std.specs.Prelude.{ℕ, suc, ℤ, pos, negsuc, Bool, if◌then◌else◌, List, [], ◌∷◌, ◌++◌, codes}
use Rattle.std.specs.Str.{is_utf8}
use Rattle.std.specs.Str.Lossy.{utf8_lossy}
use Rattle.base64.specs.Engines.{standard}
use Rattle.base64.specs.GeneralPurpose.{encode_of}
use Rattle.json.specs.Token.{Token, begin_object, end_object, begin_array, end_array, key, string, number, boolean}
use Rattle.json.specs.Print.{print}
use Rattle.zber.specs.Dotted.{numeral}

-- a member with a text
unfoldable pub text_member : List ℕ → List ℕ → List Token
text_member name text = key name ∷ string text ∷ []

-- a member with a natural number, in decimal
unfoldable pub natural_member : List ℕ → ℕ → List Token
natural_member name n = key name ∷ number (numeral n) ∷ []

-- an integer in decimal, however large
abbrev pub signed_numeral : ℤ → List ℕ
signed_numeral (pos n) = numeral n
signed_numeral (negsuc n) = 0x2D ∷ numeral (suc n)

-- a member with an integer
unfoldable pub integer_member : List ℕ → ℤ → List Token
integer_member name n = key name ∷ number (signed_numeral n) ∷ []

-- a member with `true` or `false`
unfoldable pub boolean_member : List ℕ → Bool → List Token
boolean_member name b = key name ∷ boolean b ∷ []

-- a member with octets, in base64 (RFC 4648, section 4)
unfoldable pub octets_member : List ℕ → List ℕ → List Token
octets_member name octets = text_member name (encode_of standard octets)

-- The octets in base64, if they are not UTF-8; else nothing.
unfoldable pub octets_unless_utf8 : List ℕ → List ℕ → List Token
octets_unless_utf8 name octets = if is_utf8 octets then [] else octets_member name octets

-- A member with a text that came as octets: the octets, with U+FFFD in place of what is not UTF-8. If anything is not
-- UTF-8, a second member has all the octets.
unfoldable pub received_member : List ℕ → List ℕ → List ℕ → List Token
received_member name octets_name octets =
    text_member name (utf8_lossy octets) ++ octets_unless_utf8 octets_name octets

-- an object with these members
abbrev pub object : List Token → List Token
object members = begin_object ∷ members ++ end_object ∷ []

-- a member with an array of these items
abbrev pub array_member : List ℕ → List Token → List Token
array_member name items = key name ∷ begin_array ∷ items ++ end_array ∷ []

-- the line of these tokens
unfoldable pub line : List Token → List ℕ
line tokens = print tokens ++ codes "\n"
