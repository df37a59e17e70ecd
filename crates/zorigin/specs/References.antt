-- Reference ids (Z39.50-2003, 3.4): an operation's number in four octets, the most significant first.
use Rattle.std.specs.Prelude.{ℕ, ◌+◌, ◌*◌, ◌/◌, ◌%◌, nat_lt, ◌&&◌, if◌then◌else◌, List, [], ◌∷◌, Option, Some, None}

-- the reference id of an operation
abbrev pub reference_id : ℕ → List ℕ
reference_id op = op / 16777216 ∷ op / 65536 % 256 ∷ op / 256 % 256 ∷ op % 256 ∷ []

-- the number in a reference id, if it has four octets
abbrev pub operation_number : List ℕ → Option ℕ
operation_number (a ∷ b ∷ c ∷ d ∷ []) =
    if nat_lt b 256 && nat_lt c 256 && nat_lt d 256 then Some (16777216 * a + 65536 * b + 256 * c + d) else None
operation_number _ = None
