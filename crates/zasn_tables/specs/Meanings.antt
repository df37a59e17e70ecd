-- The values that elements mean, and the one element under a tag that spells a value.
use Rattle.std.specs.Prelude.{ℕ, ℤ, pos, negsuc, ◌^◌, nat_lt, Bool, List, Option, Some, None, Result, Ok, Err, if◌then◌else◌}
use Rattle.zber.specs.declared.value.ValueError.{ValueError}
use Rattle.zber.specs.AsnTags.{AsnTag}
use Rattle.zber.specs.Elements.{Element, Primitive}
use Rattle.zber.specs.Values.{as_octets, as_bool, bool_octets}
use Rattle.zber.specs.Integers.{as_int, integer_octets}
use Rattle.zber.specs.Oids.{as_oid, is_oid, oid_octets}
use Rattle.zber.specs.Bits.{as_bits, bit_octets}

-- the value that a reader returns, if any; the kind of error does not count
abbrev pub meant : {A : Type 0} → Result A ValueError → Option A
meant (Ok x) = Some x
meant (Err e) = None

-- OCTET STRING and the character strings (X.690, 8.7 and 8.23)
abbrev pub octets_meaning : Element → Option (List ℕ)
octets_meaning e = meant (as_octets e)

-- the primitive element with these contents octets; every value has one
abbrev pub octets_spelling : AsnTag → List ℕ → Option Element
octets_spelling tag xs = Some (Primitive tag xs)

-- OBJECT IDENTIFIER (X.690, 8.19)
abbrev pub oid_meaning : Element → Option (List ℕ)
oid_meaning e = meant (as_oid e)

-- the primitive element of these arcs, or none if they are those of no object identifier
abbrev pub oid_spelling : AsnTag → List ℕ → Option Element
oid_spelling tag arcs = if is_oid arcs then Some (Primitive tag (oid_octets arcs)) else None

-- BIT STRING (X.690, 8.6)
abbrev pub bits_meaning : Element → Option (List Bool)
bits_meaning e = meant (as_bits e)

-- the primitive element of these bits, with its unused bits zero (X.690, 11.2.1); every value has one
abbrev pub bits_spelling : AsnTag → List Bool → Option Element
bits_spelling tag bits = Some (Primitive tag (bit_octets bits))

-- whether a number fits 64 bits: -2^63 to 2^63 - 1
abbrev pub is_i64 : ℤ → Bool
is_i64 (pos n) = nat_lt n (2 ^ 63)
is_i64 (negsuc n) = nat_lt n (2 ^ 63)

-- the number that 1 to 8 contents octets mean in two's complement, even if fewer octets would do
abbrev pub int_meaning : Element → Option ℤ
int_meaning e = meant (as_int e)

-- the primitive element of a number in the fewest contents octets (X.690, 8.3.2), or none if it exceeds 64 bits
abbrev pub int_spelling : AsnTag → ℤ → Option Element
int_spelling tag z = if is_i64 z then Some (Primitive tag (integer_octets z)) else None

-- BOOLEAN (X.690, 8.2)
abbrev pub bool_meaning : Element → Option Bool
bool_meaning e = meant (as_bool e)

-- the primitive element of a truth value: its contents are FF for true (X.690, 11.1) and 00 for false
abbrev pub bool_spelling : AsnTag → Bool → Option Element
bool_spelling tag b = Some (Primitive tag (bool_octets b))
