-- How a `Tag` keeps its class and number.
use Rattle.zber.specs.declared.tag.Tag.TheInside.{Inside}
use Rattle.zber.specs.AsnTags.{AsnTag, IsTag}

-- the tag of ASN.1 that contracts speak of in place of a `Tag` with these fields
abbrev pub asn_tag : Inside → AsnTag
asn_tag t = record { class = t.class; number = t.number }

-- the fields of the `Tag` that stands for a tag of ASN.1
abbrev pub inside : AsnTag → Inside
inside n = record { class = n.class; number = n.number }

-- the invariant of a `Tag`: its number fits 32 bits, and it is not UNIVERSAL 0
abbrev pub IsValidInside : Inside → Type 0
IsValidInside t = IsTag (asn_tag t)
