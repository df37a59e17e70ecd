-- Tags of ASN.1: a class and a number (X.690, 8.1.2).
use Rattle.std.specs.Prelude.{ℕ, ◌≡◌, ◌<◌, ◌^◌}
use Rattle.zber.specs.declared.tag.Class.{Class}
use Rattle.zber.specs.declared.tag.Class.TheVariants.{Universal, Context}

-- a tag of ASN.1: its class and its number
pub record AsnTag : Type 0 where
  pub class : Class
  pub number : ℕ

-- the tags that elements have: the number fits 32 bits, and UNIVERSAL 0 is no tag
pub record IsTag (n : AsnTag) : Type 0 where
  pub named : n.class ≡ Universal → 0 < n.number
  pub fits : n.number < 2 ^ 32

-- the context-specific tag of a number, which ASN.1 writes `[number]` (8.1.2.2)
abbrev pub context : ℕ → AsnTag
context number = record { class = Context; number = number }

-- the universal tag of a number, such as 4 of OCTET STRING (8.1.2.2); 0 makes no lawful tag
abbrev pub universal : ℕ → AsnTag
universal number = record { class = Universal; number = number }
