-- Records that are octets in an EXTERNAL, encoded canonically.
use Rattle.std.specs.Prelude.{◌≡◌, ◌⊎◌, ◌<◌, ◌≤◌, ◌^◌, ℕ, pos, List, ◌++◌, length}
use Rattle.zber.specs.Integers.{integer_octets}
use Rattle.zknow_merge.specs.Canonical.{framed, IsOidOctets}

-- an EXTERNAL [UNIVERSAL 8]: OBJECT IDENTIFIER, and octet-aligned [1]
pub record IsPlainExternal (octets : List ℕ) : Type 0 where
  pub oid : List ℕ
  pub content : List ℕ
  pub is : octets ≡ framed 6 oid ++ framed 129 content
  pub syntax : IsOidOctets oid

-- record [1] of a NamePlusRecord: retrievalRecord [1], an EXTERNAL
pub record IsPlainBody (octets : List ℕ) : Type 0 where
  pub contents : List ℕ
  pub is : octets ≡ framed 161 (framed 161 (framed 40 contents))
  pub external : IsPlainExternal contents

-- the name [0] of the database, and then the record
pub record IsNamedBody (octets : List ℕ) : Type 0 where
  pub name : List ℕ
  pub rest : List ℕ
  pub is : octets ≡ framed 128 name ++ rest
  pub body : IsPlainBody rest

-- a NamePlusRecord
pub record IsPlainRecord (octets : List ℕ) : Type 0 where
  pub contents : List ℕ
  pub is : octets ≡ framed 48 contents
  pub body : IsPlainBody contents ⊎ IsNamedBody contents

-- the octets begin with a target [0], a set [1] and a position [2]
pub record AreNumbers (octets : List ℕ) (target set position : ℕ) (rest : List ℕ) : Type 0 where
  pub is : octets ≡ framed 128 (integer_octets (pos target))
      ++ (framed 129 (integer_octets (pos set)) ++ (framed 130 (integer_octets (pos position)) ++ rest))
  pub target_fits : target < 2 ^ 32
  pub set_fits : set < 2 ^ 32
  pub position_fits : position < 2 ^ 32

-- the octets begin with the element of a record's fact
pub record IsPlain (octets element : List ℕ) (target set position : ℕ) (rec : List ℕ) : Type 0 where
  pub contents : List ℕ
  pub is : element ≡ framed 162 contents
  pub after : List ℕ
  pub begins : octets ≡ element ++ after
  pub small : length element ≤ 4194304
  pub numbers : AreNumbers contents target set position rec
  pub some : 0 < position
  pub record_is : IsPlainRecord rec
