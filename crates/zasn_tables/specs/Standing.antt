-- The elements of a production: each place is filled or left out, and the next places follow.
use Rattle.std.specs.Prelude.{◌≡◌, List, [], ◌∷◌, Option, Some, None}
use Rattle.zber.specs.AsnTags.{AsnTag}
use Rattle.zber.specs.Elements.{Element, Primitive, Constructed, elements, tag_of}

-- an element with this tag that means the value
abbrev pub tagged : {A : Type 0} → AsnTag → (Element → Option A) → A → Element → Type 0
tagged tag meaning x n = (tag_of n ≡ tag) × (meaning n ≡ Some x)

-- one element that P relates to the value, and then the rest
abbrev pub required : {A : Type 0} → (A → Element → Type 0) → A → (List Element → Type 0) → List Element → Type 0
required P x rest [] = ⊥
required P x rest (n ∷ ns) = P x n × rest ns

-- the same if there is a value, otherwise only the rest
abbrev pub optional : {A : Type 0} → (A → Element → Type 0) → Option A → (List Element → Type 0) → List Element → Type 0
optional P None rest ns = rest ns
optional P (Some x) rest ns = required P x rest ns

-- no more elements
abbrev pub ended : List Element → Type 0
ended [] = Unit {0}
ended (n ∷ ns) = ⊥

-- a constructed element with this tag and these elements
abbrev pub sequence : AsnTag → (List Element → Type 0) → Element → Type 0
sequence tag parts (Primitive t b) = ⊥
sequence tag parts (Constructed t f) = (t ≡ tag) × parts (elements f)
