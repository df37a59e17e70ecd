-- A place of a production: which element has which value, what an element means, and how a value is spelled. Laws
-- connect these.
use Rattle.std.specs.Prelude.{◌≡◌, List, Option, Some, None, true}
use Rattle.zber.specs.AsnTags.{AsnTag}
use Rattle.zber.specs.Elements.{Element, tag_of}
use Rattle.zber.specs.Tags.{among}

-- how a value stands in an element: the tags, the spellings, and the reading
pub record Place (A : Type 0) : Type 1 where
  -- the tags of its elements
  pub tags : List AsnTag
  -- the element has the value
  pub writes : A → Element → Type 0
  -- the value that an element with one of the tags means
  pub meaning : Element → Option A
  -- the element that is written for the value
  pub spelling : A → Option Element
  pub some : (x : A) × (n : Element) × writes x n
  pub begins : (x : A) (n : Element) → writes x n → among (tag_of n) tags ≡ true
  pub reads : (x : A) (n : Element) → among (tag_of n) tags ≡ true → meaning n ≡ Some x → writes x n
  pub finds : (x : A) (n : Element) → writes x n → meaning n ≡ Some x
  pub makes : (x : A) (n : Element) → spelling x ≡ Some n → writes x n
  pub none : (x : A) → spelling x ≡ None → (n : Element) → writes x n → ⊥

-- some element has the value
abbrev pub IsSpellable : {A : Type 0} → Place A → A → Type 0
IsSpellable p x = (n : Element) × p.writes x n
