-- CHOICE: a value of several kinds, each with its own place.
use Rattle.std.specs.Prelude.{List, ◌++◌, Option, None, Bool, true, ◌&&◌, ◌⊎◌, if◌then◌else◌}
use Rattle.std.proofs.Common.{inl, inr}
use Rattle.zber.specs.AsnTags.{AsnTag}
use Rattle.zber.specs.Elements.{Element, tag_of}
use Rattle.zber.specs.Tags.{among, apart}
use Rattle.zasn_tables.specs.Reading.{option_map}
use Rattle.zasn_tables.specs.Place.{Place}

-- The kinds in order, each with its place and what makes the value of it.
pub data Choice (C : Type 0) : Type 1 where
  finally : {A : Type 0} → Place A → (A → C) → Choice C
  either : {A : Type 0} → Place A → (A → C) → Choice C → Choice C

-- the kind of a value, and the value of that kind
abbrev pub Pick : {C : Type 0} → Choice C → Type 0
Pick (finally {A = A} p wrap) = A
Pick (either {A = A} p wrap more) = A ⊎ Pick more

-- the value of a kind and its value
abbrev pub picked : {C : Type 0} (c : Choice C) → Pick c → C
picked (finally p wrap) x = wrap x
picked (either p wrap more) (inl x) = wrap x
picked (either p wrap more) (inr y) = picked more y

-- the element has this value of the choice
abbrev pub ValueWrites : {C : Type 0} (c : Choice C) → Pick c → Element → Type 0
ValueWrites (finally p wrap) x n = p.writes x n
ValueWrites (either p wrap more) (inl x) n = p.writes x n
ValueWrites (either p wrap more) (inr y) n = ValueWrites more y n

-- what an element means, by the first kind that has its tag
abbrev pub choice_meaning : {C : Type 0} → Choice C → Element → Option C
choice_meaning (finally p wrap) n = if among (tag_of n) p.tags then option_map wrap (p.meaning n) else None
choice_meaning (either p wrap more) n =
    if among (tag_of n) p.tags then option_map wrap (p.meaning n) else choice_meaning more n

-- the element of a value
abbrev pub choice_spelling : {C : Type 0} (c : Choice C) → Pick c → Option Element
choice_spelling (finally p wrap) x = p.spelling x
choice_spelling (either p wrap more) (inl x) = p.spelling x
choice_spelling (either p wrap more) (inr y) = choice_spelling more y

-- the tags of all kinds
abbrev pub choice_tags : {C : Type 0} → Choice C → List AsnTag
choice_tags (finally p wrap) = p.tags
choice_tags (either p wrap more) = p.tags ++ choice_tags more

-- no two kinds share a tag
abbrev pub distinct : {C : Type 0} → Choice C → Bool
distinct (finally p wrap) = true
distinct (either p wrap more) = apart p.tags (choice_tags more) && distinct more
