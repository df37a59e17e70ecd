-- Building a production from left to right: the elements written so far, or nothing if a part has no spelling.
use Rattle.std.specs.Prelude.{List, [], ◌∷◌, ◌++◌, Option, Some, None, if◌then◌else◌}
use Rattle.zber.specs.AsnTags.{AsnTag}
use Rattle.zber.specs.Elements.{Element, Primitive, Constructed}
use Rattle.zber.specs.Tags.{same_tag}
use Rattle.zasn_tables.specs.Reading.{option_map}

-- builds on from the elements written so far, or gives nothing if a part before has no spelling
infixl 10 ◌>>=◌
-- the second step from what the first gives, if it gives a value
abbrev pub ◌>>=◌ : {A B : Type 0} → Option A → (A → Option B) → Option B
(Some x) >>= f = f x
None >>= f = None

-- an opaque element is its own spelling, if it has the tag
abbrev pub constructed_spelling : AsnTag → Element → Option Element
constructed_spelling tag (Primitive t b) = None
constructed_spelling tag (Constructed t f) = if same_tag t tag then Some (Constructed t f) else None

-- adds the element of a value, and the same if there is a value
abbrev pub required_put : {A : Type 0} → (A → Option Element) → A → List Element → Option (List Element)
required_put spelling x out = option_map (λ n. out ++ n ∷ []) (spelling x)

-- adds the element of a value if there is a value; without one the elements stay as they are
abbrev pub optional_put : {A : Type 0} → (A → Option Element) → Option A → List Element → Option (List Element)
optional_put spelling None out = Some out
optional_put spelling (Some x) out = required_put spelling x out
