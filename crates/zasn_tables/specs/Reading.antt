-- Reading a production from left to right: the value and the elements left, or the elements left at the first misfit.
use Rattle.std.specs.Prelude.{List, [], ◌∷◌, Option, Some, None, Result, Ok, Err, if◌then◌else◌}
use Rattle.zber.specs.AsnTags.{AsnTag}
use Rattle.zber.specs.Elements.{Element, Primitive, Constructed, tag_of}
use Rattle.zber.specs.Tags.{among}

-- a constructed element, whatever it contains
abbrev pub constructed : Element → Option Element
constructed (Primitive t b) = None
constructed (Constructed t f) = Some (Constructed t f)

-- reads on from what was read so far, or keeps the elements that were left at a misfit before
infixl 10 ◌>>=◌
-- the second step from what the first gives, if it gives a value
abbrev pub ◌>>=◌ : {A B : Type 0} → Result A (List Element) → (A → Result B (List Element)) → Result B (List Element)
(Ok x) >>= f = f x
(Err r) >>= f = Err r

-- the function's result for the value, if there is a value
abbrev pub option_map : {A B : Type 0} → (A → B) → Option A → Option B
option_map f (Some x) = Some (f x)
option_map f None = None

-- the value and the elements after it, or the misfit here
abbrev pub filled : {A : Type 0} → Option A → List Element → List Element → Result (A × List Element) (List Element)
filled (Some x) here after = Ok (x, after)
filled None here after = Err here

-- reads a place whose elements have one of the tags; it may be left out
abbrev pub optional_at : {A : Type 0} → List AsnTag → (Element → Option A) → List Element
    → Result (Option A × List Element) (List Element)
optional_at tags meaning [] = Ok (None, [])
optional_at tags meaning (n ∷ ns) =
    if among (tag_of n) tags then filled (option_map Some (meaning n)) (n ∷ ns) ns else Ok (None, n ∷ ns)

-- the same for a place that may not be left out
abbrev pub required_at : {A : Type 0} → List AsnTag → (Element → Option A) → List Element
    → Result (A × List Element) (List Element)
required_at tags meaning [] = Err []
required_at tags meaning (n ∷ ns) =
    if among (tag_of n) tags then filled (meaning n) (n ∷ ns) ns else Err (n ∷ ns)

-- no element may be left
abbrev pub ended_at : List Element → Result (Unit {0}) (List Element)
ended_at [] = Ok tt
ended_at (n ∷ ns) = Err (n ∷ ns)
