-- Elements within an element.
use Rattle.std.specs.Prelude.{◌≡◌, true, List, [], ◌∷◌, Option, Some, None, Result, Ok, Err, if◌then◌else◌}
use Rattle.zber.specs.AsnTags.{AsnTag}
use Rattle.zber.specs.Elements.{Element, Primitive, Constructed, forest, elements, tag_of}
use Rattle.zber.specs.Tags.{among}
use Rattle.zasn_tables.specs.Reading.{◌>>=◌, option_map, required_at, ended_at}
use Rattle.zasn_tables.specs.Place.{Place}

-- the value that reading gives, if any
abbrev pub value_read : {A : Type 0} → Result A (List Element) → Option A
value_read (Ok x) = Some x
value_read (Err r) = None

-- what the elements within an element mean
abbrev pub sequence_of : {A : Type 0} → (List Element → Result A (List Element)) → Element → Option A
sequence_of walk (Primitive t b) = None
sequence_of walk (Constructed t f) = value_read (walk (elements f))

-- the element with the tag around these elements
abbrev pub around : AsnTag → Option (List Element) → Option Element
around tag made = option_map (λ ns. Constructed tag (forest ns)) made

-- one element alone
abbrev pub alone_at : {A : Type 0} → List AsnTag → (Element → Option A) → List Element → Result A (List Element)
alone_at tags meaning ns = required_at tags meaning ns >>= λ a. ended_at a.1 >>= λ end. Ok a.0

-- any element, as its own value
abbrev pub itself : Element → Element → Type 0
itself m n = n ≡ m

-- reads one element alone, of any tag and form; the misfit is at the end if there is none, else at the second
abbrev pub any_at : List Element → Result Element (List Element)
any_at [] = Err []
any_at (n ∷ []) = Ok n
any_at (n ∷ m ∷ ns) = Err (m ∷ ns)

-- an element with one of the tags, as its own value
abbrev pub is_kept : List AsnTag → Element → Element → Type 0
is_kept tags m n = (n ≡ m) × (among (tag_of n) tags ≡ true)

-- each element has one value, in order
abbrev pub each : {A : Type 0} → (A → Element → Type 0) → List A → List Element → Type 0
each P [] [] = Unit {0}
each P (x ∷ xs) (n ∷ ns) = P x n × each P xs ns
each P [] (n ∷ ns) = ⊥
each P (x ∷ xs) [] = ⊥

-- the value and the others, if all are there
abbrev pub with_head : {A : Type 0} → Option A → Option (List A) → Option (List A)
with_head (Some x) (Some xs) = Some (x ∷ xs)
with_head (Some x) None = None
with_head None o = None

-- what elements mean, if each means a value
abbrev pub all_meanings : {A : Type 0} → (Element → Option A) → List Element → Option (List A)
all_meanings meaning [] = Some []
all_meanings meaning (n ∷ ns) = with_head (meaning n) (all_meanings meaning ns)

-- what the elements within an element mean, in order
abbrev pub list_meaning : {A : Type 0} → (Element → Option A) → Element → Option (List A)
list_meaning meaning (Primitive t b) = None
list_meaning meaning (Constructed t f) = all_meanings meaning (elements f)

-- what an element means, if it has one of the place's tags
abbrev pub whole_of : {A : Type 0} → Place A → Element → Option A
whole_of p n = if among (tag_of n) p.tags then p.meaning n else None

-- the elements of values, if each has one
abbrev pub all_spellings : {A : Type 0} → (A → Option Element) → List A → Option (List Element)
all_spellings spelling [] = Some []
all_spellings spelling (x ∷ xs) = with_head (spelling x) (all_spellings spelling xs)
