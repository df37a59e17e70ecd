-- The results of readers and builders, compared with what reading and building by the definitions give.
use Rattle.std.specs.Prelude.{◌≡◌, ℕ, Bool, false, List, [], ◌∷◌, length, drop, Option, Some, None, Result, Ok, Err}
use Rattle.zber.specs.AsnTags.{AsnTag}
use Rattle.zber.specs.Elements.{Element, tag_of}
use Rattle.zber.specs.Tags.{among}
use Rattle.zber.specs.declared.value.ValueError.{ValueError}
use Rattle.zber.specs.declared.value.ValueError.TheVariants as values
use Rattle.zasn.specs.declared.error.PartError.{PartError}
use Rattle.zasn.specs.declared.error.PartError.TheVariants.{Misfit, Memory}
use Rattle.zasn.specs.declared.error.BuildError.{BuildError}
use Rattle.zasn.specs.declared.error.BuildError.TheVariants as builds

-- a value that cannot be read is a misfit, unless no memory was found
abbrev pub part_error_of : ValueError → PartError
part_error_of values.Memory = Memory
part_error_of _ = Misfit

-- whether there is a first element, and it has the tag
abbrev pub has_first_tag : AsnTag → List Element → Bool
has_first_tag tag [] = false
has_first_tag tag (n ∷ ns) = among (tag_of n) (tag ∷ [])

-- whether there is a first element, and it has one of the tags
abbrev pub has_first_tag_in : List AsnTag → List Element → Bool
has_first_tag_in tags [] = false
has_first_tag_in tags (n ∷ ns) = among (tag_of n) tags

-- the result of the reader of one element is what the element means, unless no memory was found
abbrev pub MeaningResult : {A : Type 0} → Option A → Result A PartError → Type 0
MeaningResult meaning (Ok x) = meaning ≡ Some x
MeaningResult meaning (Err Misfit) = meaning ≡ None
MeaningResult meaning (Err Memory) = Unit {0}

-- a step over the elements returned and left what reading gives, unless no memory was found
abbrev pub StepResult : {A : Type 0} → Result (A × List Element) (List Element) → Result A PartError → List Element
    → Type 0
StepResult reading (Ok x) left = reading ≡ Ok (x, left)
StepResult reading (Err Misfit) left = reading ≡ Err left
StepResult reading (Err Memory) left = Unit {0}

-- the reader of a whole production returned and left what reading gives, unless no memory was found
abbrev pub ReadingResult : {A : Type 0} → Result A (List Element) → Result A PartError → List Element → Type 0
ReadingResult reading (Ok x) left = reading ≡ Ok x
ReadingResult reading (Err Misfit) left = reading ≡ Err left
ReadingResult reading (Err Memory) left = Unit {0}

-- what reading gives, with the number of elements left instead of these
abbrev pub counted_reading : {A : Type 0} → Result A (List Element) → Result A ℕ
counted_reading (Ok x) = Ok x
counted_reading (Err r) = Err (length r)

-- A step over elements that it takes over returned and left what reading gives. After a misfit as many are left as
-- before, and those after the first are the same. If no memory was found, those after the next one are left.
abbrev pub OwnStepResult : {A : Type 0} → Result (A × List Element) (List Element) → Result A PartError → List Element
    → List Element → Type 0
OwnStepResult reading (Ok x) before left = reading ≡ Ok (x, left)
OwnStepResult reading (Err Misfit) before left =
    (reading ≡ Err before) × (length left ≡ length before) × (drop 1 left ≡ drop 1 before)
OwnStepResult reading (Err Memory) before left = (n : Element) × (before ≡ n ∷ left)

-- the reader of a whole production returned what reading gives, and left as many elements, unless no memory was found
abbrev pub CountedReadingResult : {A : Type 0} → Result A (List Element) → Result A PartError → ℕ → Type 0
CountedReadingResult reading (Ok x) left = reading ≡ Ok x
CountedReadingResult reading (Err Misfit) left = counted_reading reading ≡ Err left
CountedReadingResult reading (Err Memory) left = Unit {0}

-- the same for a reader that takes the elements over
abbrev pub OwnReadingResult : {A : Type 0} → Result A (List Element) → Result A PartError → List Element → Type 0
OwnReadingResult reading result left = CountedReadingResult reading result (length left)

-- the builder returned the spelling, or there is none, unless no memory was found
abbrev pub BuildResult : {A : Type 0} → Option A → Result A BuildError → Type 0
BuildResult made (Ok x) = made ≡ Some x
BuildResult made (Err builds.NotSpellable) = made ≡ None
BuildResult made (Err builds.Memory) = Unit {0}

-- the same for a step that adds elements to `out`
abbrev pub BuildStepResult : {A : Type 0} → Option (List Element) → Result A BuildError → List Element → Type 0
BuildStepResult made (Ok x) out = made ≡ Some out
BuildStepResult made (Err builds.NotSpellable) out = made ≡ None
BuildStepResult made (Err builds.Memory) out = Unit {0}

-- the builder returned an element that has the value, or none has it, unless no memory was found
abbrev pub WritingResult : (Element → Type 0) → Result Element BuildError → Type 0
WritingResult P (Ok n) = P n
WritingResult P (Err builds.NotSpellable) = (n : Element) → P n → ⊥
WritingResult P (Err builds.Memory) = Unit {0}
