-- A merge: what it was fed, what it has handed out, and what each step means.
use Rattle.std.specs.Prelude.{◌≡◌, ◌≢◌, ℕ, ◌+◌, ◌-◌, ◌<◌, ◌≤◌, true, false, List, [], ◌∷◌, ◌++◌, length, map, Option, Some, None, Vec, Contains, slice_index_or, if◌then◌else◌, sum_by, ⊤}
use Rattle.std.specs.List.Sorted.{IsStrictlySortedBy}
use Rattle.zknow.specs.declared.fact.Fact.{Fact}
use Rattle.zknow.specs.declared.saved.loading.LoadError.{LoadError}
use Rattle.zknow.specs.Encodings.{encoding}
use Rattle.zknow.specs.Facts.{fact_cmp}
use Rattle.zknow.specs.Saved.SavedFacts.{saved_fact}
use Rattle.zknow.specs.Saved.Saved.{saved, IsSaved}
use Rattle.zknow_merge.specs.declared.merge.Merge.{Merge}
use Rattle.zknow_merge.specs.declared.refusal.Refusal.{Refusal}
use Rattle.zknow_merge.specs.declared.refusal.Refusal.TheVariants as refusals
use Rattle.zknow_merge.specs.declared.step.Step.{Step}
use Rattle.zknow_merge.specs.declared.step.Step.TheVariants.{Need, Again, Refused, NamesDiffer, Done}
use Rattle.zknow_merge.specs.declared.source.Source.{Source}
use Rattle.zknow_merge.specs.declared.head.Head.{Head}
use Rattle.zknow_merge.specs.Heads.{IsSavable}
use Rattle.zknow_merge.specs.Inputs.{Input, input_at, octets_of, AreWhole}
use Rattle.zknow_merge.specs.Joins.{HasNames, IsJoin}
use Rattle.zknow_merge.specs.Sources.{IsElementOption, IsReadFrom, HasReadNames, HasReadOthers, IsFaultOf, left_of}

-- each source has read its input
abbrev pub AreRead : List Fact → List Input → List Source → Type 0
AreRead merged inputs sources =
    (k : ℕ) (d : Source) → k < length sources → IsReadFrom merged (input_at inputs k) (slice_index_or sources k d)

-- one of the inputs begins with a saved file that has the fact
pub record IsFactAhead (inputs : List Input) (f : Fact) : Type 0 where
  pub number : ℕ
  pub among : number < length inputs
  pub front : List ℕ
  pub rest : List ℕ
  pub cut : (input_at inputs number).octets ≡ front ++ rest
  pub names : List (List ℕ)
  pub facts : List Fact
  pub saved : IsSaved names facts front
  pub has : Contains facts f

-- the merge keeps the element of the last of the facts, if there is one
pub record IsLastOf (facts : List Fact) (m : Merge) : Type 0 where
  pub none : facts ≡ [] → m.last ≡ None
  pub some : (front : List Fact) (f : Fact) → facts ≡ front ++ f ∷ [] → IsElementOption m.last (encoding saved_fact f)

-- the facts that were merged: in order, and each stands in a file
pub record AreMerged (inputs : List Input) (merged : List Fact) : Type 0 where
  pub ordered : IsStrictlySortedBy fact_cmp merged
  pub savable : (f : Fact) → Contains merged f → IsSavable f
  pub ahead : (f : Fact) → Contains merged f → IsFactAhead inputs f

-- the first sources have read these names
abbrev pub AreNamed : List (List ℕ) → List Source → ℕ → Type 0
AreNamed names sources count =
    (k : ℕ) (d : Source) → k < count → k < length sources → HasReadNames names (slice_index_or sources k d)

-- the input behind those of the sources has the fault
pub record IsCutAtFault (inputs : List Input) (sources : List Source) (fault : LoadError) : Type 0 where
  pub few : length sources < length inputs
  pub is : IsFaultOf (input_at inputs (length sources)) fault

-- the last source has read other names than those before it
pub record IsCutAtNames (inputs : List Input) (names : List (List ℕ)) (sources : List Source) : Type 0 where
  pub few : length sources ≤ length inputs
  pub some : 1 < length sources
  pub others : (d : Source) → HasReadOthers names (slice_index_or sources (length sources - 1) d)

-- which inputs have sources: all, or those up to one that is refused
abbrev pub IsCut : Option Refusal → List Input → List (List ℕ) → List Source → Type 0
IsCut None inputs names sources = length sources ≡ length inputs
IsCut (Some (refusals.Fault e)) inputs names sources = IsCutAtFault inputs sources e
IsCut (Some refusals.NamesDiffer) inputs names sources = IsCutAtNames inputs names sources

-- how many of so many sources have the names of the first: all, or all but the last
abbrev pub same_names : Option Refusal → ℕ → ℕ
same_names None count = count
same_names (Some (refusals.Fault e)) count = count
same_names (Some refusals.NamesDiffer) count = count - 1

-- nothing was handed out
pub record IsUnnamed (merged : List Fact) (written : List ℕ) (m : Merge) : Type 0 where
  pub none : merged ≡ []
  pub nothing : written ≡ []
  pub alike : m.refusal ≡ Some refusals.NamesDiffer → ⊥

-- The merge has been fed what has come of the inputs, and has handed out `written`.
pub record IsMerge (inputs : List Input) (written : List ℕ) (m : Merge) : Type 0 where
  pub some : 0 < length inputs
  pub names : List (List ℕ)
  pub merged : List Fact
  pub read : AreRead merged inputs m.sources.items
  pub facts : AreMerged inputs merged
  pub last : IsLastOf merged m
  pub cut : IsCut m.refusal inputs names m.sources.items
  pub named : m.named ≡ true → AreNamed names m.sources.items (same_names m.refusal (length m.sources.items))
  pub unnamed : m.named ≡ false → IsUnnamed merged written m
  pub handed : m.refusal ≡ None → m.named ≡ true → written ≡ saved names merged

-- the inputs before this one are at their ends, and are saved files with these names
abbrev pub AreSound : List Input → List (List ℕ) → ℕ → Type 0
AreSound inputs names count =
    (k : ℕ) → k < count → ((input_at inputs k).ended ≡ true) × HasNames names (input_at inputs k).octets

-- input `number` is the first that is refused, with this fault; the inputs before it are at their ends, and are saved
-- files with one list of names
pub record IsFirstFaultyInput (inputs : List Input) (number : ℕ) (fault : LoadError) : Type 0 where
  pub among : number < length inputs
  pub names : List (List ℕ)
  pub before : AreSound inputs names number
  pub is : IsFaultOf (input_at inputs number) fault

-- input `number` is the first that is refused: it is at its end, and is a saved file with other names than the inputs
-- before it, of which there is at least one
pub record IsFirstInputOfOtherNames (inputs : List Input) (number : ℕ) : Type 0 where
  pub among : number < length inputs
  pub some : 0 < number
  pub names : List (List ℕ)
  pub before : AreSound inputs names number
  pub ended : (input_at inputs number).ended ≡ true
  pub others : List (List ℕ)
  pub file : HasNames others (input_at inputs number).octets
  pub differ : others ≢ names

-- octets were appended, and are among those that the merge has handed out
pub record IsHandedOut (inputs : List Input) (written before after : List ℕ) (m : Merge) : Type 0 where
  pub more : List ℕ
  pub out : after ≡ before ++ more
  pub merge : IsMerge inputs (written ++ more) m

-- what a step means, of the inputs and of all that was handed out
abbrev pub IsStep : List Input → List ℕ → Step → Type 0
IsStep inputs written (Need i) = (i < length inputs) × ((input_at inputs i).ended ≡ false)
IsStep inputs written Again = ⊤
IsStep inputs written (Refused i e) = IsFirstFaultyInput inputs i e
IsStep inputs written (NamesDiffer i) = IsFirstInputOfOtherNames inputs i
IsStep inputs written Done = AreWhole inputs × IsJoin (map octets_of inputs) written

-- after `next`: it appended octets, and the step means what it says
pub record AfterNext (inputs : List Input) (written before : List ℕ) (step : Step) (after : List ℕ) (m : Merge)
    : Type 0 where
  pub handed : IsHandedOut inputs written before after m
  pub means : IsStep inputs (written ++ handed.more) step

-- what is handed out of an element: nothing, if an input is refused
abbrev pub shown : Option Refusal → List ℕ → List ℕ
shown None element = element
shown (Some r) element = []

-- the element of the last fact that the source has read
abbrev pub IsHeadElement : Option Head → List ℕ → Type 0
IsHeadElement None octets = ⊥
IsHeadElement (Some h) octets = h.element.items ≡ octets

-- the element of the source's last fact, if it is not the element kept
abbrev pub IsNextElement : {A B : Type 0} → Option (Vec ℕ A) → Source → Option (Vec ℕ B) → Type 0
IsNextElement last s None = (octets : List ℕ) → IsHeadElement s.last octets → IsElementOption last octets
IsNextElement last s (Some e) = IsHeadElement s.last e.items × (IsElementOption last e.items → ⊥)

-- the names of the first source were appended, if it has read any and no input is refused
pub record ArePutNames (r : Option Refusal) (sources : List Source) (before after : List ℕ) : Type 0 where
  pub more : List ℕ
  pub out : after ≡ before ++ more
  pub names : r ≡ None → 0 < length sources → (d : Source) → ((slice_index_or sources 0 d).names ≡ None → ⊥)
      → IsElementOption (slice_index_or sources 0 d).names more

-- how many steps a merge can make at most before it needs octets
abbrev pub left : Merge → ℕ
left m = sum_by left_of m.sources.items + (if m.named then 0 else 1)
