-- What a source has read of its input, and what of it was merged.
use Rattle.std.specs.Prelude.{◌≡◌, ◌≢◌, ◌⊎◌, ℕ, ◌+◌, ◌*◌, ◌<◌, true, false, List, [], ◌∷◌, ◌++◌, length, Option, Some, None, Vec, Result, Ok, Err, Contains, slice_index_or, if◌then◌else◌, ⊤}
use Rattle.std.specs.declared.cmp.Ordering.TheVariants.{Less}
use Rattle.zknow.specs.declared.fact.Fact.{Fact}
use Rattle.zknow.specs.declared.saved.loading.LoadError.{LoadError}
use Rattle.zknow.specs.declared.saved.loading.LoadError.TheVariants as loads
use Rattle.zknow.specs.Encodings.{encoding}
use Rattle.zknow.specs.Facts.{fact_cmp}
use Rattle.zknow.specs.Saved.SavedFacts.{saved_names, saved_fact}
use Rattle.zknow.specs.Saved.Saved.{IsSaved}
use Rattle.zknow.specs.Saved.Loaded.{IsLoadFault}
use Rattle.zknow.specs.Saved.Fronts.{IsTakenFront}
use Rattle.zknow_merge.specs.declared.head.Head.{Head}
use Rattle.zknow_merge.specs.declared.front.FrontError.{FrontError}
use Rattle.zknow_merge.specs.declared.front.FrontError.TheVariants as fronts
use Rattle.zknow_merge.specs.declared.source.Source.{Source}
use Rattle.zknow_merge.specs.declared.source.Read.{Read}
use Rattle.zknow_merge.specs.declared.source.Read.TheVariants.{Need, Fault, Element}
use Rattle.zknow_merge.specs.Heads.{IsHeadOf}
use Rattle.zknow_merge.specs.Inputs.{Input, IsFileOf}

-- the fact is at most the other, in fact order
abbrev pub IsAtMost : Fact → Fact → Type 0
IsAtMost f g = (fact_cmp f g ≡ Less) ⊎ (f ≡ g)

-- the head is that of the last of the facts
abbrev pub IsLastHead : List Fact → Option Head → Type 0
IsLastHead facts None = facts ≡ []
IsLastHead facts (Some h) = (front : List Fact) × (f : Fact) × (facts ≡ front ++ f ∷ []) × IsHeadOf h f

-- the source is at the end of its input, and all facts in it were merged
pub record IsDone (s : Source) : Type 0 where
  pub merged : s.waiting ≡ false
  pub ended : s.ended ≡ true
  pub read : s.octets.items ≡ []
  pub named : s.names ≡ None → ⊥

-- the source has to read an element
pub record IsWanting (s : Source) : Type 0 where
  pub merged : s.waiting ≡ false
  pub more : IsDone s → ⊥

-- the fact is the last of the facts
abbrev pub IsLastFact : List Fact → Fact → Type 0
IsLastFact facts f = (front : List Fact) × (facts ≡ front ++ f ∷ [])

-- there is a head, of this fact
abbrev pub IsHeadOption : Option Head → Fact → Type 0
IsHeadOption None f = ⊥
IsHeadOption (Some h) f = IsHeadOf h f

-- the last fact of the source waits, and is this one
abbrev pub HasHead : Source → Fact → Type 0
HasHead s f = (s.waiting ≡ true) × IsHeadOption s.last f

-- there is an element, of these octets
abbrev pub IsElementOption : {A : Type 0} → Option (Vec ℕ A) → List ℕ → Type 0
IsElementOption None octets = ⊥
IsElementOption (Some o) octets = o.items ≡ octets

-- the source has read these names
abbrev pub HasReadNames : List (List ℕ) → Source → Type 0
HasReadNames names s = IsElementOption s.names (encoding saved_names names)

-- The source has read these names and facts. Each fact was merged, but for the last if it waits. No fact was merged
-- that is above all of them, unless the source is done.
pub record HasReadFacts (merged : List Fact) (front : List ℕ) (s : Source) : Type 0 where
  pub names : List (List ℕ)
  pub facts : List Fact
  pub named : HasReadNames names s
  pub saved : IsSaved names facts front
  pub last : IsLastHead facts s.last
  pub count : s.count ≡ length facts + 1
  pub waits : s.waiting ≡ true → facts ≢ []
  pub passed : (f : Fact) → Contains facts f → Contains merged f ⊎ ((s.waiting ≡ true) × IsLastFact facts f)
  pub behind : (IsDone s → ⊥) → (f : Fact) → Contains merged f → (g : Fact) × Contains facts g × IsAtMost f g

-- nothing has come of the source's input
pub record IsNewSource (s : Source) : Type 0 where
  pub octets : s.octets.items ≡ []
  pub ended : s.ended ≡ false
  pub names : s.names ≡ None
  pub last : s.last ≡ None
  pub count : s.count ≡ 0
  pub waits : s.waiting ≡ false

-- the source has read nothing, and nothing was merged
pub record HasReadNothing (merged : List Fact) (front : List ℕ) (s : Source) : Type 0 where
  pub names : s.names ≡ None
  pub start : front ≡ []
  pub none : merged ≡ []
  pub last : s.last ≡ None
  pub count : s.count ≡ 0
  pub waits : s.waiting ≡ false

-- what the source has read
abbrev pub HasRead : List Fact → List ℕ → Source → Type 0
HasRead merged front s = HasReadNothing merged front s ⊎ HasReadFacts merged front s

-- the input is what the source has read, and then the octets that it keeps
pub record IsReadFrom (merged : List Fact) (i : Input) (s : Source) : Type 0 where
  pub front : List ℕ
  pub cut : i.octets ≡ front ++ s.octets.items
  pub ended : i.ended ≡ s.ended
  pub read : HasRead merged front s

-- each file that the input may be the front of has this fault
pub record IsFaultOf (i : Input) (fault : LoadError) : Type 0 where
  pub file : (file : List ℕ) → IsFileOf i file → IsLoadFault file fault
  pub some : fault ≢ loads.Memory

-- what the error says of each file that the input may be the front of: it is the fault of the element with this index
abbrev pub IsNextFault : Input → ℕ → FrontError → Type 0
IsNextFault i at fronts.NoValue = (file : List ℕ) → IsFileOf i file → IsLoadFault file (loads.NotKnowledge at)
IsNextFault i at fronts.NotCanonical = (file : List ℕ) → IsFileOf i file → IsLoadFault file (loads.NotCanonical at)
IsNextFault i at fronts.Unfinished =
    i.ended ≡ true → (file : List ℕ) → IsFileOf i file → IsLoadFault file (loads.NotKnowledge at)
IsNextFault i at fronts.Memory = ⊤

-- after a source read: octets are needed, the input has a fault, or an element was read
abbrev pub AfterRead : List Fact → Input → Read → Source → Type 0
AfterRead merged i Need new = IsReadFrom merged i new × (i.ended ≡ false)
AfterRead merged i (Fault e) new = IsFaultOf i e
AfterRead merged i Element new = IsReadFrom merged i new

-- names that were read stay
abbrev pub KeepsNames : Source → Source → Type 0
KeepsNames old new = (old.names ≡ None → ⊥) → new.names ≡ old.names

-- a source before and after it read an element, or what was left if no memory was found
abbrev pub IsReadStep : {E : Type 0} → Source → Result Read E → Source → Type 0
IsReadStep old (Ok r) new =
    (merged : List Fact) (i : Input) → IsReadFrom merged i old → AfterRead merged i r new
IsReadStep old (Err e) new = (merged : List Fact) (i : Input) → IsReadFrom merged i old → IsReadFrom merged i new

-- the octets begin with the element of the fact, and the head is that of the fact
pub record IsNextHead (octets : List ℕ) (h : Head) (f : Fact) : Type 0 where
  pub head : IsHeadOf h f
  pub front : IsTakenFront saved_fact octets f (length h.element.items)

-- what is left to do for a source: two steps for an octet, one for a fact that waits, and one at last
abbrev pub left_of : Source → ℕ
left_of s = 2 * length s.octets.items + (if s.waiting then 1 else 0) + 1

-- no source has to read an element
abbrev pub AreSettled : List Source → Type 0
AreSettled sources = (k : ℕ) (d : Source) → k < length sources → IsWanting (slice_index_or sources k d) → ⊥

-- the number of a source that has to read an element
pub record IsWantingAt (sources : List Source) (k : ℕ) : Type 0 where
  pub among : k < length sources
  pub wanting : (d : Source) → IsWanting (slice_index_or sources k d)

-- there is an element, of other octets
abbrev pub IsOtherOption : {A : Type 0} → Option (Vec ℕ A) → List ℕ → Type 0
IsOtherOption None octets = ⊥
IsOtherOption (Some o) octets = o.items ≢ octets

-- the source has read other names than these
abbrev pub HasReadOthers : List (List ℕ) → Source → Type 0
HasReadOthers names s = IsOtherOption s.names (encoding saved_names names)

-- if the first source has read names, the second has read the same
abbrev pub HaveSameNames : Source → Source → Type 0
HaveSameNames s t = (names : List (List ℕ)) → HasReadNames names s → HasReadNames names t

-- if both sources have read names, the second has read others
abbrev pub HaveOtherNames : Source → Source → Type 0
HaveOtherNames s t =
    (names others : List (List ℕ)) → HasReadNames names s → HasReadNames others t → HasReadOthers names t

-- the sources before this one have the names of the first
abbrev pub AreSame : List Source → ℕ → Type 0
AreSame sources count = (k : ℕ) (d e : Source) → k < count → k < length sources
    → HaveSameNames (slice_index_or sources 0 d) (slice_index_or sources k e)

-- source `k` is the first that has read other names than source 0
pub record IsFirstSourceOfOtherNames (sources : List Source) (k : ℕ) : Type 0 where
  pub among : k < length sources
  pub before : AreSame sources k
  pub others : (d e : Source) → HaveOtherNames (slice_index_or sources 0 d) (slice_index_or sources k e)

-- each source whose last fact waits has the head of a fact
abbrev pub AreHeaded : List Source → Type 0
AreHeaded sources = (k : ℕ) (d : Source) → k < length sources → (slice_index_or sources k d).waiting ≡ true
    → (f : Fact) × HasHead (slice_index_or sources k d) f

-- no fact that waits in the second source is below that of the first
abbrev pub IsLeast : Source → Source → Type 0
IsLeast s t = (f g : Fact) → HasHead s f → HasHead t g → fact_cmp g f ≡ Less → ⊥

-- the last fact of this source waits, and no fact that waits before `count` is below it
pub record IsLeastAt (sources : List Source) (count k : ℕ) : Type 0 where
  pub among : k < length sources
  pub waits : (d : Source) → (slice_index_or sources k d).waiting ≡ true
  pub least : (j : ℕ) (d e : Source) → j < count → j < length sources
      → IsLeast (slice_index_or sources k d) (slice_index_or sources j e)

-- no fact waits before `count`
abbrev pub AreNoneWaiting : List Source → ℕ → Type 0
AreNoneWaiting sources count = (k : ℕ) (d : Source) → k < count → k < length sources
    → (slice_index_or sources k d).waiting ≡ false

-- the source with the least fact that waits before `count`
abbrev pub IsLeastOf : List Source → ℕ → Option ℕ → Type 0
IsLeastOf sources count None = AreNoneWaiting sources count
IsLeastOf sources count (Some k) = IsLeastAt sources count k
