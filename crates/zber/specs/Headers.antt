-- Headers (X.690, 8.1.2 and 8.1.3), and the faults in them.
use Rattle.std.specs.Prelude.{◌≡◌, ◌≢◌, ℕ, ◌+◌, ◌^◌, ◌<◌, ◌≤◌, ◌⊎◌, Bool, true, false, Option, Some, None, List, [], ◌∷◌, ◌++◌, length}
use Rattle.zber.specs.declared.tag.Class.{Class}
use Rattle.zber.specs.declared.fault.FaultKind.{FaultKind}
use Rattle.zber.specs.declared.fault.FaultKind.TheVariants as kind
use Rattle.zber.specs.declared.fault.HeaderPlace.{HeaderPlace}
use Rattle.zber.specs.AsnTags.{AsnTag}
use Rattle.zber.specs.Spelling.{groups_from, leading_octet, lead, Identifier, Length}

-- groups of seven bits before the last: each octet has the high bit
abbrev pub AreFrontGroups : List ℕ → Type 0
AreFrontGroups [] = Unit {0}
AreFrontGroups (x ∷ xs) = (128 ≤ x) × (x < 256) × AreFrontGroups xs

-- the first group of a tag number is idle, or is a number that belongs in the low five bits
abbrev pub IsBadGroupStart : List ℕ → Type 0
IsBadGroupStart [] = ⊥
IsBadGroupStart (x ∷ xs) = (x ≡ 128) ⊎ (x < 31)

-- a whole header, with a definite length or with the indefinite one
pub data Header : AsnTag → Bool → Option ℕ → List ℕ → Type 0 where
  of_size : {n : AsnTag} {c : Bool} {size : ℕ} {i l : List ℕ}
      → Identifier n c i → Length size l → Header n c (Some size) (i ++ l)
  of_mark : {n : AsnTag} {i : List ℕ} → Identifier n true i → Header n true None (i ++ (128 ∷ []))

-- The front of a header, with no fault yet. An octet 0 directly within an indefinite element may be half of its end.
pub data IsFront (marked : Bool) : List ℕ → Type 0 where
  nothing : IsFront marked []
  half_end : marked ≡ true → IsFront marked (0 ∷ [])
  groups : (class : Class) (c : Bool) (xs : List ℕ)
      → AreFrontGroups xs → leading_octet xs ≢ 128 → groups_from 0 xs < 2 ^ 32 → IsFront marked (lead class c 31 ∷ xs)
  no_length : {n : AsnTag} {c : Bool} {i : List ℕ} → Identifier n c i → IsFront marked i
  short_length : {n : AsnTag} {c : Bool} {i : List ℕ} (k : ℕ) (xs : List ℕ)
      → Identifier n c i → k ≤ 8 → length xs < k → IsFront marked (i ++ ((128 + k) ∷ xs))

-- the first fault of a header at the place, in the order of the tests
pub data HasHeaderFault (p : HeaderPlace) : List ℕ → FaultKind → Type 0 where
  tag_form : (class : Class) (c : Bool) (xs : List ℕ)
      → IsBadGroupStart xs → HasHeaderFault p (lead class c 31 ∷ xs) kind.TagForm
  tag_too_large : (class : Class) (c : Bool) (x : ℕ) (fronts xs : List ℕ)
      → AreFrontGroups fronts → leading_octet (fronts ++ x ∷ []) ≢ 128 → x < 256
      → 2 ^ 32 ≤ groups_from 0 (fronts ++ x ∷ [])
      → HasHeaderFault p (lead class c 31 ∷ (fronts ++ x ∷ xs)) kind.TagTooLarge
  stray_end : {xs : List ℕ} → p.marked ≡ false → HasHeaderFault p (0 ∷ xs) kind.StrayEnd
  half_stray_end : {x : ℕ} {xs : List ℕ} → p.marked ≡ true → x ≢ 0 → HasHeaderFault p (0 ∷ x ∷ xs) kind.StrayEnd
  constructed_end : {xs : List ℕ} → HasHeaderFault p (32 ∷ xs) kind.StrayEnd
  length_form : {n : AsnTag} {c : Bool} {i : List ℕ} (x : ℕ) (xs : List ℕ)
      → Identifier n c i → 136 < x → HasHeaderFault p (i ++ (x ∷ xs)) kind.LengthForm
  indefinite_primitive : {n : AsnTag} {i : List ℕ} (xs : List ℕ)
      → Identifier n false i → HasHeaderFault p (i ++ (128 ∷ xs)) kind.IndefinitePrimitive
  passes : {n : AsnTag} {c : Bool} {size : ℕ} {h : List ℕ} (xs : List ℕ)
      → Header n c (Some size) h → p.size < length h + size → HasHeaderFault p (h ++ xs) p.past
  ends : {xs : List ℕ} → IsFront p.marked xs → length xs ≡ p.size → HasHeaderFault p xs p.past
  too_deep : {n : AsnTag} {size : ℕ} {h : List ℕ} (xs : List ℕ)
      → Header n true (Some size) h → length h + size ≤ p.size → p.room ≡ 0 → HasHeaderFault p (h ++ xs) kind.TooDeep
  too_deep_marked : {n : AsnTag} {h : List ℕ} (xs : List ℕ)
      → Header n true None h → p.room ≡ 0 → HasHeaderFault p (h ++ xs) kind.TooDeep
