-- What the front of a header means, and what one more octet makes of it.
use Rattle.std.specs.Prelude.{◌≡◌, ◌≢◌, ℕ, ◌+◌, ◌^◌, ◌<◌, ◌≤◌, Bool, true, List, [], ◌∷◌, ◌++◌, length}
use Rattle.zber.specs.declared.fault.HeaderPlace.{HeaderPlace}
use Rattle.zber.specs.declared.front.Front.{Front}
use Rattle.zber.specs.declared.front.Front.TheVariants.{Nothing, HalfEnd, Groups, NoLength, SizeOctets}
use Rattle.zber.specs.declared.front.Step.{Step}
use Rattle.zber.specs.declared.front.Step.TheVariants.{On, End, Whole, Bad}
use Rattle.zber.specs.Spelling.{groups_from, leading_octet, lead, octets_from, Identifier}
use Rattle.zber.specs.Headers.{AreFrontGroups, Header, HasHeaderFault}

-- the groups so far form the number, and more follow
pub record GroupsFront (xs : List ℕ) (number : ℕ) : Type 0 where
  pub go_on : AreFrontGroups xs
  pub shortest : leading_octet xs ≢ 128
  pub value : number ≡ groups_from 0 xs
  pub fits : number < 2 ^ 32
  pub some : 0 < length xs → 0 < number

-- the number fits `k` octets
abbrev pub IsOfOctets : ℕ → ℕ → Type 0
IsOfOctets n k = n < 256 ^ k

-- the octets of a length so far form this number, and `left` more are to come
pub record SizeFront (xs : List ℕ) (left size : ℕ) : Type 0 where
  pub some : 0 < left
  pub few : length xs + left ≤ 8
  pub value : size ≡ octets_from 0 xs
  pub below : IsOfOctets size (length xs)

-- the octets are the front of a header that is not whole, as `Front` describes it
abbrev pub IsHeaderFrontOf : Bool → Front → List ℕ → Type 0
IsHeaderFrontOf marked Nothing xs = xs ≡ []
IsHeaderFrontOf marked HalfEnd xs = (marked ≡ true) × (xs ≡ 0 ∷ [])
IsHeaderFrontOf marked (Groups class c number) xs = (gs : List ℕ) × (xs ≡ lead class c 31 ∷ gs) × GroupsFront gs number
IsHeaderFrontOf marked (NoLength n c) xs = Identifier n c xs
IsHeaderFrontOf marked (SizeOctets n c left size) xs =
    (i gs : List ℕ) × Identifier n c i × (xs ≡ i ++ (128 + (length gs + left)) ∷ gs) × SizeFront gs left size

-- The octets are a front, a whole header, or the end of an element of indefinite length. Or they show a fault, whatever
-- follows.
abbrev pub IsStepOf : Bool → List ℕ → Step → Type 0
IsStepOf marked xs (On front) = IsHeaderFrontOf marked front xs
IsStepOf marked xs End = (marked ≡ true) × (xs ≡ 0 ∷ 0 ∷ [])
IsStepOf marked xs (Whole n c size) = Header n c size xs
IsStepOf marked xs (Bad k) = (p : HeaderPlace) (rest : List ℕ) → p.marked ≡ marked → HasHeaderFault p (xs ++ rest) k
