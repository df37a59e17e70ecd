-- A message as its octets come: the list of its finished elements, and the places of its open ones.
use Rattle.std.specs.Prelude.{◌≡◌, ℕ, zero, suc, ◌⊎◌, ◌+◌, ◌<◌, ◌≤◌, true, false, Option, Some, None, IfSome, List, [], ◌∷◌, ◌++◌, length, take, drop}
use Rattle.zber.specs.declared.fault.HeaderPlace.{HeaderPlace}
use Rattle.zber.specs.declared.fault.FaultKind.TheVariants as kind
use Rattle.zber.specs.declared.scan.Finished.{Finished}
use Rattle.zber.specs.declared.scan.Finished.TheVariants.{Prim, Cons}
use Rattle.zber.specs.declared.scan.Window.{Window}
use Rattle.zber.specs.declared.scan.Open.{Open}
use Rattle.zber.specs.declared.scan.Reading.{Reading}
use Rattle.zber.specs.declared.scan.Reading.TheVariants.{Front, Head, End, Whole}
use Rattle.zber.specs.declared.scan.Scan.{Scan}
use Rattle.zber.specs.AsnTags.{AsnTag}
use Rattle.zber.specs.declared.front.Front.TheVariants.{Nothing}
use Rattle.zber.specs.Elements.{Element, forest, prim, cons, contents_in}
use Rattle.zber.specs.Spelling.{AreSpellings, IsMessage}
use Rattle.zber.specs.Headers.{Header}
use Rattle.zber.specs.Fronts.{IsHeaderFrontOf}
use Rattle.zber.specs.Paths.{start, after, IsOpening}

-- From the first elements, the list of finished elements makes the second ones. Contents are a range of the octets.
-- Children are all elements so far but the first `behind`.
pub data IsAssembly (xs : List ℕ) : List Element → List Finished → List Element → Type 0 where
  none : {es : List Element} → IsAssembly xs es [] es
  with_primitive : {n : _} {from size : ℕ} {es ds : List Element} {fs : List Finished}
      → from + size ≤ length xs → IsAssembly xs (es ++ prim n (take size (drop from xs)) ∷ []) fs ds
      → IsAssembly xs es (Prim n from size ∷ fs) ds
  with_constructed : {n : _} {behind : ℕ} {es ds : List Element} {fs : List Finished}
      → behind ≤ length es → IsAssembly xs (take behind es ++ cons n (drop behind es) ∷ []) fs ds
      → IsAssembly xs es (Cons n behind ∷ fs) ds

-- the window is that of the place, which is `at` octets from the start
pub record IsWindowOf (w : Window) (at : ℕ) (p : HeaderPlace) : Type 0 where
  pub end_is : w.end ≡ at + p.size
  pub past_is : w.past ≡ p.past
  pub marked_is : w.marked ≡ p.marked

-- Octets lead to a place, through the open elements. These elements are finished, and are within no finished element.
pub data Path (limit : ℕ) : List Open → List ℕ → List Element → HeaderPlace → Type 0 where
  top : Path limit [] [] [] (start limit)
  inside : {o : Open} {os : List Open} {xs h ys : List ℕ} {es fs : List Element} {p q : HeaderPlace}
      → Path limit os xs es p → IsWindowOf o.outer (length xs) p → o.behind ≡ length es
      → IsOpening p o.tag h q → AreSpellings q.room fs ys → length ys ≤ q.size
      → Path limit (os ++ o ∷ []) (xs ++ (h ++ ys)) (es ++ fs) (after q (length ys))

-- The scan is at this place, and these elements are finished.
pub record ScanPlace (limit : ℕ) (xs : List ℕ) (s : Scan) (es : List Element) (p : HeaderPlace) : Type 0 where
  pub within : s.at ≤ length xs
  pub path : Path limit s.opened.items (take s.at xs) es p
  pub window : IsWindowOf s.window s.at p
  pub assembled : IsAssembly (take s.at xs) [] s.finished.items es
  pub count : s.count ≡ length es
  pub contents : s.contents ≡ contents_in (forest es)

-- how many octets were read at the place
abbrev pub len_of : Reading → ℕ
len_of (Front front len) = len
len_of (Head n c size len) = len
len_of End = 2
len_of Whole = 0

-- these octets at the place are what was read
abbrev pub IsReadingOf : HeaderPlace → List ℕ → Reading → Type 0
IsReadingOf p hs (Front front len) = (len ≡ length hs) × IsHeaderFrontOf p.marked front hs × (len ≤ p.size)
IsReadingOf p hs (Head n c size len) =
    (len ≡ length hs)
    × Header n c size hs
    × (len ≤ p.size)
    × IfSome size (λ z. len + z ≤ p.size)
    × (c ≡ true → 0 < p.room)
IsReadingOf p hs End = (p.marked ≡ true) × (hs ≡ 0 ∷ 0 ∷ []) × (2 ≤ p.size)
IsReadingOf p hs Whole = ⊥

-- the scan has this whole message
pub record IsWhole (limit : ℕ) (xs : List ℕ) (s : Scan) (e : Element) : Type 0 where
  pub within : s.at ≤ length xs
  pub none_open : s.opened.items ≡ []
  pub message : IsMessage limit e (take s.at xs)
  pub assembled : IsAssembly (take s.at xs) [] s.finished.items (e ∷ [])
  pub contents : s.contents ≡ contents_in (forest (e ∷ []))

-- the message is not whole, and this was read of its next header or end
pub record IsGoing (limit : ℕ) (xs : List ℕ) (s : Scan) (r : Reading) : Type 0 where
  pub es : List Element
  pub place : HeaderPlace
  pub going : ScanPlace limit xs s es place
  pub looked : s.at + len_of r ≤ length xs
  pub reading : IsReadingOf place (take (len_of r) (drop s.at xs)) r

-- what was read after a finished element, if so many others are open
abbrev pub behind_reading : ℕ → Reading
behind_reading zero = Whole
behind_reading (suc n) = Front Nothing 0

-- the window inside an element that opens
abbrev pub inner_window : Window → ℕ → Option ℕ → Window
inner_window w at (Some size) = record { end = at + size; past = kind.Overrun; marked = false }
inner_window w at None = record { end = w.end; past = w.past; marked = true }

-- the scans are the same, apart from the capacity of their vectors
pub record SameScan (s t : Scan) : Type 0 where
  pub at : s.at ≡ t.at
  pub window : s.window ≡ t.window
  pub reading : s.reading ≡ t.reading
  pub opened : s.opened.items ≡ t.opened.items
  pub finished : s.finished.items ≡ t.finished.items
  pub count : s.count ≡ t.count
  pub contents : s.contents ≡ t.contents

-- before `pass`: a whole header is at the place, and its contents have come
pub record BeforePass (limit : ℕ) (xs : List ℕ) (s : Scan) (n : AsnTag) (len size : ℕ) : Type 0 where
  pub es : List Element
  pub place : HeaderPlace
  pub going : ScanPlace limit xs s es place
  pub header : Header n false (Some size) (take len (drop s.at xs))
  pub fits : len + size ≤ place.size
  pub come : s.at + len + size ≤ length xs

-- before `enter`: an element opens at the place
pub record BeforeEnter (limit : ℕ) (xs : List ℕ) (s : Scan) (n : AsnTag) (size : Option ℕ) (len : ℕ) : Type 0 where
  pub es : List Element
  pub place : HeaderPlace
  pub going : ScanPlace limit xs s es place
  pub header : Header n true size (take len (drop s.at xs))
  pub fits : IfSome size (λ z. len + z ≤ place.size)
  pub within : len ≤ place.size
  pub room : 0 < place.room
  pub come : s.at + len ≤ length xs

-- an element ends at the place, and its end has `len` octets: its length ends it, or the end-of-contents octets do
abbrev pub IsEndBySize : HeaderPlace → ℕ → Type 0
IsEndBySize p len = (len ≡ 0) × (p.marked ≡ false) × (p.size ≡ 0)

-- an element of indefinite length ends at the place: the next octets are 00 00, and lie within its bound (8.1.5)
abbrev pub IsEndByMark : HeaderPlace → ℕ → List ℕ → Type 0
IsEndByMark p len ys = (len ≡ 2) × (p.marked ≡ true) × (2 ≤ p.size) × (take 2 ys ≡ 0 ∷ 0 ∷ [])

-- before `close`: the innermost open element ends here, and its end has `len` octets
pub record BeforeClose (limit : ℕ) (xs : List ℕ) (s : Scan) (len : ℕ) : Type 0 where
  pub es : List Element
  pub place : HeaderPlace
  pub going : ScanPlace limit xs s es place
  pub some_open : 0 < length s.opened.items
  pub come : s.at + len ≤ length xs
  pub end_is : IsEndBySize place len ⊎ IsEndByMark place len (drop s.at xs)

-- the scan covers the octets, and has read this of the next header
abbrev pub IsScannedAs : ℕ → List ℕ → Scan → Reading → Type 0
IsScannedAs limit xs s (Front front len) = IsGoing limit xs s (Front front len)
IsScannedAs limit xs s (Head n c size len) = IsGoing limit xs s (Head n c size len)
IsScannedAs limit xs s End = IsGoing limit xs s End
IsScannedAs limit xs s Whole = (e : Element) × IsWhole limit xs s e

-- the scan is what looking at these octets made
abbrev pub IsScanned : ℕ → List ℕ → Scan → Type 0
IsScanned limit xs s = IsScannedAs limit xs s s.reading
