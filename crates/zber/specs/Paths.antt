-- The places of headers in a message. One path leads to each, from the first octet.
use Rattle.std.specs.Prelude.{◌≡◌, ℕ, suc, ◌+◌, ◌-◌, ◌<◌, ◌≤◌, true, false, Some, None, List, [], ◌++◌, length}
use Rattle.zber.specs.declared.fault.FaultKind.TheVariants as kind
use Rattle.zber.specs.declared.fault.HeaderPlace.{HeaderPlace}
use Rattle.zber.specs.AsnTags.{AsnTag}
use Rattle.zber.specs.Elements.{Element}
use Rattle.zber.specs.Spelling.{AreSpellings, deepest}
use Rattle.zber.specs.Headers.{Header}

-- the place where a message begins
abbrev pub start : ℕ → HeaderPlace
start limit = record { size = limit; past = kind.TooLong; marked = false; room = deepest }

-- the first place inside an element that opens: of definite length, and of indefinite length after a header of `len`
-- octets
abbrev pub within_size : ℕ → ℕ → HeaderPlace
within_size size room = record { size = size; past = kind.Overrun; marked = false; room = room }

-- inside an element of indefinite length (8.1.3.6): the outer bound still holds, less the header's octets
abbrev pub within_mark : HeaderPlace → ℕ → ℕ → HeaderPlace
within_mark p len room = record { size = p.size - len; past = p.past; marked = true; room = room }

-- the place `n` octets further on in the same element
abbrev pub after : HeaderPlace → ℕ → HeaderPlace
after p n = record { size = p.size - n; past = p.past; marked = p.marked; room = p.room }

-- at the place, this lawful header opens an element, and the first place inside it is this one
pub data IsOpening (p : HeaderPlace) (n : AsnTag) : List ℕ → HeaderPlace → Type 0 where
  definite : {size room : ℕ} {h : List ℕ}
      → Header n true (Some size) h → length h + size ≤ p.size → p.room ≡ suc room
      → IsOpening p n h (within_size size room)
  indefinite : {room : ℕ} {h : List ℕ}
      → Header n true None h → length h ≤ p.size → p.room ≡ suc room → IsOpening p n h (within_mark p (length h) room)

-- The octets lead to the place. They are the headers of the open elements, each followed by the whole elements within
-- it so far.
pub data IsPathTo (limit : ℕ) : List ℕ → HeaderPlace → Type 0 where
  top : IsPathTo limit [] (start limit)
  inside : {p q : HeaderPlace} {n : AsnTag} {es : List Element} {xs h ys : List ℕ}
      → IsPathTo limit xs p → IsOpening p n h q → AreSpellings q.room es ys → length ys ≤ q.size
      → IsPathTo limit (xs ++ (h ++ ys)) (after q (length ys))

-- there can be a header at the place: its element is not at its end
abbrev pub IsHere : HeaderPlace → Type 0
IsHere p = p.marked ≡ false → 0 < p.size
