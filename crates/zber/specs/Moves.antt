-- What a step of the scan does, and what a scan finds.
use Rattle.std.specs.Prelude.{◌≡◌, ℕ, ◌+◌, ◌*◌, ◌-◌, ◌<◌, ◌≤◌, List, length}
use Rattle.zber.specs.declared.scan.Scan.{Scan}
use Rattle.zber.specs.declared.scan.Move.{Move}
use Rattle.zber.specs.declared.scan.Move.TheVariants.{On, Lack, Fault}
use Rattle.zber.specs.declared.scan.Reading.{Reading}
use Rattle.zber.specs.declared.scan.Reading.TheVariants.{Front, Head, End, Whole}
use Rattle.zber.specs.declared.scan.Found.{Found}
use Rattle.zber.specs.declared.scan.Found.TheVariants.{Message, Front as FoundFront, Fault as FoundFault}
use Rattle.zber.specs.Shown.{HasFault}
use Rattle.zber.specs.Unfinished.{IsUnfinished}
use Rattle.zber.specs.Scans.{IsScanned, len_of}

-- how many octets the scan has gone over
abbrev pub pos : Scan → ℕ
pos s = s.at + len_of s.reading

-- what is left to do with what was read
abbrev pub load : Reading → ℕ
load (Front front len) = 0
load (Head n c size len) = 2
load End = 2
load Whole = 0

-- what is left to do in `n` octets: it falls at each step
abbrev pub steps_left : ℕ → Scan → ℕ
steps_left n s = 3 * (n - pos s) + length s.opened.items + load s.reading

-- The scan is at the start of a header, or has the whole message. So many contents octets come before it, and so many
-- elements are open.
pub record HasPosition (s : Scan) (at contents opened : ℕ) : Type 0 where
  pub at_is : s.at ≡ at
  pub len : len_of s.reading ≡ 0
  pub light : load s.reading ≡ 0
  pub contents_are : s.contents ≡ contents
  pub open_are : length s.opened.items ≡ opened

-- after `look_on` the scan still covers the octets, and has no more left to do
pub record AfterLookOn (limit : ℕ) (xs : List ℕ) (old s : Scan) : Type 0 where
  pub holds : IsScanned limit xs s
  pub no_heavier : steps_left (length xs) s ≤ steps_left (length xs) old

-- after a step: the scan went on, it lacks octets, or the octets show a fault
abbrev pub AfterMove : ℕ → List ℕ → Scan → Scan → Move → Type 0
AfterMove limit xs old s On = IsScanned limit xs s × (steps_left (length xs) s < steps_left (length xs) old)
AfterMove limit xs old s Lack = (s ≡ old) × IsUnfinished limit xs
AfterMove limit xs old s (Fault k) = HasFault limit xs k s.at

-- after a scan: the message is whole, the octets are unfinished, or they show a fault
abbrev pub AfterScan : ℕ → List ℕ → Scan → Found → Type 0
AfterScan limit xs s Message = IsScanned limit xs s × (s.reading ≡ Whole)
AfterScan limit xs s FoundFront = IsScanned limit xs s × IsUnfinished limit xs
AfterScan limit xs s (FoundFault k) = HasFault limit xs k s.at
