-- How many octets moves looked at, one after another.
use Rattle.std.proofs.Common.{◌≡◌, ℕ, ◌+◌, ◌<◌, ◌≤◌, ◌^◌, ◌-◌, min, arith, List, length, Option, None, ◌⊎◌, inl, inr, length-take-le}
use Rattle.std.proofs.lemmas.Bool.{cases_order}
use Rattle.zber.specs.declared.fault.FaultKind.{FaultKind}
use Rattle.zber.specs.declared.scan.Reading.TheVariants.{Front, Head, End, Whole}
use Rattle.zber.specs.Feeds.{IsCounted}
use Rattle.zber.proofs.ScanSteps.{path_contents, spells_contents}
use Rattle.zber.specs.declared.scan.Scan.{Scan}
use Rattle.zber.specs.declared.scan.Reading.{Reading}
use Rattle.zber.specs.Scans.{len_of, IsGoing, IsScanned, IsScannedAs}
use Rattle.zber.specs.Moves.{pos}
use Rattle.zber.specs.Counts.{IsRaisedBy, ScanCounts, CountsAtFault}

pub rose_one : (a b : ℕ) → b ≡ min (a + 1) (2 ^ 64 - 1) → IsRaisedBy 1 a b
rose_one a b e = record { most = omega (arith, e); least = λ l. omega (arith, e, l); fits = λ l. omega (arith, e); grown = λ l. omega (arith, e, l) }

rose_then : (m n a b c : ℕ) → IsRaisedBy m a b → IsRaisedBy n b c → IsRaisedBy (m + n) a c
rose_then m n a b c f g = record {
  most = omega (arith, f.most, g.most);
  least = λ l. (let p : b ≡ a + m = f.least (omega (arith, l)) in let q : c ≡ b + n = g.least (omega (arith, l, p)) in omega (arith, p, q));
  fits = λ l. g.fits (f.fits l);
  grown = λ l. (let p : a ≤ b = f.grown l in let q : b ≤ c = g.grown (f.fits l) in omega (arith, p, q));
}

pub counts_then : {s t u : Scan} {a b c : ℕ} → ScanCounts s t a b → ScanCounts t u b c → ScanCounts s u a c
counts_then {a = a} {b = b} {c = c} f g = record { n = f.n + g.n; looked = omega (arith, f.looked, g.looked); rose = rose_then f.n g.n a b c f.rose g.rose }

pub fault_then : {s t : Scan} {size a b c : ℕ} → ScanCounts s t a b → CountsAtFault size t b c → CountsAtFault size s a c
fault_then {a = a} {b = b} {c = c} f g = record { n = f.n + g.n; within = omega (arith, f.looked, g.within); rose = rose_then f.n g.n a b c f.rose g.rose }

pub counts_looked : (s : Scan) (r old : Reading) (a b : ℕ) → s.reading ≡ old → len_of r ≡ len_of old + 1 → b ≡ min (a + 1) (2 ^ 64 - 1) → ScanCounts s (record s { reading = r }) a b
counts_looked s r old a b e l q = record { n = 1; looked = rw (e, l) (omega arith); rose = rose_one a b q }

pub fault_looked : (size : ℕ) (s : Scan) (old : Reading) (a b : ℕ) → s.reading ≡ old → s.at + len_of old < size → b ≡ min (a + 1) (2 ^ 64 - 1) → CountsAtFault size s a b
fault_looked size s old a b e l q = record { n = 1; within = rw e (omega (arith, l)); rose = rose_one a b q }

-- where a scan stands, and its contents
going_pos : {limit : ℕ} {xs : List ℕ} {s : Scan} {r : Reading} → IsGoing limit xs s r → (s.at + len_of r ≤ length xs) × (s.contents ≤ s.at)
going_pos {xs = xs} {s = s} g = (g.looked, omega (arith, g.going.contents, path_contents g.going.path, length-take-le s.at xs g.going.within))

pos_by : (limit : ℕ) (xs : List ℕ) (s : Scan) (r : Reading) → IsScannedAs limit xs s r → (s.at + len_of r ≤ length xs) × (s.contents ≤ s.at)
pos_by limit xs s (Front f len) h = going_pos h
pos_by limit xs s (Head n c size len) h = going_pos h
pos_by limit xs s End h = going_pos h
pos_by limit xs s Whole h = (omega (arith, h.1.within), omega (arith, h.1.contents, spells_contents h.1.message.spelled, length-take-le s.at xs h.1.within))

pub holds_pos : (limit : ℕ) (xs : List ℕ) (s : Scan) → IsScanned limit xs s → (pos s ≤ length xs) × (s.contents ≤ s.at)
holds_pos limit xs s h = pos_by limit xs s s.reading h

pub counted_on : {size : ℕ} {s t : Scan} {fault : Option (FaultKind × ℕ)} {a b fed skipped : ℕ} → IsCounted size s fault a fed skipped → fault ≡ None → ScanCounts s t a b → (pos t ≤ size) × (t.contents ≤ t.at) → IsCounted size t fault b fed skipped
counted_on {size} {s} {t} {fault} {a} {b} {fed} {skipped} f none c p = record {
  fits = f.fits;
  most = by_room (cases_order fed (2 ^ 64 - 1));
  upper = λ n m. (let q = f.upper n m in omega (arith, q, c.looked, c.rose.most));
  lower = λ n m.
      (let q = f.lower n m in
      let u = f.upper n m in
      let e : b ≡ a + c.n = c.rose.least (omega (arith, u, c.looked, p.0, p.1, m)) in
      omega (arith, q, c.looked, e));
} where
  by_room : (fed ≡ 2 ^ 64 - 1) ⊎ ((fed < 2 ^ 64 - 1) ⊎ (2 ^ 64 - 1 < fed)) → b ≤ fed
  by_room (inl e) = let l : b < 2 ^ 64 = c.rose.fits (omega (arith, f.most, f.fits)) in omega (arith, l, e)
  by_room (inr (inl m)) = let u = f.upper none m in omega (arith, u, c.looked, c.rose.most, p.0)
  by_room (inr (inr m)) = omega (arith, f.fits, m)

pub counted_fed : (k : ℕ) {size more : ℕ} {s : Scan} {fault : Option (FaultKind × ℕ)} {a fed now skipped : ℕ} → IsCounted size s fault a fed skipped → more ≡ size + k → now ≡ min (fed + k) (2 ^ 64 - 1) → IsCounted more s fault a now skipped
counted_fed k f e q = record {
  fits = omega (arith, q);
  most = omega (arith, q, f.most, f.fits);
  upper = λ n m. (let u = f.upper n (omega (arith, q, m)) in omega (arith, u, q, e, m));
  lower = λ n m. (let u = f.lower n (omega (arith, q, m)) in omega (arith, u, q, e, m));
}

pub counted_given : {size rest : ℕ} {s t : Scan} {fault : Option (FaultKind × ℕ)} {a fed skipped now : ℕ} → IsCounted size s fault a fed skipped → size ≡ pos s + rest → pos t ≡ 0 → t.contents ≡ 0 → now ≡ min (skipped + s.contents) (2 ^ 64 - 1) → IsCounted rest t fault a fed now
counted_given f e p c q = record {
  fits = f.fits;
  most = f.most;
  upper = λ n m. (let u = f.upper n m in omega (arith, u, e, p, c));
  lower = λ n m. (let u = f.lower n m in omega (arith, u, e, p, c, q, f.fits));
}

pub counted_new : (s : Scan) (size : ℕ) → size ≡ 0 → pos s ≡ 0 → s.contents ≡ 0 → IsCounted size s None 0 0 0
counted_new s size e p c = record { fits = omega arith; most = omega arith; upper = λ n m. omega (arith, e, p, c); lower = λ n m. omega (arith, e, p, c) }

pub counted_least : {size : ℕ} {s : Scan} {fault : Option (FaultKind × ℕ)} {a fed skipped : ℕ} → IsCounted size s fault a fed skipped → s.contents ≤ s.at → fault ≡ None → fed < 2 ^ 64 - 1 → fed ≤ a + skipped + size
counted_least f p n m = let u = f.lower n m in omega (arith, u, p)

pub whole_pos : (s : Scan) → s.reading ≡ Whole → pos s ≡ s.at
whole_pos s e = rw e (omega arith)
