-- Octets that spell no whole element stop: at a fault, or for want of octets.
use Rattle.std.proofs.Common.{◌≡◌, ℕ, suc, ◌+◌, ◌<◌, ◌≤◌, true, false, Some, None, List, ◌++◌, length, take, refl, ap, arith}
use Rattle.zber.specs.declared.fault.FaultKind.{FaultKind}
use Rattle.zber.specs.declared.fault.HeaderPlace.{HeaderPlace}
use Rattle.zber.specs.AsnTags.{AsnTag}
use Rattle.zber.specs.Elements.{Element}
use Rattle.zber.specs.Spelling.{IsSpelling}
use Rattle.zber.specs.Headers.{IsFront, Header, HasHeaderFault}
use Rattle.zber.specs.Paths.{within_size, within_mark, after, IsHere}

pub data Outcome : Type 0 where
  fault : FaultKind → ℕ → Outcome
  lack : Outcome

-- the same, behind so many octets
abbrev pub behind : ℕ → Outcome → Outcome
behind n (fault k at) = fault k (n + at)
behind n lack = lack

pub behind-behind : (a b : ℕ) (o : Outcome) → behind a (behind b o) ≡ behind (a + b) o
behind-behind a b (fault k at) = ap (fault k) (omega arith)
behind-behind a b lack = refl

pub behind-zero : (o : Outcome) → behind 0 o ≡ o
behind-zero (fault k at) = ap (fault k) (omega arith)
behind-zero lack = refl

-- Octets that begin at a header stop: in the header, in primitive contents, or inside, behind whole elements.
mutual
  pub data IsStopAt : HeaderPlace → List ℕ → Outcome → Type 0 where
    at_fault : {p : HeaderPlace} {xs : List ℕ} {k : FaultKind} → HasHeaderFault p xs k → IsStopAt p xs (fault k 0)
    at_front : {p : HeaderPlace} {xs : List ℕ} → IsFront p.marked xs → length xs < p.size → IsStopAt p xs lack
    in_octets : {p : HeaderPlace} {n : AsnTag} {size : ℕ} {h : List ℕ} (xs : List ℕ) → Header n false (Some size) h → length h + size ≤ p.size → length xs < size → IsStopAt p (h ++ xs) lack
    in_definite : {p : HeaderPlace} {n : AsnTag} {size room : ℕ} {h : List ℕ} {o : Outcome} (xs : List ℕ) → Header n true (Some size) h → length h + size ≤ p.size → p.room ≡ suc room
        → IsInnerStopAt (within_size size room) (take size xs) o → IsStopAt p (h ++ xs) (behind (length h) o)
    in_indefinite : {p : HeaderPlace} {n : AsnTag} {room : ℕ} {h xs : List ℕ} {o : Outcome} → Header n true None h → p.room ≡ suc room
        → IsInnerStopAt (within_mark p (length h) room) xs o → IsStopAt p (h ++ xs) (behind (length h) o)

  pub data IsInnerStopAt : HeaderPlace → List ℕ → Outcome → Type 0 where
    next : {p : HeaderPlace} {xs : List ℕ} {o : Outcome} → IsHere p → IsStopAt p xs o → IsInnerStopAt p xs o
    later : {p : HeaderPlace} {e : Element} {xs ys : List ℕ} {o : Outcome} → IsSpelling p.room e xs → length xs ≤ p.size → IsInnerStopAt (after p (length xs)) ys o → IsInnerStopAt p (xs ++ ys) (behind (length xs) o)
