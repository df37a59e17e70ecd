-- From a place that is told along a path to one that is told from the outside in.
use Rattle.std.proofs.Common.{◌≡◌, ℕ, suc, ◌+◌, ◌-◌, ◌<◌, ◌≤◌, zero, subst, List, [], ◌∷◌, ◌++◌, length, take, refl, ap, ◌∙◌, arith, append_assoc, length-append}
use Rattle.zber.specs.declared.fault.HeaderPlace.{HeaderPlace}
use Rattle.zber.specs.declared.fault.FaultKind.{FaultKind}
use Rattle.zber.specs.AsnTags.{AsnTag}
use Rattle.zber.specs.Elements.{Element}
use Rattle.zber.specs.Spelling.{AreSpellings, none, more}
use Rattle.zber.specs.Paths.{start, after, IsOpening, definite, indefinite, IsPathTo, top, inside, IsHere}
use Rattle.zber.specs.Shown.{HasFault}
use Rattle.zber.proofs.Stopping.{Outcome, fault, behind, behind-behind, behind-zero, IsStopAt, at_fault, in_definite, in_indefinite, IsInnerStopAt, next, later}
use Rattle.zber.proofs.ElementLemmas.{head_some}

pub take_all : (n : ℕ) (xs : List ℕ) → length xs ≤ n → take n xs ≡ xs
take_all zero [] l = refl
take_all zero (x ∷ xs) l = absurd (omega arith)
take_all (suc n) [] l = refl
take_all (suc n) (x ∷ xs) l = ap (λ z. x ∷ z) (take_all n xs (omega arith))

pub take_behind : (n : ℕ) (xs ys : List ℕ) → length xs ≤ n → take n (xs ++ ys) ≡ xs ++ take (n - length xs) ys
take_behind n [] ys l = ap (λ k. take k ys) (omega arith)
take_behind zero (x ∷ xs) ys l = absurd (omega arith)
take_behind (suc n) (x ∷ xs) ys l = let e : suc n - suc (length xs) ≡ n - length xs = omega arith in rw e (ap (λ z. x ∷ z) (take_behind n xs ys (omega arith)))

pub take_take : (m n : ℕ) (xs : List ℕ) → m ≤ n → take m (take n xs) ≡ take m xs
take_take zero n xs l = refl
take_take (suc m) zero xs l = absurd (omega arith)
take_take (suc m) (suc n) [] l = refl
take_take (suc m) (suc n) (x ∷ xs) l = ap (λ z. x ∷ z) (take_take m n xs (omega arith))

abbrev with_size : HeaderPlace → ℕ → HeaderPlace
with_size p n = record { size = n; past = p.past; marked = p.marked; room = p.room }

same_place : (p : HeaderPlace) (a b : ℕ) → a ≡ b → with_size p a ≡ with_size p b
same_place p a b e = ap (with_size p) e

after_zero : (p : HeaderPlace) → after p 0 ≡ p
after_zero p = same_place p (p.size - 0) p.size (omega arith)

-- behind whole elements
pub behind_all : {es : List Element} {ys : List ℕ} (p : HeaderPlace) (zs : List ℕ) (o : Outcome) → AreSpellings p.room es ys → length ys ≤ p.size → IsInnerStopAt (after p (length ys)) zs o → IsInnerStopAt p (ys ++ zs) (behind (length ys) o)
behind_all p zs o none l s = rw behind-zero (subst (λ q. IsInnerStopAt q zs o) (after_zero p) s)
behind_all p zs o (more {xs = xs} {ys = ys} f fs) l s =
    let len : length (xs ++ ys) ≡ length xs + length ys = length-append xs ys in
    let place : after p (length (xs ++ ys)) ≡ after (after p (length xs)) (length ys) = same_place p (p.size - length (xs ++ ys)) ((p.size - length xs) - length ys) (omega (arith, len)) in
    let inner : IsInnerStopAt (after p (length xs)) (ys ++ zs) (behind (length ys) o) = behind_all (after p (length xs)) zs o fs (omega (arith, l, len)) (subst (λ q. IsInnerStopAt q zs o) place s) in
    let whole : IsInnerStopAt p (xs ++ (ys ++ zs)) (behind (length xs) (behind (length ys) o)) = later f (omega (arith, l, len)) inner in
    rw (append_assoc xs ys zs, len, ← behind-behind (length xs) (length ys) o) whole

-- one element further out
outwards : {p : HeaderPlace} {n : AsnTag} {h : List ℕ} {q : HeaderPlace} (us : List ℕ) (o : Outcome) → IsOpening p n h q → IsInnerStopAt q (take q.size us) o → IsStopAt p (take p.size (h ++ us)) (behind (length h) o)
outwards {p} us o (definite {size = size} {h = h} head fits room) s =
    let same : take size (take (p.size - length h) us) ≡ take size us = take_take size (p.size - length h) us (omega (arith, fits)) in
    rw (take_behind p.size h us (omega (arith, fits))) (in_definite {o = o} (take (p.size - length h) us) head fits room (rw same s))
outwards {p} us o (indefinite {h = h} head fits room) s =
    rw (take_behind p.size h us fits) (in_indefinite {o = o} head room s)

pub opens_some : {p : HeaderPlace} {n : AsnTag} {h : List ℕ} {q : HeaderPlace} → IsOpening p n h q → 0 < length h
opens_some (definite head fits room) = head_some head
opens_some (indefinite head fits room) = head_some head

open_here : {p : HeaderPlace} {n : AsnTag} {h : List ℕ} {q : HeaderPlace} → IsOpening p n h q → IsHere p
open_here (definite head fits room) m = omega (arith, head_some head, fits)
open_here (indefinite head fits room) m = omega (arith, head_some head, fits)

-- from the place to the front of the message
pub from_front : {limit : ℕ} {xs : List ℕ} {p : HeaderPlace} (zs : List ℕ) (o : Outcome) → IsPathTo limit xs p → IsStopAt p (take p.size zs) o → (0 < length xs → IsHere p) → IsStopAt (start limit) (take limit (xs ++ zs)) (behind (length xs) o)
from_front zs o top s h = rw behind-zero s
from_front {limit} zs o (inside {p = p} {q = q} {xs = xs} {h = h} {ys = ys} r opens all fits) s here =
    let some : 0 < length (xs ++ (h ++ ys)) = omega (arith, length-append xs (h ++ ys), length-append h ys, opens_some opens) in
    let in_rest : IsInnerStopAt q (ys ++ take (q.size - length ys) zs) (behind (length ys) o) = behind_all q (take (q.size - length ys) zs) o all fits (next (here some) s) in
    let in_window : IsInnerStopAt q (take q.size (ys ++ zs)) (behind (length ys) o) = rw (take_behind q.size ys zs fits) in_rest in
    let out : IsStopAt p (take p.size (h ++ (ys ++ zs))) (behind (length h) (behind (length ys) o)) = outwards (ys ++ zs) (behind (length ys) o) opens in_window in
    let there = from_front (h ++ (ys ++ zs)) (behind (length h) (behind (length ys) o)) r out (λ _. open_here opens) in
    let octets : (xs ++ (h ++ ys)) ++ zs ≡ xs ++ (h ++ (ys ++ zs)) = append_assoc xs (h ++ ys) zs ∙ ap (λ z. xs ++ z) (append_assoc h ys zs) in
    let far : behind (length xs) (behind (length h) (behind (length ys) o)) ≡ behind (length (xs ++ (h ++ ys))) o = ap (behind (length xs)) (behind-behind (length h) (length ys) o) ∙ behind-behind (length xs) (length h + length ys) o ∙ ap (λ z. behind z o) (omega (arith, length-append xs (h ++ ys), length-append h ys)) in
    rw (octets, ← far) there

-- what octets show, they show from the front
pub shown_there : {limit : ℕ} {xs : List ℕ} {k : FaultKind} {at : ℕ} → HasFault limit xs k at → IsStopAt (start limit) (take limit xs) (fault k at)
shown_there {limit} {xs} {k} {at} s =
    let o : behind (length s.front) (fault k 0) ≡ fault k at = ap (fault k) (omega (arith, s.at_is)) in
    let stops : IsStopAt (start limit) (take limit (s.front ++ s.rest)) (behind (length s.front) (fault k 0)) = from_front s.rest (fault k 0) s.reached (at_fault s.shown) (λ l. s.here (λ e. absurd (omega (arith, l, s.at_is, e)))) in
    rw (← o, s.cut) stops
