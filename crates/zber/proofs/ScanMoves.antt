-- What a scan's state says of the octets.
use Rattle.std.proofs.Common.{◌≡◌, ℕ, suc, ◌+◌, ◌-◌, ◌<◌, ◌≤◌, Bool, true, false, inl, inr, zero, subst, List, [], ◌∷◌, ◌++◌, length, take, drop, get_or, refl, sym, ap, ◌∙◌, arith, length-append, length-drop, Option, Some, Result, Ok, Err, OnErr}
use Rattle.std.proofs.lemmas.List.{take-append-drop, length-take-le, take_more, get_or-drop}
use Rattle.zber.specs.declared.fault.HeaderPlace.{HeaderPlace}
use Rattle.zber.specs.declared.fault.FaultKind.{FaultKind}
use Rattle.zber.specs.declared.front.Front.{Front}
use Rattle.zber.specs.declared.front.Front.TheVariants.{Nothing, HalfEnd, Groups, NoLength, SizeOctets}
use Rattle.zber.specs.declared.scan.Reading.{Reading}
use Rattle.zber.specs.declared.scan.Reading.TheVariants.{Front as AtFront, Head, End, Whole}
use Rattle.zber.specs.declared.scan.Scan.{Scan}
use Rattle.zber.specs.AsnTags.{AsnTag}
use Rattle.zber.specs.Elements.{Element}
use Rattle.zber.specs.Headers.{Header, IsFront, nothing, half_end, groups, no_length, short_length, HasHeaderFault, ends}
use Rattle.zber.specs.Shown.{HasFault}
use Rattle.zber.specs.Unfinished.{IsUnfinished}
use Rattle.zber.specs.Fronts.{IsHeaderFrontOf}
use Rattle.zber.specs.Paths.{start, IsHere}
use Rattle.zber.specs.Scans.{ScanPlace, IsGoing, IsScanned, IsScannedAs, IsReadingOf, len_of, behind_reading, BeforePass, BeforeEnter, BeforeClose, IsWhole, SameScan}
use Rattle.zber.specs.Moves.{load, steps_left, HasPosition}
use Rattle.zber.proofs.ElementLemmas.{head_some, differ}
use Rattle.zber.proofs.Stopping.{IsStopAt, at_front, in_octets, lack}
use Rattle.zber.proofs.PathLemmas.{take_all, take_behind, from_front}
use Rattle.zber.proofs.OneOutcome.{unfinished}
use Rattle.zber.proofs.ScanLemmas.{path_reached, path_none}

pub front_is : (m : Bool) (f : Front) (xs : List ℕ) → IsHeaderFrontOf m f xs → IsFront m xs
front_is m Nothing xs e = rw e nothing
front_is m HalfEnd xs f = rw f.1 (half_end f.0)
front_is m (Groups class c number) xs (gs, e, f) = rw e (groups class c gs f.go_on f.shortest (omega (arith, f.fits, f.value)))
front_is m (NoLength n c) xs f = no_length f
front_is m (SizeOctets n c left size) xs (i, gs, id, e, f) = rw e (short_length (length gs + left) gs id (omega (arith, f.few)) (omega (arith, f.some)))

-- what the octets behind the place show or lack is so from the front
module _ {limit : ℕ} {xs : List ℕ} {s : Scan} {es : List Element} {p : HeaderPlace} (g : ScanPlace limit xs s es p) where
  front_len : length (take s.at xs) ≡ s.at
  front_len = length-take-le s.at xs g.within

  pub lacks : IsStopAt p (take p.size (drop s.at xs)) lack → IsHere p → IsUnfinished limit xs
  lacks stops here = unfinished limit xs (subst (λ z. IsStopAt (start limit) (take limit z) lack) (take-append-drop s.at xs) (from_front (drop s.at xs) lack (path_reached g.path) stops (λ l. here)))

  pub shows : (k : FaultKind) → HasHeaderFault p (take p.size (drop s.at xs)) k → (0 < s.at → IsHere p) → 0 < length xs → HasFault limit xs k s.at
  shows k shown here some = record {
    front = take s.at xs;
    rest = drop s.at xs;
    place = p;
    some = some;
    cut = sym (take-append-drop s.at xs);
    at_is = sym front_len;
    reached = path_reached g.path;
    here = λ n. here (pos s.at n);
    shown = shown;
  } where
    pos : (n : ℕ) → (n ≡ 0 → ⊥) → 0 < n
    pos n f = omega (arith, f)

  pub is_nested : 0 < s.at → 0 < length s.opened.items
  is_nested l = by_open s.opened.items refl where
    by_open : (os : _) → s.opened.items ≡ os → 0 < length os
    by_open [] q = absurd (omega (arith, front_len, ap length (path_none g.path q).0, l))
    by_open (o ∷ os) q = omega arith

  pub marked_nested : p.marked ≡ true → 0 < length s.opened.items
  marked_nested m = by_open s.opened.items refl where
    by_open : (os : _) → s.opened.items ≡ os → 0 < length os
    by_open [] q = absurd (differ (sym (ap (λ z. z.marked) (path_none g.path q).2) ∙ m))
    by_open (o ∷ os) q = omega arith

pub head_enter : {limit : ℕ} {xs : List ℕ} {s : Scan} {n : AsnTag} {c : Bool} {size : Option ℕ} {len : ℕ} → IsGoing limit xs s (Head n c size len) → c ≡ true → BeforeEnter limit xs s n size len
head_enter {xs = xs} {s = s} {n = n} {size = size} {len = len} g e = record {
  es = g.es;
  place = g.place;
  going = g.going;
  header = subst (λ z. Header n z size (take len (drop s.at xs))) e g.reading.1;
  fits = g.reading.3;
  within = g.reading.2;
  room = g.reading.4 e;
  come = g.looked;
}

pub head_pass : {limit : ℕ} {xs : List ℕ} {s : Scan} {n : AsnTag} {c : Bool} {size len : ℕ} → IsGoing limit xs s (Head n c (Some size) len) → c ≡ false → size ≤ length xs - s.at - len → BeforePass limit xs s n len size
head_pass {xs = xs} {s = s} {n = n} {size = size} {len = len} g e l = record {
  es = g.es;
  place = g.place;
  going = g.going;
  header = subst (λ z. Header n z (Some size) (take len (drop s.at xs))) e g.reading.1;
  fits = g.reading.3;
  come = omega (arith, l, g.looked);
}

pub head_lack : {limit : ℕ} {xs : List ℕ} {s : Scan} {n : AsnTag} {c : Bool} {size len : ℕ} → IsGoing limit xs s (Head n c (Some size) len) → c ≡ false → length xs - s.at - len < size → IsUnfinished limit xs
head_lack {limit} {xs} {s} {n} {c} {size} {len} g e l =
    let rest : List ℕ = drop s.at xs in
    let rest_len : length rest ≡ length xs - s.at = length-drop s.at xs in
    let head : Header n false (Some size) (take len rest) = subst (λ z. Header n z (Some size) (take len rest)) e g.reading.1 in
    let head_len : length (take len rest) ≡ len = sym g.reading.0 in
    let all : take g.place.size rest ≡ take len rest ++ drop len rest = take_all g.place.size rest (omega (arith, rest_len, l, g.reading.3)) ∙ sym (take-append-drop len rest) in
    let stops : IsStopAt g.place (take len rest ++ drop len rest) lack = in_octets (drop len rest) head (omega (arith, head_len, g.reading.3)) (omega (arith, l, length-drop len rest, rest_len)) in
    lacks g.going (rw all stops) (λ m. omega (arith, head_some head, head_len, g.reading.2))

pub front_lack : {limit : ℕ} {xs : List ℕ} {s : Scan} {f : Front} {len : ℕ} → (g : IsGoing limit xs s (AtFront f len)) → length xs - s.at ≡ len → (len ≡ g.place.size → ⊥) → IsUnfinished limit xs
front_lack {limit} {xs} {s} {f} {len} g l n =
    let rest : List ℕ = drop s.at xs in
    let rest_len : length rest ≡ len = length-drop s.at xs ∙ l in
    let all : take g.place.size rest ≡ take len rest = take_all g.place.size rest (omega (arith, rest_len, g.reading.2)) ∙ sym (take_all len rest (omega (arith, rest_len))) in
    lacks g.going (rw all (at_front {p = g.place} (front_is g.place.marked f (take len rest) g.reading.1) (omega (arith, g.reading.0, g.reading.2, n)))) (λ m. omega (arith, g.reading.2, n))

pub front_close : {limit : ℕ} {xs : List ℕ} {s : Scan} {f : Front} {len : ℕ} → (g : IsGoing limit xs s (AtFront f len)) → len ≡ 0 → g.place.marked ≡ false → g.place.size ≡ 0 → 0 < length s.opened.items → BeforeClose limit xs s 0
front_close g e m z o = record { es = g.es; place = g.place; going = g.going; some_open = o; come = omega (arith, g.looked); end_is = inl (refl, m, z) }

pub front_ends : {limit : ℕ} {xs : List ℕ} {s : Scan} {f : Front} {len : ℕ} → (g : IsGoing limit xs s (AtFront f len)) → len ≡ g.place.size → ((len ≡ 0) × (g.place.marked ≡ false) × (g.place.size ≡ 0) × (0 < length s.opened.items) → ⊥) → 0 < length xs → HasFault limit xs g.place.past s.at
front_ends {xs = xs} {s = s} {f = f} {len = len} g e n some =
    let octets : take g.place.size (drop s.at xs) ≡ take len (drop s.at xs) = ap (λ k. take k (drop s.at xs)) (sym e) in
    shows g.going g.place.past (rw octets (ends (front_is g.place.marked f (take len (drop s.at xs)) g.reading.1) (sym g.reading.0 ∙ e))) (λ l m. pos (λ z. n (e ∙ z, m, z, is_nested g.going l))) some where
      pos : {k : ℕ} → (k ≡ 0 → ⊥) → 0 < k
      pos h = omega (arith, h)

pub end_close : {limit : ℕ} {xs : List ℕ} {s : Scan} → IsGoing limit xs s End → BeforeClose limit xs s 2
end_close g = record { es = g.es; place = g.place; going = g.going; some_open = marked_nested g.going g.reading.0; come = g.looked; end_is = inr (refl, g.reading.0, g.reading.2, g.reading.1) }

-- a move leaves less to do
pub len_behind : (n : ℕ) (r : Reading) → r ≡ behind_reading n → len_of r ≡ 0
len_behind zero r e = rw e refl
len_behind (suc n) r e = rw e refl

pub load_behind : (n : ℕ) (r : Reading) → r ≡ behind_reading n → load r ≡ 0
load_behind zero r e = rw e refl
load_behind (suc n) r e = rw e refl

pub less : (n : ℕ) (s t : Scan) (at contents opened len : ℕ) (r : Reading) → s.reading ≡ r → load r ≡ 2 → HasPosition t at contents opened → s.at + len_of r ≤ at → opened ≤ length s.opened.items + 1 → steps_left n t < steps_left n s
less n s t at contents opened len r e l f p q = rw (e, l, f.light, f.len, f.at_is, f.open_are) (omega (arith, p, q))

pub less_closed : (n : ℕ) (s t : Scan) (at contents opened : ℕ) (r : Reading) → s.reading ≡ r → len_of r ≡ 0 → HasPosition t at contents opened → at ≡ s.at → opened < length s.opened.items → steps_left n t < steps_left n s
less_closed n s t at contents opened r e l f p q = rw (e, l, f.light, f.len, f.at_is, f.open_are, p) (omega (arith, q))

pub less_looked : (n : ℕ) (s : Scan) (r old : Reading) → s.reading ≡ old → s.at + len_of old < n → len_of r ≡ len_of old + 1 → steps_left n (record s { reading = r }) < steps_left n s
less_looked n s r old e l q = rw (e, q) (omega (arith, l, heavy r)) where
  heavy : (r : Reading) → load r ≤ 2
  heavy (AtFront f len) = omega arith
  heavy (Head m c size len) = omega arith
  heavy End = omega arith
  heavy Whole = omega arith

-- one octet more
pub one_more : (xs : List ℕ) (at len x : ℕ) → at + len < length xs → x ≡ get_or xs (at + len) 0 → take (len + 1) (drop at xs) ≡ take len (drop at xs) ++ x ∷ []
one_more xs at len x l e = take_more (drop at xs) len 0 (omega (arith, l, length-drop at xs)) ∙ ap (λ z. take len (drop at xs) ++ z ∷ []) (get_or-drop at xs len 0 ∙ sym e)

pub reading_len : (p : HeaderPlace) (hs : List ℕ) (r : Reading) → IsReadingOf p hs r → len_of r ≡ length hs
reading_len p hs (AtFront f len) g = g.0
reading_len p hs (Head n c size len) g = g.0
reading_len p hs End g = sym (ap length g.1)
reading_len p hs Whole g = absurd g

going_on : {limit : ℕ} {xs : List ℕ} {s : Scan} {es : List Element} {p : HeaderPlace} → ScanPlace limit xs s es p → (r : Reading) (hs : List ℕ) → hs ≡ take (length hs) (drop s.at xs) → s.at + length hs ≤ length xs → IsReadingOf p hs r → IsGoing limit xs s r
going_on {xs = xs} {s = s} {es = es} {p = p} g r hs e l f =
    let len = reading_len p hs r f in
    record { es = es; place = p; going = g; looked = omega (arith, len, l); reading = subst (λ z. IsReadingOf p z r) (e ∙ ap (λ k. take k (drop s.at xs)) (sym len)) f }

same_going : {limit : ℕ} {xs : List ℕ} {s : Scan} {es : List Element} {p : HeaderPlace} (r : Reading) → ScanPlace limit xs s es p → ScanPlace limit xs (record s { reading = r }) es p
same_going r g = record { within = g.within; path = g.path; window = g.window; assembled = g.assembled; count = g.count; contents = g.contents }

holds_by : (limit : ℕ) (xs : List ℕ) (s : Scan) (p : HeaderPlace) (hs : List ℕ) (r : Reading) → IsReadingOf p hs r → IsGoing limit xs s r → IsScannedAs limit xs s r
holds_by limit xs s p hs (AtFront f len) q g = g
holds_by limit xs s p hs (Head n c size len) q g = g
holds_by limit xs s p hs End q g = g
holds_by limit xs s p hs Whole q g = absurd q

pub looked_on : {limit : ℕ} {xs : List ℕ} {s : Scan} {f : Front} {len : ℕ} → (g : IsGoing limit xs s (AtFront f len)) → (x : ℕ) (r : Reading) → s.at + len < length xs → x ≡ get_or xs (s.at + len) 0
    → ((hs : List ℕ) → IsHeaderFrontOf g.place.marked f hs → len ≡ length hs → IsReadingOf g.place (hs ++ x ∷ []) r) → IsScanned limit xs (record s { reading = r })
looked_on {limit} {xs} {s} {f} {len} g x r l e h =
    let hs : List ℕ = take len (drop s.at xs) in
    let more : take (len + 1) (drop s.at xs) ≡ hs ++ x ∷ [] = one_more xs s.at len x l e in
    let size : length (hs ++ x ∷ []) ≡ len + 1 = omega (arith, length-append hs (x ∷ []), g.reading.0) in
    let found = h hs g.reading.1 g.reading.0 in
    holds_by limit xs (record s { reading = r }) g.place (hs ++ x ∷ []) r found
    (going_on (same_going r g.going) r (hs ++ x ∷ []) (sym more ∙ ap (λ k. take k (drop s.at xs)) (sym size)) (omega (arith, size, l)) found)

pub looked_len : {limit : ℕ} {xs : List ℕ} {s : Scan} {f : Front} {len : ℕ} → (g : IsGoing limit xs s (AtFront f len)) → (x : ℕ) (r : Reading)
    → ((hs : List ℕ) → IsHeaderFrontOf g.place.marked f hs → len ≡ length hs → IsReadingOf g.place (hs ++ x ∷ []) r) → len_of r ≡ len + 1
looked_len {xs = xs} {s = s} {len = len} g x r h =
    let hs : List ℕ = take len (drop s.at xs) in
    reading_len g.place (hs ++ x ∷ []) r (h hs g.reading.1 g.reading.0) ∙ length-append hs (x ∷ []) ∙ ap (λ k. k + 1) (sym g.reading.0)

pub looked_bad : {limit : ℕ} {xs : List ℕ} {s : Scan} {f : Front} {len : ℕ} → (g : IsGoing limit xs s (AtFront f len)) → (x : ℕ) (k : FaultKind) → s.at + len < length xs → x ≡ get_or xs (s.at + len) 0 → (len ≡ g.place.size → ⊥)
    → ((hs rest : List ℕ) → IsHeaderFrontOf g.place.marked f hs → len ≡ length hs → HasHeaderFault g.place ((hs ++ x ∷ []) ++ rest) k) → HasFault limit xs k s.at
looked_bad {limit} {xs} {s} {f} {len} g x k l e n h =
    let rest : List ℕ = drop s.at xs in
    let hs : List ℕ = take len rest in
    let more : take (len + 1) rest ≡ hs ++ x ∷ [] = one_more xs s.at len x l e in
    let size : length (hs ++ x ∷ []) ≡ len + 1 = omega (arith, length-append hs (x ∷ []), g.reading.0) in
    let cut : rest ≡ (hs ++ x ∷ []) ++ drop (len + 1) rest = sym (take-append-drop (len + 1) rest) ∙ ap (λ z. z ++ drop (len + 1) rest) more in
    let window : take g.place.size rest ≡ (hs ++ x ∷ []) ++ take (g.place.size - length (hs ++ x ∷ [])) (drop (len + 1) rest) = ap (take g.place.size) cut ∙ take_behind g.place.size (hs ++ x ∷ []) (drop (len + 1) rest) (omega (arith, size, g.reading.2, n)) in
    shows g.going k (rw window (h hs (take (g.place.size - length (hs ++ x ∷ [])) (drop (len + 1) rest)) g.reading.1 g.reading.0)) (λ l' m. omega (arith, g.reading.2, n)) (omega (arith, l))

pub going_same : {limit : ℕ} {xs : List ℕ} {s t : Scan} {es : List Element} {p : HeaderPlace} → SameScan s t → ScanPlace limit xs s es p → ScanPlace limit xs t es p
going_same f g = record {
  within = rw (← f.at) g.within;
  path = rw (← f.at, ← f.opened) g.path;
  window = rw (← f.at, ← f.window) g.window;
  assembled = rw (← f.at, ← f.finished) g.assembled;
  count = rw (← f.count) g.count;
  contents = rw (← f.contents) g.contents;
}

is_going_same : {limit : ℕ} {xs : List ℕ} {s t : Scan} {r : Reading} → SameScan s t → IsGoing limit xs s r → IsGoing limit xs t r
is_going_same f g = record { es = g.es; place = g.place; going = going_same f g.going; looked = rw (← f.at) g.looked; reading = rw (← f.at) g.reading }

whole_same : {limit : ℕ} {xs : List ℕ} {s t : Scan} {e : Element} → SameScan s t → IsWhole limit xs s e → IsWhole limit xs t e
whole_same f g = record { within = rw (← f.at) g.within; none_open = rw (← f.opened) g.none_open; message = rw (← f.at) g.message; assembled = rw (← f.at, ← f.finished) g.assembled; contents = rw (← f.contents) g.contents }

same_by : (limit : ℕ) (xs : List ℕ) (s t : Scan) (r : Reading) → SameScan s t → IsScannedAs limit xs s r → IsScannedAs limit xs t r
same_by limit xs s t (AtFront f len) e h = is_going_same e h
same_by limit xs s t (Head n c size len) e h = is_going_same e h
same_by limit xs s t End e h = is_going_same e h
same_by limit xs s t Whole e h = (h.0, whole_same e h.1)

pub same_holds : (limit : ℕ) (xs : List ℕ) (s t : Scan) → SameScan s t → IsScanned limit xs s → IsScanned limit xs t
same_holds limit xs s t f h = subst (IsScannedAs limit xs t) f.reading (same_by limit xs s t s.reading f h)

pub on_err : {A E : Type 0} (r : Result A E) (P : Type 0) → P → OnErr r P
on_err (Ok x) P p = tt
on_err (Err e) P p = p
