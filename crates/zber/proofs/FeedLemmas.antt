-- The octets that a framer stands for, as they are cut and fed.
use Rattle.std.proofs.Common.{◌≡◌, ℕ, zero, suc, ◌≤◌, ◌==◌, true, false, inl, inr, subst, List, [], ◌∷◌, ◌++◌, length, take, drop, refl, sym, ap, ◌∙◌, arith, length-append, length-drop, append_assoc}
use Rattle.std.proofs.Common.{eqb→eq}
use Rattle.std.proofs.Math.Dec.{T}
use Rattle.std.proofs.lemmas.List.{take-append-drop, length-take-le, take-append-le}
use Rattle.zber.specs.declared.fault.FaultKind.TheVariants as kind
use Rattle.zber.specs.declared.scan.Scan.{Scan}
use Rattle.zber.specs.declared.scan.Reading.TheVariants.{Front as AtFront, Head, End, Whole}
use Rattle.zber.specs.declared.scan.Reading.{Reading}
use Rattle.zber.specs.declared.fault.HeaderPlace.{HeaderPlace}
use Rattle.zber.specs.declared.front.Front.TheVariants.{Nothing}
use Rattle.zber.specs.Elements.{Element}
use Rattle.zber.specs.Paths.{start}
use Rattle.zber.specs.Scans.{ScanPlace, IsGoing, IsWhole, IsScanned, IsScannedAs, top, none, len_of}
use Rattle.zber.specs.Feeds.{IsFed}

pub empty_is : (xs : List ℕ) → true ≡ (length xs == 0) → xs ≡ []
empty_is xs e = no_octets xs (eqb→eq (length xs) 0 (subst T e tt)) where
  no_octets : (ys : List ℕ) → length ys ≡ 0 → ys ≡ []
  no_octets [] q = refl
  no_octets (y ∷ ys) q = absurd (omega arith)

pub fed_octets : {limit : ℕ} {m o : List ℕ} {s : Scan} → IsFed limit m o s → m ≡ [] → IsScanned limit o s
fed_octets {limit} {m} {o} {s} f e = subst (λ z. IsScanned limit (z ++ o) s) e f.holds

pub fed_of : {limit : ℕ} {m o : List ℕ} {s : Scan} → IsScanned limit o s → m ≡ [] → IsFed limit m o s
fed_of {limit} {m} {o} {s} h e = record { holds = subst (λ z. IsScanned limit (z ++ o) s) (sym e) h; cut = inl e }

pub is_whole : {limit : ℕ} {xs : List ℕ} {s : Scan} → IsScanned limit xs s → s.reading ≡ Whole → (e : Element) × IsWhole limit xs s e
is_whole {limit} {xs} {s} h r = subst (IsScannedAs limit xs s) r h

pub cut_fed : {limit : ℕ} {front rest : List ℕ} {s : Scan} (o : List ℕ) → IsScanned limit o s → s.reading ≡ Whole → front ≡ take s.at o → rest ≡ drop s.at o → IsFed limit front rest s × (s.reading ≡ Whole) × (s.at ≡ length front)
cut_fed {limit} {front} {rest} {s} o h r f g =
    let w = is_whole h r in
    let len : s.at ≡ length front = sym (ap length f ∙ length-take-le s.at o w.1.within) in
    let same : front ++ rest ≡ o = ap (λ z. z ++ rest) f ∙ ap (λ z. take s.at o ++ z) g ∙ take-append-drop s.at o in
    (record { holds = subst (λ z. IsScanned limit z s) (sym same) h; cut = inr (r, len) }, r, len)

-- a scan that begins
pub begun : (limit : ℕ) (xs : List ℕ) (s : Scan) → s.at ≡ 0 → s.window ≡ record { end = limit; past = kind.TooLong; marked = false } → s.reading ≡ AtFront Nothing 0 → s.opened.items ≡ [] → s.finished.items ≡ [] → s.count ≡ 0 → s.contents ≡ 0 → IsScanned limit xs s
begun limit xs s at window reading opened finished count contents = subst (IsScannedAs limit xs s) (sym reading) (record {
  es = [];
  place = start limit;
  going = record {
    within = omega (arith, at);
    path = rw (at, opened) top;
    window = rw (at, window) (record { end_is = omega arith; past_is = refl; marked_is = refl });
    assembled = rw (at, finished) none;
    count = count;
    contents = contents;
  };
  looked = omega (arith, at);
  reading = (refl, refl, omega arith);
})

-- octets come to the end
path_fed : {limit : ℕ} {xs : List ℕ} {s : Scan} {es : List Element} {p : HeaderPlace} (ys : List ℕ) → ScanPlace limit xs s es p → ScanPlace limit (xs ++ ys) s es p
path_fed {xs = xs} {s = s} ys g =
    let same : take s.at (xs ++ ys) ≡ take s.at xs = take-append-le s.at xs ys g.within in
    record {
      within = omega (arith, g.within, length-append xs ys);
      path = rw same g.path;
      window = g.window;
      assembled = rw same g.assembled;
      count = g.count;
      contents = g.contents;
    }

drop_front : (a : ℕ) (xs ys : List ℕ) → a ≤ length xs → drop a (xs ++ ys) ≡ drop a xs ++ ys
drop_front zero xs ys l = refl
drop_front (suc a) [] ys l = absurd (omega arith)
drop_front (suc a) (x ∷ xs) ys l = drop_front a xs ys (omega arith)

going_fed : {limit : ℕ} {xs : List ℕ} {s : Scan} {r : Reading} (ys : List ℕ) → IsGoing limit xs s r → IsGoing limit (xs ++ ys) s r
going_fed {xs = xs} {s = s} {r = r} ys g =
    let same : take (len_of r) (drop s.at (xs ++ ys)) ≡ take (len_of r) (drop s.at xs) = ap (take (len_of r)) (drop_front s.at xs ys g.going.within) ∙ take-append-le (len_of r) (drop s.at xs) ys (omega (arith, g.looked, length-drop s.at xs)) in
    record {
      es = g.es;
      place = g.place;
      going = path_fed ys g.going;
      looked = omega (arith, g.looked, length-append xs ys);
      reading = rw same g.reading;
    }

whole_fed : {limit : ℕ} {xs : List ℕ} {s : Scan} {e : Element} (ys : List ℕ) → IsWhole limit xs s e → IsWhole limit (xs ++ ys) s e
whole_fed {xs = xs} {s = s} ys g =
    let same : take s.at (xs ++ ys) ≡ take s.at xs = take-append-le s.at xs ys g.within in
    record { within = omega (arith, g.within, length-append xs ys); none_open = g.none_open; message = rw same g.message; assembled = rw same g.assembled; contents = g.contents }

by_reading : (limit : ℕ) (xs ys : List ℕ) (s : Scan) (r : Reading) → IsScannedAs limit xs s r → IsScannedAs limit (xs ++ ys) s r
by_reading limit xs ys s (AtFront f len) h = going_fed ys h
by_reading limit xs ys s (Head n c size len) h = going_fed ys h
by_reading limit xs ys s End h = going_fed ys h
by_reading limit xs ys s Whole h = (h.0, whole_fed ys h.1)

pub fed_more : {limit : ℕ} {m o n : List ℕ} {s : Scan} (ys : List ℕ) → IsFed limit m o s → n ≡ o ++ ys → IsFed limit m n s
fed_more {limit} {m} {o} {n} {s} ys f e =
    let same : m ++ n ≡ (m ++ o) ++ ys = ap (λ z. m ++ z) e ∙ sym (append_assoc m o ys) in
    record { holds = subst (λ z. IsScanned limit z s) (sym same) (by_reading limit (m ++ o) ys s s.reading f.holds); cut = f.cut }
