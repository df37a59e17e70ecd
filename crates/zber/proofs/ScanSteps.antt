-- A scan, one move further.
use Rattle.std.proofs.Common.{◌≡◌, ℕ, ◌+◌, ◌-◌, ◌<◌, ◌≤◌, true, false, ◌⊎◌, inl, inr, subst, List, [], ◌∷◌, ◌++◌, length, take, drop, refl, sym, ap, ◌∙◌, arith, append_assoc, length-append, length-drop, Option, Some, None, IfSome}
use Rattle.std.proofs.lemmas.List.{append-nil, length-take-le}
use Rattle.zber.specs.declared.fault.HeaderPlace.{HeaderPlace}
use Rattle.zber.specs.declared.fault.FaultKind.TheVariants as kind
use Rattle.zber.specs.declared.scan.Finished.{Finished}
use Rattle.zber.specs.declared.scan.Finished.TheVariants.{Prim, Cons}
use Rattle.zber.specs.declared.scan.Window.{Window}
use Rattle.zber.specs.declared.scan.Open.{Open}
use Rattle.zber.specs.declared.scan.Reading.TheVariants.{Front}
use Rattle.zber.specs.declared.scan.Scan.{Scan}
use Rattle.zber.specs.declared.front.Front.TheVariants.{Nothing}
use Rattle.zber.specs.AsnTags.{AsnTag}
use Rattle.zber.specs.Elements.{contents_in, Element, forest, prim, cons}
use Rattle.zber.specs.Spelling.{IsSpelling, AreSpellings, deepest, primitive, definite as spells_definite, indefinite as spells_indefinite, none as spells_none, more}
use Rattle.zber.specs.Headers.{Header}
use Rattle.zber.specs.Paths.{after, IsOpening, definite, indefinite}
use Rattle.zber.specs.Scans.{IsAssembly, none, with_primitive, with_constructed, IsWindowOf, Path, top, inside, ScanPlace, IsGoing, IsScanned, IsScannedAs, behind_reading, inner_window, BeforePass, BeforeEnter, BeforeClose}
use Rattle.zber.proofs.ElementLemmas.{id_some}
use Rattle.zber.proofs.HeaderLemmas.{take_add}
use Rattle.zber.proofs.ScanLemmas.{assembled_more, assembled_then, path_none, path_child, path_open, closing, Closing, spell_octets, ends_size, ends_mark, contents-append, contents_closed}

pub place_is : (p : HeaderPlace) (w : Window) (at few : ℕ) → IsWindowOf w at p → few + p.room ≡ 64 → record { size = w.end - at; past = w.past; marked = w.marked; room = 64 - few } ≡ p
place_is p w at few f r =
    let size : w.end - at ≡ p.size = omega (arith, f.end_is) in
    let room : 64 - few ≡ p.room = omega (arith, r) in
    rw (size, room, f.past_is, f.marked_is) refl

-- each element has an octet at least
pub spells_some : {room : ℕ} {e : Element} {xs : List ℕ} → IsSpelling room e xs → 0 < length xs
spells_some (primitive {i = i} {l = l} {xs = xs} id len) = omega (arith, id_some id, length-append i (l ++ xs))
spells_some (spells_definite {i = i} {l = l} {xs = xs} id len all) = omega (arith, id_some id, length-append i (l ++ xs))
spells_some (spells_indefinite {i = i} {xs = xs} id all) = omega (arith, id_some id, length-append i (128 ∷ (xs ++ (0 ∷ 0 ∷ []))))

all_some : {room : ℕ} {es : List Element} {xs : List ℕ} → AreSpellings room es xs → length es ≤ length xs
all_some spells_none = omega arith
all_some (more {xs = xs} {ys = ys} f fs) = omega (arith, spells_some f, all_some fs, length-append xs ys)

pub path_count : {limit : ℕ} {os : List Open} {xs : List ℕ} {es : List Element} {p : HeaderPlace} → Path limit os xs es p → length es ≤ length xs
path_count top = omega arith
path_count (inside {xs = xs} {h = h} {ys = ys} {es = es} {fs = fs} f w b opens all fits) = omega (arith, path_count f, all_some all, length-append es fs, length-append xs (h ++ ys), length-append h ys)

-- contents are among the octets
module _ where
  mutual
    pub spells_contents : {room : ℕ} {e : Element} {xs : List ℕ} → IsSpelling room e xs → contents_in (forest (e ∷ [])) ≤ length xs
    spells_contents (primitive {i = i} {l = l} {xs = xs} id len) = omega (arith, length-append i (l ++ xs), length-append l xs)
    spells_contents (spells_definite {i = i} {l = l} {xs = xs} id len all) = omega (arith, all_contents all, length-append i (l ++ xs), length-append l xs)
    spells_contents (spells_indefinite {i = i} {xs = xs} id all) = omega (arith, all_contents all, length-append i (128 ∷ (xs ++ (0 ∷ 0 ∷ []))), length-append xs (0 ∷ 0 ∷ []))

    all_contents : {room : ℕ} {es : List Element} {xs : List ℕ} → AreSpellings room es xs → contents_in (forest es) ≤ length xs
    all_contents spells_none = omega arith
    all_contents (more {e = e} {es = es} {xs = xs} {ys = ys} f fs) = omega (arith, spells_contents f, all_contents fs, length-append xs ys, contents-append (e ∷ []) es)

pub path_contents : {limit : ℕ} {os : List Open} {xs : List ℕ} {es : List Element} {p : HeaderPlace} → Path limit os xs es p → contents_in (forest es) ≤ length xs
path_contents top = omega arith
path_contents (inside {xs = xs} {h = h} {ys = ys} {es = es} {fs = fs} f w b opens all fits) = omega (arith, path_contents f, all_contents all, contents-append es fs, length-append xs (h ++ ys), length-append h ys)

-- behind an element that is finished
module _ (limit : ℕ) (xs : List ℕ) (s : Scan) where
  pub child_holds : (os : List Open) (front : List ℕ) (es : List Element) (p : HeaderPlace) (e : Element) (zs : List ℕ) → Path limit os front es p → IsSpelling p.room e zs → length zs ≤ p.size
      → s.opened.items ≡ os → s.at ≡ length (front ++ zs) → take s.at xs ≡ front ++ zs → s.at ≤ length xs
      → IsWindowOf s.window (length front) p → IsAssembly (front ++ zs) [] s.finished.items (es ++ e ∷ []) → s.count ≡ length es + 1 → s.contents ≡ contents_in (forest (es ++ e ∷ []))
      → s.reading ≡ behind_reading (length os) → IsScanned limit xs s
  child_holds os front es p e zs path spelled fits opened at octets within window assembled count contents reading = go os refl where
    go : (ms : List Open) → os ≡ ms → IsScanned limit xs s
    go [] q =
        let empty = path_none path q in
        let here : take s.at xs ≡ zs = octets ∙ ap (λ z. z ++ zs) empty.0 in
        let spells : IsSpelling deepest e (take s.at xs) = subst (λ z. IsSpelling z e (take s.at xs)) (ap (λ z. z.room) empty.2) (subst (IsSpelling p.room e) (sym here) spelled) in
        let small : length (take s.at xs) ≤ limit = omega (arith, ap length here, fits, ap (λ z. z.size) empty.2) in
        let all : IsAssembly (take s.at xs) [] s.finished.items (e ∷ []) = subst (λ z. IsAssembly z [] s.finished.items (e ∷ [])) (sym octets) (subst (λ z. IsAssembly (front ++ zs) [] s.finished.items (z ++ e ∷ [])) empty.1 assembled) in
        subst (IsScannedAs limit xs s) (sym (reading ∙ ap (λ z. behind_reading (length z)) q)) (
          e,
          record {
            within = within;
            none_open = opened ∙ q;
            message = record { spelled = spells; within = small };
            assembled = all;
            contents = contents ∙ ap (λ z. contents_in (forest (z ++ e ∷ []))) empty.1;
          },
        )
    go (m ∷ ms) q =
        let some : 0 < length os = omega (arith, ap length q) in
        subst (IsScannedAs limit xs s) (sym (reading ∙ ap (λ z. behind_reading (length z)) q)) (record {
          es = es ++ e ∷ [];
          place = after p (length zs);
          going = record {
            within = within;
            path = rw (octets, opened) (path_child e zs path some spelled fits);
            window = record {
              end_is = omega (arith, window.end_is, at, length-append front zs, fits);
              past_is = window.past_is;
              marked_is = window.marked_is;
            };
            assembled = rw octets assembled;
            count = omega (arith, count, length-append es (e ∷ []));
            contents = contents;
          };
          looked = omega (arith, within);
          reading = (refl, refl, omega arith);
        })

-- what is told of one more element
pub assembled_primitive : (xs : List ℕ) (es : List Element) (fs : List Finished) (n : AsnTag) (zs ys : List ℕ) (from size : ℕ) → IsAssembly xs [] fs es → from + size ≤ length (xs ++ zs) → take size (drop from (xs ++ zs)) ≡ ys → IsAssembly (xs ++ zs) [] (fs ++ Prim n from size ∷ []) (es ++ prim n ys ∷ [])
assembled_primitive xs es fs n zs ys from size t l e = assembled_then (assembled_more zs t) (with_primitive l (subst (λ z. IsAssembly (xs ++ zs) (es ++ prim n (take size (drop from (xs ++ zs))) ∷ []) [] (es ++ prim n z ∷ [])) e none))

take_left : {A : Type 0} (xs ys : List A) → take (length xs) (xs ++ ys) ≡ xs
take_left [] ys = refl
take_left (x ∷ xs) ys = ap (λ z. x ∷ z) (take_left xs ys)

drop_left : {A : Type 0} (xs ys : List A) → drop (length xs) (xs ++ ys) ≡ ys
drop_left [] ys = refl
drop_left (x ∷ xs) ys = drop_left xs ys

pub assembled_constructed : (xs : List ℕ) (es ds : List Element) (fs : List Finished) (n : AsnTag) (zs : List ℕ) (behind : ℕ) → IsAssembly xs [] fs (es ++ ds) → behind ≡ length es → IsAssembly (xs ++ zs) [] (fs ++ Cons n behind ∷ []) (es ++ cons n ds ∷ [])
assembled_constructed xs es ds fs n zs behind t e =
    let front : take behind (es ++ ds) ≡ es = ap (λ k. take k (es ++ ds)) e ∙ take_left es ds in
    let back : drop behind (es ++ ds) ≡ ds = ap (λ k. drop k (es ++ ds)) e ∙ drop_left es ds in
    assembled_then (assembled_more zs t) (with_constructed (omega (arith, e, length-append es ds)) (subst (λ z. IsAssembly (xs ++ zs) (take behind (es ++ ds) ++ cons n (drop behind (es ++ ds)) ∷ []) [] z) (rw (front, back) refl) none))

pub take_full : (xs : List ℕ) → take (length xs) xs ≡ xs
take_full [] = refl
take_full (x ∷ xs) = ap (λ z. x ∷ z) (take_full xs)

-- behind the contents of a primitive element
pub passed : {limit : ℕ} {xs : List ℕ} {s : Scan} {n : AsnTag} {len size : ℕ} → BeforePass limit xs s n len size → (t : Scan)
    → t.opened.items ≡ s.opened.items → t.at ≡ s.at + (len + size) → t.window ≡ s.window → t.finished.items ≡ s.finished.items ++ Prim n (s.at + len) size ∷ []
    → t.count ≡ s.count + 1 → t.contents ≡ s.contents + size → t.reading ≡ behind_reading (length s.opened.items) → IsScanned limit xs t
passed {limit} {xs} {s} {n} {len} {size} f t opened at window finished count contents reading =
    let rest : List ℕ = drop s.at xs in
    let front : List ℕ = take s.at xs in
    let head : List ℕ = take len rest in
    let body : List ℕ = take size (drop len rest) in
    let front_len : length front ≡ s.at = length-take-le s.at xs f.going.within in
    let rest_len : length rest ≡ length xs - s.at = length-drop s.at xs in
    let head_len : length head ≡ len = length-take-le len rest (omega (arith, f.come, rest_len)) in
    let body_len : length body ≡ size = length-take-le size (drop len rest) (omega (arith, f.come, rest_len, length-drop len rest)) in
    let octets : take t.at xs ≡ front ++ (head ++ body) = ap (λ k. take k xs) at ∙ take_add xs s.at (len + size) ∙ ap (λ z. front ++ z) (take_add rest len size) in
    let sum : length (front ++ (head ++ body)) ≡ s.at + (len + size) = omega (arith, length-append front (head ++ body), length-append head body, front_len, head_len, body_len) in
    let cut : drop (s.at + len) (front ++ (head ++ body)) ≡ body = ap (λ k. drop k (front ++ (head ++ body))) (omega (arith, length-append front head, front_len, head_len)) ∙ ap (drop (length (front ++ head))) (sym (append_assoc front head body)) ∙ drop_left (front ++ head) body in
    let range : take size (drop (s.at + len) (front ++ (head ++ body))) ≡ body = ap (take size) cut ∙ ap (λ k. take k body) (sym body_len) ∙ take_full body in
    let assembled = assembled_primitive front f.es s.finished.items n (head ++ body) body (s.at + len) size f.going.assembled (omega (arith, sum)) range in
    child_holds limit xs t s.opened.items front f.es f.place (prim n body) (head ++ body) f.going.path (spell_octets body f.header body_len)
    (omega (arith, f.fits, length-append head body, head_len, body_len)) opened (at ∙ sym sum) octets (omega (arith, at, f.come))
    (rw (window, front_len) f.going.window) (rw finished assembled) (omega (arith, count, f.going.count))
    (omega (arith, contents, f.going.contents, contents-append f.es (prim n body ∷ []), body_len)) reading

-- behind the end of the innermost open element
module _ {limit : ℕ} {xs : List ℕ} {s : Scan} {len : ℕ} (f : BeforeClose limit xs s len) (os : List Open) (o : Open) (k : Closing limit os o (take s.at xs) f.es f.place) (t : Scan)
    (opened : t.opened.items ≡ os) (at : t.at ≡ s.at + len) (window : t.window ≡ o.outer) (finished : t.finished.items ≡ s.finished.items ++ Cons o.tag o.behind ∷ [])
    (count : t.count ≡ o.behind + 1) (contents : t.contents ≡ s.contents) (reading : t.reading ≡ behind_reading (length os)) where
  closed_by : (tail : List ℕ) → take len (drop s.at xs) ≡ tail → IsSpelling k.outer.room (cons o.tag k.kids) (k.head ++ (k.octets ++ tail)) × (length (k.head ++ (k.octets ++ tail)) ≤ k.outer.size) → IsScanned limit xs t
  closed_by tail is spelled =
      let zs : List ℕ = k.head ++ (k.octets ++ tail) in
      let group : (k.front ++ (k.head ++ k.octets)) ++ tail ≡ k.front ++ zs = append_assoc k.front (k.head ++ k.octets) tail ∙ ap (λ z. k.front ++ z) (append_assoc k.head k.octets tail) in
      let here : take s.at xs ++ tail ≡ k.front ++ zs = ap (λ z. z ++ tail) k.front_is ∙ group in
      let octets : take t.at xs ≡ k.front ++ zs = ap (λ z. take z xs) at ∙ take_add xs s.at len ∙ ap (λ z. take s.at xs ++ z) is ∙ here in
      let assembled : IsAssembly (take s.at xs ++ tail) [] (s.finished.items ++ Cons o.tag o.behind ∷ []) (k.before ++ cons o.tag k.kids ∷ []) = assembled_constructed (take s.at xs) k.before k.kids s.finished.items o.tag tail o.behind (subst (λ z. IsAssembly (take s.at xs) [] s.finished.items z) k.elements f.going.assembled) k.behind in
      let within : t.at ≤ length xs = omega (arith, at, f.come) in
      let at_is : t.at ≡ length (k.front ++ zs) = sym (length-take-le t.at xs within) ∙ ap length octets in
      child_holds limit xs t os k.front k.before k.outer (cons o.tag k.kids) zs k.path spelled.0 spelled.1 opened at_is octets within
      (rw window k.window) (rw finished (subst (λ z. IsAssembly z [] (s.finished.items ++ Cons o.tag o.behind ∷ []) (k.before ++ cons o.tag k.kids ∷ [])) here assembled))
      (omega (arith, count, k.behind)) (contents ∙ f.going.contents ∙ ap (λ z. contents_in (forest z)) k.elements ∙ sym (contents_closed o.tag k.before k.kids)) reading

  closed_as : ((len ≡ 0) × (f.place.marked ≡ false) × (f.place.size ≡ 0)) ⊎ ((len ≡ 2) × (f.place.marked ≡ true) × (2 ≤ f.place.size) × (take 2 (drop s.at xs) ≡ 0 ∷ 0 ∷ [])) → IsScanned limit xs t
  closed_as (inl e) =
      let spelled = ends_size k.octets k.opens k.all (sym (ap (λ z. z.marked) k.place) ∙ e.1) (omega (arith, k.fits, ap (λ z. z.size) k.place, e.2)) in
      closed_by [] (ap (λ z. take z (drop s.at xs)) e.0) (rw append-nil spelled)
  closed_as (inr e) =
      let spelled = ends_mark k.octets k.opens k.all (sym (ap (λ z. z.marked) k.place) ∙ e.1) (omega (arith, k.fits, ap (λ z. z.size) k.place, e.2)) in
      closed_by (0 ∷ 0 ∷ []) (ap (λ z. take z (drop s.at xs)) e.0 ∙ e.3) spelled

pub closed : {limit : ℕ} {xs : List ℕ} {s : Scan} {len : ℕ} → BeforeClose limit xs s len → (os : List Open) (o : Open) → s.opened.items ≡ os ++ o ∷ [] → (t : Scan)
    → t.opened.items ≡ os → t.at ≡ s.at + len → t.window ≡ o.outer → t.finished.items ≡ s.finished.items ++ Cons o.tag o.behind ∷ []
    → t.count ≡ o.behind + 1 → t.contents ≡ s.contents → t.reading ≡ behind_reading (length os) → IsScanned limit xs t
closed f os o e t opened at window finished count contents reading = closed_as f os o (closing os o f.going.path e) t opened at window finished count contents reading f.end_is

-- inside an element that opens
pub opened_at : (p : HeaderPlace) (n : AsnTag) (size : Option ℕ) (h : List ℕ) (w : Window) (at : ℕ) → Header n true size h → IfSome size (λ z. length h + z ≤ p.size) → length h ≤ p.size → 0 < p.room → IsWindowOf w at p
    → (q : HeaderPlace) × IsOpening p n h q × IsWindowOf (inner_window w (at + length h) size) (at + length h) q
opened_at p n (Some z) h w at head fits within room f =
    (record { size = z; past = kind.Overrun; marked = false; room = p.room - 1 }, definite head fits (omega (arith, room)), record { end_is = refl; past_is = refl; marked_is = refl })
opened_at p n None h w at head fits within room f =
    (record { size = p.size - length h; past = p.past; marked = true; room = p.room - 1 }, indefinite head within (omega (arith, room)), record { end_is = omega (arith, f.end_is, within); past_is = f.past_is; marked_is = refl })

entered_at : {limit : ℕ} {xs : List ℕ} {s : Scan} {n : AsnTag} {size : Option ℕ} {len : ℕ} → BeforeEnter limit xs s n size len → (es : List Element) (p q : HeaderPlace) → ScanPlace limit xs s es p → (t : Scan) (o : Open)
    → IsOpening p o.tag (take len (drop s.at xs)) q → IsWindowOf t.window t.at q → o.outer ≡ s.window → o.behind ≡ s.count
    → t.opened.items ≡ s.opened.items ++ o ∷ [] → t.at ≡ s.at + len → t.finished.items ≡ s.finished.items
    → t.count ≡ s.count → t.contents ≡ s.contents → IsGoing limit xs t (Front Nothing 0)
entered_at {limit} {xs} {s} {n} {size} {len} f es p q g t o opens window outer behind opened at finished count contents =
    let rest : List ℕ = drop s.at xs in
    let front : List ℕ = take s.at xs in
    let head : List ℕ = take len rest in
    let front_len : length front ≡ s.at = length-take-le s.at xs g.within in
    let octets : take t.at xs ≡ front ++ head = ap (λ k. take k xs) at ∙ take_add xs s.at len in
    let path : Path limit (s.opened.items ++ o ∷ []) (front ++ head) es q = path_open o head g.path (rw (outer, front_len) g.window) (behind ∙ g.count) opens in
    record {
      es = es;
      place = q;
      going = record {
        within = omega (arith, at, f.come);
        path = rw (octets, opened) path;
        window = window;
        assembled = rw (octets, finished) (assembled_more head g.assembled);
        count = count ∙ g.count;
        contents = contents ∙ g.contents;
      };
      looked = omega (arith, at, f.come);
      reading = (refl, refl, omega arith);
    }

pub entered : {limit : ℕ} {xs : List ℕ} {s : Scan} {n : AsnTag} {size : Option ℕ} {len : ℕ} → BeforeEnter limit xs s n size len → (t : Scan)
    → t.opened.items ≡ s.opened.items ++ record { tag = n; outer = s.window; behind = s.count } ∷ [] → t.at ≡ s.at + len → t.window ≡ inner_window s.window (s.at + len) size → t.finished.items ≡ s.finished.items
    → t.count ≡ s.count → t.contents ≡ s.contents → IsGoing limit xs t (Front Nothing 0)
entered {limit} {xs} {s} {n} {size} {len} f t opened at window finished count contents =
    let head : List ℕ = take len (drop s.at xs) in
    let head_len : length head ≡ len = length-take-le len (drop s.at xs) (omega (arith, f.come, length-drop s.at xs)) in
    let (q, opens, inner) = opened_at f.place n size head s.window s.at f.header (rw head_len f.fits) (rw head_len f.within) f.room f.going.window in
    entered_at f f.es f.place q f.going t (record { tag = n; outer = s.window; behind = s.count }) opens (subst (λ z. IsWindowOf t.window z q) (sym at) (subst (λ z. IsWindowOf z (s.at + len) q) (sym window) (subst (λ z. IsWindowOf (inner_window s.window (s.at + z) size) (s.at + z) q) head_len inner))) refl refl opened at finished count contents
