-- How the open elements and the finished ones go on.
use Rattle.std.proofs.Common.{◌≡◌, ℕ, suc, ◌+◌, ◌<◌, ◌≤◌, true, false, zero, subst, List, [], ◌∷◌, ◌++◌, length, take, drop, refl, sym, ap, ◌∙◌, arith, append_assoc, length-append, Some, None}
use Rattle.std.proofs.lemmas.List.{append-nil, take-append-le}
use Rattle.zber.specs.declared.fault.HeaderPlace.{HeaderPlace}
use Rattle.zber.specs.declared.scan.Finished.{Finished}
use Rattle.zber.specs.declared.scan.Open.{Open}
use Rattle.zber.specs.AsnTags.{AsnTag}
use Rattle.zber.specs.Elements.{contents_in, Element, forest, prim, cons, Primitive, Constructed}
use Rattle.zber.specs.Spelling.{Length, IsSpelling, primitive, definite as spells_definite, indefinite as spells_indefinite, AreSpellings, none as spells_none}
use Rattle.zber.specs.Headers.{Header, of_size, of_mark}
use Rattle.zber.specs.Paths.{start, after, IsOpening, definite, indefinite, IsPathTo, top as reached_top, inside as reached_inside}
use Rattle.zber.specs.Scans.{IsAssembly, none, with_primitive, with_constructed, IsWindowOf, Path, top, inside}
use Rattle.zber.proofs.ElementLemmas.{AreSpellings-append, differ}

-- a range of a front is that range of the whole
pub range_front : (from size : ℕ) (xs ys : List ℕ) → from + size ≤ length xs → take size (drop from (xs ++ ys)) ≡ take size (drop from xs)
range_front zero size xs ys l = take-append-le size xs ys (omega arith)
range_front (suc from) size [] ys l = absurd (omega arith)
range_front (suc from) size (x ∷ xs) ys l = range_front from size xs ys (omega arith)

pub assembled_more : {xs : List ℕ} {es ds : List Element} {fs : List Finished} (ys : List ℕ) → IsAssembly xs es fs ds → IsAssembly (xs ++ ys) es fs ds
assembled_more ys none = none
assembled_more {xs = xs} {es = es} {ds = ds} ys (with_primitive {n = n} {from = from} {size = size} {fs = fs} l t) =
    with_primitive (omega (arith, l, length-append xs ys)) (subst (λ z. IsAssembly (xs ++ ys) (es ++ prim n z ∷ []) fs ds) (sym (range_front from size xs ys l)) (assembled_more ys t))
assembled_more ys (with_constructed l t) = with_constructed l (assembled_more ys t)

pub assembled_then : {xs : List ℕ} {es ds cs : List Element} {fs gs : List Finished} → IsAssembly xs es fs ds → IsAssembly xs ds gs cs → IsAssembly xs es (fs ++ gs) cs
assembled_then none u = u
assembled_then (with_primitive l t) u = with_primitive l (assembled_then t u)
assembled_then (with_constructed l t) u = with_constructed l (assembled_then t u)

pub path_reached : {limit : ℕ} {os : List Open} {xs : List ℕ} {es : List Element} {p : HeaderPlace} → Path limit os xs es p → IsPathTo limit xs p
path_reached top = reached_top
path_reached (inside f w b opens all fits) = reached_inside (path_reached f) opens all fits

opens_room : {p : HeaderPlace} {n : AsnTag} {h : List ℕ} {q : HeaderPlace} → IsOpening p n h q → p.room ≡ suc q.room
opens_room (definite head fits room) = room
opens_room (indefinite head fits room) = room

pub path_room : {limit : ℕ} {os : List Open} {xs : List ℕ} {es : List Element} {p : HeaderPlace} → Path limit os xs es p → length os + p.room ≡ 64
path_room top = refl
path_room (inside {o = o} {os = os} f w b opens all fits) = omega (arith, path_room f, opens_room opens, length-append os (o ∷ []))

not_snoc : {A : Type 0} (xs : List A) (x : A) → [] ≡ xs ++ x ∷ [] → ⊥
not_snoc [] x e = cc
not_snoc (y ∷ xs) x e = cc

same_snoc : {A : Type 0} (xs ys : List A) (x y : A) → xs ++ x ∷ [] ≡ ys ++ y ∷ [] → (xs ≡ ys) × (x ≡ y)
same_snoc [] [] x y e = (refl, cc)
same_snoc [] (z ∷ ys) x y e = let f : [] ≡ ys ++ y ∷ [] = cc in absurd (not_snoc ys y f)
same_snoc (z ∷ xs) [] x y e = let f : xs ++ x ∷ [] ≡ [] = cc in absurd (not_snoc xs x (sym f))
same_snoc (z ∷ xs) (w ∷ ys) x y e =
    let f : xs ++ x ∷ [] ≡ ys ++ y ∷ [] = cc in
    let g = same_snoc xs ys x y f in
    let h : z ≡ w = cc in
    (rw (h, g.0) refl, g.1)

-- the innermost open element, taken off
pub record Closing (limit : ℕ) (os : List Open) (o : Open) (xs : List ℕ) (es : List Element) (p : HeaderPlace) : Type 0 where
  pub outer : HeaderPlace
  pub first : HeaderPlace
  pub front : List ℕ
  pub head : List ℕ
  pub octets : List ℕ
  pub before : List Element
  pub kids : List Element
  pub path : Path limit os front before outer
  pub window : IsWindowOf o.outer (length front) outer
  pub behind : o.behind ≡ length before
  pub opens : IsOpening outer o.tag head first
  pub all : AreSpellings first.room kids octets
  pub fits : length octets ≤ first.size
  pub front_is : xs ≡ front ++ (head ++ octets)
  pub elements : es ≡ before ++ kids
  pub place : p ≡ after first (length octets)

pub closing : {limit : ℕ} {ns : List Open} {xs : List ℕ} {es : List Element} {p : HeaderPlace} (os : List Open) (o : Open) → Path limit ns xs es p → ns ≡ os ++ o ∷ [] → Closing limit os o xs es p
closing os o top e = absurd (not_snoc os o e)
closing {limit} os o (inside {o = m} {os = ms} {xs = xs} {h = h} {ys = ys} {es = es} {fs = fs} {p = p} {q = q} f w b opens all fits) e =
    let same = same_snoc ms os m o e in
    subst (λ z. Closing limit z o (xs ++ (h ++ ys)) (es ++ fs) (after q (length ys))) same.0
    (subst (λ z. Closing limit ms z (xs ++ (h ++ ys)) (es ++ fs) (after q (length ys))) same.1
    (record {
      outer = p;
      first = q;
      front = xs;
      head = h;
      octets = ys;
      before = es;
      kids = fs;
      path = f;
      window = w;
      behind = b;
      opens = opens;
      all = all;
      fits = fits;
      front_is = refl;
      elements = refl;
      place = refl;
    }))

pub spell_octets : {room : ℕ} {n : AsnTag} {size : ℕ} {h : List ℕ} (ys : List ℕ) → Header n false (Some size) h → length ys ≡ size → IsSpelling room (prim n ys) (h ++ ys)
spell_octets ys (of_size {i = i} {l = l} id len) e = rw (append_assoc i l ys) (primitive id (subst (λ z. Length z l) (sym e) len))

spell_definite : {room : ℕ} {n : AsnTag} {size : ℕ} {h : List ℕ} {fs : List Element} {ys : List ℕ} → Header n true (Some size) h → length ys ≡ size → AreSpellings room fs ys → IsSpelling (suc room) (cons n fs) (h ++ ys)
spell_definite {ys = ys} (of_size {i = i} {l = l} id len) e all = rw (append_assoc i l ys) (spells_definite id (subst (λ z. Length z l) (sym e) len) all)

spell_marked : {room : ℕ} {n : AsnTag} {h : List ℕ} {fs : List Element} {ys : List ℕ} → Header n true None h → AreSpellings room fs ys → IsSpelling (suc room) (cons n fs) (h ++ (ys ++ 0 ∷ 0 ∷ []))
spell_marked {ys = ys} (of_mark {i = i} id) all = rw (append_assoc i (128 ∷ []) (ys ++ 0 ∷ 0 ∷ [])) (spells_indefinite id all)

-- an open element ends: where its window does, or by the mark
pub ends_size : {p : HeaderPlace} {n : AsnTag} {h : List ℕ} {q : HeaderPlace} {fs : List Element} (ys : List ℕ) → IsOpening p n h q → AreSpellings q.room fs ys → q.marked ≡ false → length ys ≡ q.size → IsSpelling p.room (cons n fs) (h ++ ys) × (length (h ++ ys) ≤ p.size)
ends_size {h = h} ys (definite head fits room) all m e = (rw room (spell_definite head e all), omega (arith, fits, e, length-append h ys))
ends_size ys (indefinite head fits room) all m e = absurd (differ (sym m))

pub ends_mark : {p : HeaderPlace} {n : AsnTag} {h : List ℕ} {q : HeaderPlace} {fs : List Element} (ys : List ℕ) → IsOpening p n h q → AreSpellings q.room fs ys → q.marked ≡ true → length ys + 2 ≤ q.size → IsSpelling p.room (cons n fs) (h ++ (ys ++ 0 ∷ 0 ∷ [])) × (length (h ++ (ys ++ 0 ∷ 0 ∷ [])) ≤ p.size)
ends_mark ys (definite head fits room) all m l = absurd (differ m)
ends_mark {h = h} ys (indefinite head fits room) all m l = (rw room (spell_marked head all), omega (arith, fits, l, length-append h (ys ++ 0 ∷ 0 ∷ []), length-append ys (0 ∷ 0 ∷ [])))

-- behind a child that is finished, in an open element
abbrev with_size : HeaderPlace → ℕ → HeaderPlace
with_size p n = record { size = n; past = p.past; marked = p.marked; room = p.room }

pub path_child : {limit : ℕ} {os : List Open} {xs : List ℕ} {es : List Element} {p : HeaderPlace} (e : Element) (zs : List ℕ) → Path limit os xs es p → 0 < length os → IsSpelling p.room e zs → length zs ≤ p.size → Path limit os (xs ++ zs) (es ++ e ∷ []) (after p (length zs))
path_child e zs top l s fit = absurd (omega arith)
path_child {limit} e zs (inside {o = o} {os = os} {xs = xs} {h = h} {ys = ys} {es = es} {fs = fs} {q = q} f w b opens all fits) l s fit =
    let sum : length (ys ++ zs) ≡ length ys + length zs = length-append ys zs in
    let here : after q (length (ys ++ zs)) ≡ after (after q (length ys)) (length zs) = ap (with_size q) (omega (arith, sum)) in
    let there : Path limit (os ++ o ∷ []) (xs ++ (h ++ (ys ++ zs))) (es ++ (fs ++ e ∷ [])) (after q (length (ys ++ zs))) = inside f w b opens (AreSpellings-append all s) (omega (arith, sum, fits, fit)) in
    let octets : (xs ++ (h ++ ys)) ++ zs ≡ xs ++ (h ++ (ys ++ zs)) = append_assoc xs (h ++ ys) zs ∙ ap (λ z. xs ++ z) (append_assoc h ys zs) in
    rw (octets, append_assoc es fs (e ∷ []), ← here) there

pub path_none : {limit : ℕ} {os : List Open} {xs : List ℕ} {es : List Element} {p : HeaderPlace} → Path limit os xs es p → os ≡ [] → (xs ≡ []) × (es ≡ []) × (p ≡ start limit)
path_none top e = (refl, refl, refl)
path_none (inside {o = o} {os = os} f w b opens all fits) e = absurd (not_snoc os o (sym e))

-- inside an element that opens
pub path_open : {limit : ℕ} {os : List Open} {xs : List ℕ} {es : List Element} {p q : HeaderPlace} (o : Open) (h : List ℕ) → Path limit os xs es p → IsWindowOf o.outer (length xs) p → o.behind ≡ length es → IsOpening p o.tag h q → Path limit (os ++ o ∷ []) (xs ++ h) es q
path_open {limit} {os = os} {xs = xs} {es = es} {q = q} o h f w b opens =
    let there : Path limit (os ++ o ∷ []) (xs ++ (h ++ [])) (es ++ []) (after q 0) = inside f w b opens spells_none (omega arith) in
    let here : after q 0 ≡ q = ap (with_size q) (omega arith) in
    let octets : xs ++ (h ++ []) ≡ xs ++ h = ap (λ z. xs ++ z) (append-nil h) in
    let elements : es ++ [] ≡ es = append-nil es in
    subst (λ z. Path limit (os ++ o ∷ []) (xs ++ h) es z) here (subst (λ z. Path limit (os ++ o ∷ []) (xs ++ h) z (after q 0)) elements (subst (λ z. Path limit (os ++ o ∷ []) z (es ++ []) (after q 0)) octets there))

pub contents-append : (es ds : List Element) → contents_in (forest (es ++ ds)) ≡ contents_in (forest es) + contents_in (forest ds)
contents-append [] ds = omega arith
contents-append (Primitive n xs ∷ es) ds = omega (arith, contents-append es ds)
contents-append (Constructed n f ∷ es) ds = omega (arith, contents-append es ds)

pub contents_closed : (n : AsnTag) (es ds : List Element) → contents_in (forest (es ++ cons n ds ∷ [])) ≡ contents_in (forest (es ++ ds))
contents_closed n es ds = omega (arith, contents-append es (cons n ds ∷ []), contents-append es ds)
