-- The canonical encoding is the shortest.
use Rattle.std.proofs.Common.{◌≡◌, ℕ, zero, suc, ◌+◌, ◌*◌, ◌/◌, ◌%◌, ◌^◌, ◌<◌, ◌≤◌, cond, Bool, true, false, inl, inr, subst, List, [], ◌∷◌, ◌++◌, length, length-append, refl, sym, ap, ◌∙◌, arith, mul-le-mul_right}
use Rattle.std.proofs.Math.Dec.{ltb}
use Rattle.std.proofs.lemmas.Bool.{le-ltb, lt-ltb, cases_lt}
use Rattle.std.proofs.lemmas.List.{append-nil}
use Rattle.std.proofs.lemmas.List.Elements.{All-nil, All-cons, All-head, All-tail}
use native.Mathlib.Nat.{pow-suc}
use Rattle.zber.specs.AsnTags.{AsnTag, IsTag}
use Rattle.zber.specs.Elements.{Element, Forest, end, leaf, branch, Primitive, Constructed, prim, cons, elements, forest, one, height_of, height}
use Rattle.zber.specs.Spelling.{octets_from, Identifier, low, high, Length, short, long, IsSpelling, primitive, definite, indefinite, AreSpellings, none, more}
use Rattle.zber.specs.Canonical.{places, identifier, size, canonical_run, canonical, AreLawful, IsLawful}
use Rattle.zber.specs.Shortest.{AreOctets, IsDefiniteSpelling, AreDefiniteSpellings, primitive as primitive_so, constructed, none as none_so, more as more_so}
use Rattle.zber.proofs.CanonicalLemmas.{by_test, size_is, identifier_is}
use Rattle.zber.proofs.CanonicalSteps.{canonical_before, canonical_cons}
use Rattle.zber.proofs.OidSpelling.{only_groups}
use Rattle.zber.proofs.Runs.{forest-elements}

-- ---- octets
-- the two parts of a list
octets_parts : (xs ys : List ℕ) → AreOctets (xs ++ ys) → AreOctets xs × AreOctets ys
octets_parts [] ys h = (All-nil (λ x. x < 256), h)
octets_parts (x ∷ xs) ys h =
    let rest = octets_parts xs ys (All-tail (λ y. y < 256) x (xs ++ ys) h) in
    (All-cons (λ y. y < 256) x xs (All-head (λ y. y < 256) x (xs ++ ys) h) rest.0, rest.1)

one_place : (a x power n : ℕ) → x < 256 → n < (256 * a + x + 1) * power → n < (a + 1) * (power * 256)
one_place a x power n l h =
    let m : x + 1 ≤ 256 = omega arith in
    omega (arith, h, mul-le-mul_right power m)

-- the number that octets form is below the power of 256 for their count
octets_below : (a : ℕ) (xs : List ℕ) → AreOctets xs → octets_from a xs < (a + 1) * 256 ^ length xs
octets_below a [] h = omega arith
octets_below a (x ∷ xs) h =
    let below = octets_below (256 * a + x) xs (All-tail (λ y. y < 256) x xs h) in
    rw (pow-suc 256 (length xs)) (one_place a x (256 ^ length xs) _ (All-head (λ y. y < 256) x xs h) below)

-- ---- lengths
-- `size` with any number of places
abbrev sized : ℕ → ℕ → List ℕ
sized k n = cond (ltb n 128) (n ∷ []) ((128 + length (places k n)) ∷ places k n)

length_more : (xs : List ℕ) (x : ℕ) → length (xs ++ x ∷ []) ≡ suc (length xs)
length_more xs x = omega (arith, length-append xs (x ∷ []))

-- a number below a power of 256 has no more places
places_few : (k j n : ℕ) → n < 256 ^ suc j → length (places k n) ≤ suc j
places_few zero j n h = omega arith
places_few (suc k) zero n h = by_test n 256 (n ∷ []) (places k (n / 256) ++ n % 256 ∷ []) (λ xs. length xs ≤ 1) (λ l. omega arith) (λ l. absurd (omega (arith, h)))
places_few (suc k) (suc j) n h =
    by_test n 256 (n ∷ []) (places k (n / 256) ++ n % 256 ∷ []) (λ xs. length xs ≤ suc (suc j)) (λ l. omega arith)
    (λ l. omega (arith, length_more (places k (n / 256)) (n % 256), places_few k j (n / 256) (omega (arith, h, pow-suc 256 (suc j)))))

places_some : (k n : ℕ) → 1 ≤ length (places (suc k) n)
places_some k n = by_test n 256 (n ∷ []) (places k (n / 256) ++ n % 256 ∷ []) (λ xs. 1 ≤ length xs) (λ l. omega arith) (λ l. omega (arith, length_more (places k (n / 256)) (n % 256)))

-- a larger number has no fewer places
places_more : (k m n : ℕ) → m ≤ n → length (places k m) ≤ length (places k n)
places_more zero m n h = omega arith
places_more (suc k) m n h =
    by_test m 256 (m ∷ []) (places k (m / 256) ++ m % 256 ∷ []) (λ xs. length xs ≤ length (places (suc k) n)) (λ l. places_some k n)
    (λ l. rw (le-ltb n 256 (omega arith)) (omega (arith, length_more (places k (m / 256)) (m % 256), length_more (places k (n / 256)) (n % 256), places_more k (m / 256) (n / 256) (omega arith))))

sized_few : (k j n : ℕ) → n < 256 ^ suc j → length (sized k n) ≤ suc (suc j)
sized_few k j n h = by_test n 128 (n ∷ []) ((128 + length (places k n)) ∷ places k n) (λ xs. length xs ≤ suc (suc j)) (λ l. omega arith) (λ l. omega (arith, places_few k j n h))

sized_some : (k n : ℕ) → 1 ≤ length (sized k n)
sized_some k n = by_test n 128 (n ∷ []) ((128 + length (places k n)) ∷ places k n) (λ xs. 1 ≤ length xs) (λ l. omega arith) (λ l. omega arith)

sized_more : (k m n : ℕ) → m ≤ n → length (sized k m) ≤ length (sized k n)
sized_more k m n h =
    by_test m 128 (m ∷ []) ((128 + length (places k m)) ∷ places k m) (λ xs. length xs ≤ length (sized k n)) (λ l. sized_some k n)
    (λ l. rw (le-ltb n 128 (omega arith)) (omega (arith, places_more k m n h)))

-- a larger length is spelled in no fewer octets
size_more : (m n : ℕ) → m ≤ n → length (size m) ≤ length (size n)
size_more m n h = sized_more 8 m n h

pub shortest_length : {n : ℕ} {xs : List ℕ} → Length n xs → AreOctets xs → length (size n) ≤ length xs
shortest_length (short {size = n} p) o = rw (lt-ltb n 128 p) (omega arith)
shortest_length (long {xs = []} p q) o = absurd (omega arith)
shortest_length (long {xs = x ∷ xs} p q) o =
    let octets : AreOctets (x ∷ xs) = All-tail (λ y. y < 256) (128 + length (x ∷ xs)) (x ∷ xs) o in
    sized_few 8 (length xs) (octets_from 0 (x ∷ xs)) (omega (arith, octets_below 0 (x ∷ xs) octets))

-- ---- identifiers
same_identifier : {n : AsnTag} {c : Bool} {xs ys : List ℕ} → Identifier n c xs → Identifier n c ys → xs ≡ ys
same_identifier (low t p) (low s q) = refl
same_identifier (low t p) (high s q g) = absurd (omega arith)
same_identifier (high t p f) (low s q) = absurd (omega arith)
same_identifier (high t p f) (high s q g) = cc (only_groups f, only_groups g)

tagged : {n : AsnTag} {c : Bool} {xs : List ℕ} → Identifier n c xs → IsTag n
tagged (low t p) = t
tagged (high t p g) = t

pub identifier_only : {n : AsnTag} {c : Bool} {xs : List ℕ} → Identifier n c xs → xs ≡ identifier n c
identifier_only {n} {c} f = same_identifier f (identifier_is n c (tagged f))

-- ---- elements
three_len : (i l xs : List ℕ) → length (i ++ (l ++ xs)) ≡ length i + (length l + length xs)
three_len i l xs = omega (arith, length-append i (l ++ xs), length-append l xs)

prim_size : (n : AsnTag) (xs : List ℕ) → length (canonical (prim n xs)) ≡ length (identifier n false) + (length (size (length xs)) + length xs)
prim_size n xs = ap length (append-nil (identifier n false ++ (size (length xs) ++ xs))) ∙ three_len (identifier n false) (size (length xs)) xs

-- the length of the canonical encodings of elements
abbrev run_len : List Element → ℕ
run_len es = length (canonical_run (forest es))

cons_size : (n : AsnTag) (es : List Element) → length (canonical (cons n es)) ≡ length (identifier n true) + (length (size (run_len es)) + run_len es)
cons_size n es = ap length (canonical_cons n es) ∙ three_len (identifier n true) (size (run_len es)) (canonical_run (forest es))

run_more : (e : Element) (es : List Element) → run_len (e ∷ es) ≡ length (canonical e) + run_len es
run_more e es = ap length (canonical_before e (forest es)) ∙ length-append (canonical e) (canonical_run (forest es))

-- each part is no longer, so the whole is not
by_parts : (whole spelled i j s l m n : ℕ) → whole ≡ i + (s + m) → spelled ≡ j + (l + n) → j ≡ i → s ≤ l → m ≤ n → whole ≤ spelled
by_parts whole spelled i j s l m n p q e f g = omega arith

-- of a primitive element
prim_least : {n : AsnTag} (i l xs : List ℕ) → Identifier n false i → Length (length xs) l → AreOctets (i ++ (l ++ xs)) → length (canonical (prim n xs)) ≤ length (i ++ (l ++ xs))
prim_least {n} i l xs id len o =
    let octets = octets_parts l xs (octets_parts i (l ++ xs) o).1 in
    by_parts _ _ (length (identifier n false)) (length i) (length (size (length xs))) (length l) (length xs) (length xs) (prim_size n xs) (three_len i l xs) (ap length (identifier_only id)) (shortest_length len octets.0) (omega arith)

-- of a constructed element whose contents are no longer
cons_least : {n : AsnTag} (es : List Element) (i l xs : List ℕ) → Identifier n true i → Length (length xs) l → AreOctets l → run_len es ≤ length xs → length (canonical (cons n es)) ≤ length (i ++ (l ++ xs))
cons_least {n} es i l xs id len o few =
    by_parts _ _ (length (identifier n true)) (length i) (length (size (run_len es))) (length l) (run_len es) (length xs) (cons_size n es) (three_len i l xs) (ap length (identifier_only id)) (at_most (size_more (run_len es) (length xs) few) (shortest_length len o)) few where
      at_most : {a b c : ℕ} → a ≤ b → b ≤ c → a ≤ c
      at_most f g = omega arith

mutual
  pub shortest_spelling : {room : ℕ} {e : Element} {xs : List ℕ} → IsDefiniteSpelling room e xs → AreOctets xs → length (canonical e) ≤ length xs
  shortest_spelling (primitive_so {i = i} {l = l} {xs = xs} id len) o = prim_least i l xs id len o
  shortest_spelling (constructed {es = es} {i = i} {l = l} {xs = xs} id len all) o =
      let octets = octets_parts l xs (octets_parts i (l ++ xs) o).1 in
      cons_least es i l xs id len octets.0 (shortest_run all octets.1)

  shortest_run : {room : ℕ} {es : List Element} {xs : List ℕ} → AreDefiniteSpellings room es xs → AreOctets xs → run_len es ≤ length xs
  shortest_run none_so o = omega arith
  shortest_run (more_so {e = e} {es = es} {xs = xs} {ys = ys} f fs) o =
      let octets = octets_parts xs ys o in
      omega (arith, run_more e es, length-append xs ys, shortest_spelling f octets.0, shortest_run fs octets.1)

-- ---- spellings with indefinite lengths too
-- the mark of an indefinite length and its end are three octets
marked_len : (i xs : List ℕ) → length (i ++ (128 ∷ (xs ++ (0 ∷ 0 ∷ [])))) ≡ length i + (3 + length xs)
marked_len i xs = omega (arith, length-append i (128 ∷ (xs ++ (0 ∷ 0 ∷ []))), length-append xs (0 ∷ 0 ∷ []))

-- a length of 65,535 and less takes no more
marked_least : {n : AsnTag} (es : List Element) (i xs : List ℕ) → Identifier n true i → run_len es ≤ 65535 → run_len es ≤ length xs → length (canonical (cons n es)) ≤ length (i ++ (128 ∷ (xs ++ (0 ∷ 0 ∷ []))))
marked_least {n} es i xs id small few =
    by_parts _ _ (length (identifier n true)) (length i) (length (size (run_len es))) 3 (run_len es) (length xs) (cons_size n es) (marked_len i xs) (ap length (identifier_only id)) (sized_few 8 1 (run_len es) (omega arith)) few

-- the contents are shorter than the whole
contents_small : (n : AsnTag) (es : List Element) → length (canonical (cons n es)) ≤ 65535 → run_len es ≤ 65535
contents_small n es h = parts _ _ _ _ (cons_size n es) h where
  parts : (whole i s m : ℕ) → whole ≡ i + (s + m) → whole ≤ 65535 → m ≤ 65535
  parts whole i s m e f = omega arith

mutual
  pub shortest_within : {room : ℕ} {e : Element} {xs : List ℕ} → IsSpelling room e xs → AreOctets xs → length (canonical e) ≤ 65535 → length (canonical e) ≤ length xs
  shortest_within (primitive {i = i} {l = l} {xs = xs} id len) o small = prim_least i l xs id len o
  shortest_within (definite {n = n} {es = es} {i = i} {l = l} {xs = xs} id len all) o small =
      let octets = octets_parts l xs (octets_parts i (l ++ xs) o).1 in
      cons_least es i l xs id len octets.0 (within_run all octets.1 (contents_small n es small))
  shortest_within (indefinite {n = n} {es = es} {i = i} {xs = xs} id all) o small =
      let rest = octets_parts (128 ∷ xs) (0 ∷ 0 ∷ []) (octets_parts i (128 ∷ (xs ++ (0 ∷ 0 ∷ []))) o).1 in
      let few = contents_small n es small in
      marked_least es i xs id few (within_run all (All-tail (λ y. y < 256) 128 xs rest.0) few)

  within_run : {room : ℕ} {es : List Element} {xs : List ℕ} → AreSpellings room es xs → AreOctets xs → run_len es ≤ 65535 → run_len es ≤ length xs
  within_run none o small = omega arith
  within_run (more {e = e} {es = es} {xs = xs} {ys = ys} f fs) o small =
      let octets = octets_parts xs ys o in
      let whole = run_more e es in
      omega (arith, whole, length-append xs ys, shortest_within f octets.0 (omega (arith, whole, small)), within_run fs octets.1 (omega (arith, whole, small)))

-- ---- spellings with definite lengths
mutual
  pub definite_is_spelling : {room : ℕ} {e : Element} {xs : List ℕ} → IsDefiniteSpelling room e xs → IsSpelling room e xs
  definite_is_spelling (primitive_so id len) = primitive id len
  definite_is_spelling (constructed id len all) = definite id len (run_is_spelling all)

  run_is_spelling : {room : ℕ} {es : List Element} {xs : List ℕ} → AreDefiniteSpellings room es xs → AreSpellings room es xs
  run_is_spelling none_so = none
  run_is_spelling (more_so f fs) = more (definite_is_spelling f) (run_is_spelling fs)

canonical_run_is : (room : ℕ) (f : Forest) → AreLawful f → height_of f ≤ room → AreDefiniteSpellings room (elements f) (canonical_run f)
canonical_run_is room end l h = none_so
canonical_run_is room (leaf n xs rest) l h = more_so (primitive_so (identifier_is n false l.0) (size_is (length xs) l.1)) (canonical_run_is room rest l.2 h)
canonical_run_is zero (branch n kids rest) l h = absurd (omega arith)
canonical_run_is (suc room) (branch n kids rest) l h =
    let inside : AreDefiniteSpellings room (elements kids) (canonical_run kids) = canonical_run_is room kids l.2 (omega arith) in
    let x : List ℕ = identifier n true ++ (size (length (canonical_run kids)) ++ canonical_run kids) in
    let whole : IsDefiniteSpelling (suc room) (cons n (elements kids)) x = constructed (identifier_is n true l.0) (size_is (length (canonical_run kids)) l.1) inside in
    let here : IsDefiniteSpelling (suc room) (Constructed n kids) x = subst (λ f. IsDefiniteSpelling (suc room) (Constructed n f) x) (forest-elements kids) whole in
    more_so here (canonical_run_is (suc room) rest l.3 (omega arith))

only_one : {room : ℕ} {e : Element} {xs : List ℕ} → AreDefiniteSpellings room (e ∷ []) xs → IsDefiniteSpelling room e xs
only_one {room} {e} (more_so {xs = xs} f none_so) = subst (IsDefiniteSpelling room e) (sym (append-nil xs)) f

elements_one : (e : Element) → elements (one e) ≡ e ∷ []
elements_one (Primitive n xs) = refl
elements_one (Constructed n f) = refl

pub canonical_is_definite : (room : ℕ) (e : Element) → IsLawful e → height e ≤ room → IsDefiniteSpelling room e (canonical e)
canonical_is_definite room e l h = only_one (subst (λ es. AreDefiniteSpellings room es (canonical e)) (elements_one e) (canonical_run_is room (one e) l h))
