-- How many octets the canonical encodings of elements have at most, and how many levels, place by place.
use Rattle.std.proofs.Common.{◌≡◌, ℕ, zero, suc, ◌+◌, ◌*◌, ◌/◌, ◌%◌, ◌^◌, ◌<◌, ◌≤◌, ℤ, pos, ◌==◌, Bool, true, false, cond, List, [], ◌∷◌, ◌++◌, length, Option, Some, None, sym, ap, ◌∙◌, subst, arith, length-append}
use Rattle.std.specs.Prelude.{nat_lt}
use Rattle.std.specs.Fmt.{decimal, digits, digits_onto, digit_glyph}
use Rattle.std.specs.Int.{int_div_euclid}
use Rattle.std.specs.List.{AllByRecursion, flat_map}
use Rattle.std.proofs.lemmas.Int.Digits.{length-digits_of-le}
use Rattle.std.proofs.lemmas.List.{length-map}
use Rattle.std.proofs.lemmas.List.Elements.{recursion_from_All}
use Rattle.std.specs.Int.Digits.{digits_of}
use Rattle.zber.specs.AsnTags.{AsnTag}
use Rattle.zber.specs.Canonical.{places, fronts, identifier, size, canonical_run, canonical}
use Rattle.zber.specs.Elements.{Element, Primitive, Constructed, forest, height_of, height}
use Rattle.zber.specs.Integers.{is_short, last_octet, shortest, integer_octets}
use Rattle.zber.specs.Oids.{IsOid, groups, high_groups as group_fronts, oid_octets, is_oid}
use Rattle.zber.proofs.CanonicalSteps.{canonical_before}
use Rattle.zber.proofs.ElementSizes.{run_len}
use Rattle.zber.proofs.OidTest.{is_oid_from_pass}
use Rattle.zasn.specs.Building.{◌>>=◌ as and_then, optional_put}
use Rattle.zasn.specs.Meanings.{is_i64, oid_spelling, int_spelling}
use Rattle.zasn.specs.Reading.{option_map}
use Rattle.zasn.specs.Table.{ComponentTable, required, optional, also, ended, Fields, put}
use Rattle.zasn.specs.Within.{around, with_head}

-- ---- what stands before contents: no more than 15 octets

fronts_few : (k n : ℕ) → length (fronts k n) ≤ k
fronts_few zero n = omega arith
fronts_few (suc k) n =
    elim (nat_lt 0 n) as (λ b. length (cond b (fronts k (n / 128) ++ (128 + n % 128) ∷ []) []) ≤ suc k) [
      | true ↦ omega (arith, length-append (fronts k (n / 128)) ((128 + n % 128) ∷ []), fronts_few k (n / 128))
      | false ↦ omega arith
    ]

places_few : (k n : ℕ) → length (places k n) ≤ k
places_few zero n = omega arith
places_few (suc k) n =
    elim (nat_lt n 256) as (λ b. length (cond b (n ∷ []) (places k (n / 256) ++ n % 256 ∷ [])) ≤ suc k) [
      | true ↦ omega arith
      | false ↦ omega (arith, length-append (places k (n / 256)) (n % 256 ∷ []), places_few k (n / 256))
    ]

-- octets in the short form or in the long one
short_or : (b : Bool) (x y : ℕ) (xs : List ℕ) → length xs ≤ 5 → length (cond b (x ∷ []) (y ∷ xs)) ≤ 6
short_or true x y xs h = omega arith
short_or false x y xs h = omega arith

size_or : (b : Bool) (x y : ℕ) (xs : List ℕ) → length xs ≤ 8 → length (cond b (x ∷ []) (y ∷ xs)) ≤ 9
size_or true x y xs h = omega arith
size_or false x y xs h = omega arith

identifier_few : (n : AsnTag) (c : Bool) → length (identifier n c) ≤ 6
identifier_few n c =
    let most = fronts_few 4 (n.number / 128) in
    let all = length-append (fronts 4 (n.number / 128)) (n.number % 128 ∷ []) in
    short_or (nat_lt n.number 31) _ _ (fronts 4 (n.number / 128) ++ n.number % 128 ∷ []) (omega (arith, most, all))

size_few : (n : ℕ) → length (size n) ≤ 9
size_few n = size_or (nat_lt n 128) n (128 + length (places 8 n)) (places 8 n) (places_few 8 n)

pub headed_few : (n : AsnTag) (c : Bool) (xs : List ℕ)
    → length (identifier n c ++ (size (length xs) ++ xs)) ≤ length xs + 15
headed_few n c xs =
    let outer = length-append (identifier n c) (size (length xs) ++ xs) in
    let inner = length-append (size (length xs)) xs in
    let front = identifier_few n c in
    let count = size_few (length xs) in
    omega (arith, outer, inner, front, count)

pub headed_more : (n : AsnTag) (c : Bool) (xs : List ℕ)
    → length xs ≤ length (identifier n c ++ (size (length xs) ++ xs))
headed_more n c xs =
    let outer = length-append (identifier n c) (size (length xs) ++ xs) in
    let inner = length-append (size (length xs)) xs in
    omega (arith, outer, inner)

-- ---- an element of octets, and one of elements

pub octets_few : (n : AsnTag) (xs : List ℕ) → length (canonical (Primitive n xs)) ≤ length xs + 15
octets_few n xs =
    let whole = length-append (identifier n false ++ (size (length xs) ++ xs)) [] in
    let most = headed_few n false xs in
    omega (arith, whole, most)

pub octets_more : (n : AsnTag) (xs : List ℕ) → length xs ≤ length (canonical (Primitive n xs))
octets_more n xs =
    let whole = length-append (identifier n false ++ (size (length xs) ++ xs)) [] in
    let least = headed_more n false xs in
    omega (arith, whole, least)

pub run_few : (n : AsnTag) (ns : List Element) → length (canonical (Constructed n (forest ns))) ≤ run_len ns + 15
run_few n ns =
    let run = canonical_run (forest ns) in
    let whole = length-append (identifier n true ++ (size (length run) ++ run)) [] in
    let most = headed_few n true run in
    omega (arith, whole, most)

pub run_within : (n : AsnTag) (ns : List Element) → run_len ns ≤ length (canonical (Constructed n (forest ns)))
run_within n ns =
    let run = canonical_run (forest ns) in
    let whole = length-append (identifier n true ++ (size (length run) ++ run)) [] in
    let least = headed_more n true run in
    omega (arith, whole, least)

-- ---- elements one after another

pub run_before : (n : Element) (ns : List Element) → run_len (n ∷ ns) ≡ length (canonical n) + run_len ns
run_before n ns = ap length (canonical_before n (forest ns)) ∙ length-append (canonical n) (canonical_run (forest ns))

pub run_more : (ns : List Element) (n : Element) → run_len (ns ++ n ∷ []) ≡ run_len ns + length (canonical n)
run_more [] n = omega (arith, run_before n [])
run_more (m ∷ ns) n = omega (arith, run_before m (ns ++ n ∷ []), run_before m ns, run_more ns n)

height_more : (h : ℕ) (ns : List Element) (n : Element) → height_of (forest ns) ≤ h → height n ≤ h
    → height_of (forest (ns ++ n ∷ [])) ≤ h
height_more h [] n l m = m
height_more h (Primitive t xs ∷ ns) n l m = height_more h ns n l m
height_more h (Constructed t f ∷ ns) n l m =
    let others : height_of (forest ns) ≤ h = omega (arith, l) in
    omega (arith, l, height_more h ns n others m)

height_before : (h : ℕ) (n : Element) (ns : List Element) → height n ≤ h → height_of (forest ns) ≤ h
    → height_of (forest (n ∷ ns)) ≤ h
height_before h (Primitive t xs) ns l m = m
height_before h (Constructed t f) ns l m = omega (arith, l, m)

-- ---- an element, or elements, of no more than h levels and k octets

abbrev pub HasRoom : ℕ → ℕ → Option Element → Type 0
HasRoom h k None = ⊥
HasRoom h k (Some n) = (height n ≤ h) × (length (canonical n) ≤ k)

abbrev pub AreWithin : ℕ → ℕ → List Element → Type 0
AreWithin h k ns = (height_of (forest ns) ≤ h) × (run_len ns ≤ k)

abbrev pub HaveRoom : ℕ → ℕ → Option (List Element) → Type 0
HaveRoom h k None = ⊥
HaveRoom h k (Some ns) = AreWithin h k ns

abbrev pub total : List ℕ → ℕ
total [] = 0
total (k ∷ ks) = k + total ks

-- the same of a value that may be left out
abbrev pub IfThere : {A : Type 0} → ℕ → ℕ → (A → Option Element) → Option A → Type 0
IfThere h k spelt None = Unit {0}
IfThere h k spelt (Some x) = HasRoom h k (spelt x)

-- of the values of a table's places, with the octets of each
abbrev pub IsFitReply : {V : Type 0} → ℕ → (t : ComponentTable V) → Fields t → List ℕ → Type 0
IsFitReply h ended x ks = Unit {0}
IsFitReply h (required p get more) x [] = ⊥
IsFitReply h (required p get more) x (k ∷ ks) = HasRoom h k (p.spelling x.0) × IsFitReply h more x.1 ks
IsFitReply h (optional p get more) x [] = ⊥
IsFitReply h (optional p get more) x (k ∷ ks) = IfThere h k p.spelling x.0 × IsFitReply h more x.1 ks
IsFitReply h (also e get) x [] = ⊥
IsFitReply h (also e get) x (k ∷ ks) =
    (j m : ℕ) (out : List Element) → j + k ≤ m → AreWithin h j out → HaveRoom h m (e.spelling x out)

pushed : (h j k : ℕ) (out : List Element) (n : Element) → AreWithin h j out → height n ≤ h → length (canonical n) ≤ k
    → AreWithin h (j + k) (out ++ n ∷ [])
pushed h j k out n w l m = (height_more h out n w.0 l, omega (arith, run_more out n, w.1, m))

step : (h j k m : ℕ) (o : Option Element) (out : List Element) (rest : List Element → Option (List Element))
    → HasRoom h k o → AreWithin h j out
    → ((ns : List Element) → AreWithin h (j + k) ns → HaveRoom h m (rest ns))
    → HaveRoom h m (and_then (option_map (λ n. out ++ n ∷ []) o) rest)
step h j k m None out rest l w f = absurd l
step h j k m (Some n) out rest l w f = f (out ++ n ∷ []) (pushed h j k out n w l.0 l.1)

more_octets : (h j m : ℕ) (ns : List Element) → j ≤ m → AreWithin h j ns → AreWithin h m ns
more_octets h j m ns l w = (w.0, omega (arith, l, w.1))

step_if : {A : Type 0} (h j k m : ℕ) (spelt : A → Option Element) (o : Option A) (out : List Element)
    (rest : List Element → Option (List Element)) → IfThere h k spelt o
    → AreWithin h j out → ((ns : List Element) → AreWithin h (j + k) ns → HaveRoom h m (rest ns))
    → HaveRoom h m (and_then (optional_put spelt o out) rest)
step_if h j k m spelt None out rest l w f = f out (more_octets h j (j + k) out (omega arith) w)
step_if h j k m spelt (Some x) out rest l w f = step h j k m (spelt x) out rest l w f

pub of_table : {V : Type 0} (h j m : ℕ) (t : ComponentTable V) (x : Fields t) (ks : List ℕ) (out : List Element)
    → j + total ks ≤ m → IsFitReply h t x ks → AreWithin h j out → HaveRoom h m (put t x out)
of_table h j m ended x ks out l f w = more_octets h j m out (omega (arith, l)) w
of_table h j m (required p get more) x [] out l f w = absurd f
of_table h j m (required p get more) x (k ∷ ks) out l f w =
    let left : (j + k) + total ks ≤ m = omega (arith, l) in
    step h j k m (p.spelling x.0) out (λ ns. put more x.1 ns) f.0 w
    (λ ns v. of_table h (j + k) m more x.1 ks ns left f.1 v)
of_table h j m (optional p get more) x [] out l f w = absurd f
of_table h j m (optional p get more) x (k ∷ ks) out l f w =
    let left : (j + k) + total ks ≤ m = omega (arith, l) in
    step_if h j k m p.spelling x.0 out (λ ns. put more x.1 ns) f.0 w
    (λ ns v. of_table h (j + k) m more x.1 ks ns left f.1 v)
of_table h j m (also e get) x [] out l f w = absurd f
of_table h j m (also e get) x (k ∷ ks) out l f w = f j m out (omega (arith, l)) w

-- no elements yet
pub empty_past : (h : ℕ) → AreWithin h 0 []
empty_past h = (omega arith, omega arith)

-- one level more, and what stands before contents
pub of_around : (h k m : ℕ) (tag : AsnTag) (o : Option (List Element)) → k + 15 ≤ m → HaveRoom h k o
    → HasRoom (suc h) m (around tag o)
of_around h k m tag None l r = absurd r
of_around h k m tag (Some ns) l r = (omega (arith, r.0), omega (arith, run_few tag ns, l, r.1))

-- one before others
pub of_onto : (h j k m : ℕ) (o : Option Element) (os : Option (List Element)) → j + k ≤ m → HasRoom h j o
    → HaveRoom h k os → HaveRoom h m (with_head o os)
of_onto h j k m None os l a b = absurd a
of_onto h j k m (Some n) None l a b = absurd b
of_onto h j k m (Some n) (Some ns) l a b = (height_before h n ns a.0 b.0, omega (arith, run_before n ns, l, a.1, b.1))

-- ---- primitive elements, which have no levels

pub of_octets : (h k : ℕ) (tag : AsnTag) (xs : List ℕ) → length xs + 15 ≤ k → HasRoom h k (Some (Primitive tag xs))
of_octets h k tag xs l = (omega arith, omega (arith, octets_few tag xs, l))

shortest_few : (k : ℕ) (z : ℤ) → length (shortest k z) ≤ suc k
shortest_few zero z = omega arith
shortest_few (suc k) z =
    let last = last_octet z ∷ [] in
    let others = shortest k (int_div_euclid z (pos 256)) in
    elim (is_short z) as (λ b. length (cond b last (others ++ last)) ≤ suc (suc k)) [
      | true ↦ omega arith
      | false ↦ omega (arith, length-append others last, shortest_few k (int_div_euclid z (pos 256)))
    ]

integer_few : (z : ℤ) → length (integer_octets z) ≤ 8
unfolding integer_octets
integer_few z = shortest_few 7 z

pub of_integer : (h : ℕ) (tag : AsnTag) (z : ℤ) → is_i64 z ≡ true → HasRoom h 23 (int_spelling tag z)
of_integer h tag z is =
    subst (λ (b : Bool). HasRoom h 23 (cond b (Some (Primitive tag (integer_octets z))) None)) (sym is)
    (of_octets h 23 tag (integer_octets z) (omega (arith, integer_few z)))

-- five groups of seven bits hold an arc, and also the first two arcs
groups_few : (n : ℕ) → n < 2 ^ 35 → length (groups n) ≤ 5
groups_few n l =
    let high : n / 128 < 128 ^ 4 = omega (arith, l) in
    let most = length-digits_of-le 128 4 (n / 128) (omega arith) high in
    let same = length-map (digits_of 128 (n / 128)) (λ d. 128 + d) in
    omega (arith, length-append (group_fronts (n / 128)) (n % 128 ∷ []), same, most)

all_groups : (ns : List ℕ) → AllByRecursion (λ n. n < 2 ^ 32) ns → length (flat_map groups ns) ≤ 5 * length ns
all_groups [] h = omega arith
all_groups (n ∷ ns) h =
    let small : n < 2 ^ 35 = omega (arith, h.0) in
    omega (arith, length-append (groups n) (flat_map groups ns), groups_few n small, all_groups ns h.1)

arcs_few : (arcs : List ℕ) → IsOid arcs → length (oid_octets arcs) ≤ 5 * length arcs
arcs_few [] is = omega arith
arcs_few (a ∷ []) is = omega arith
arcs_few (a ∷ b ∷ arcs) is =
    let fits = recursion_from_All (λ n. n < 2 ^ 32) (a ∷ b ∷ arcs) is.fits in
    let small : 40 * a + b < 2 ^ 35 = omega (arith, is.root.0, fits.1.0) in
    let whole = length-append (groups (40 * a + b)) (flat_map groups arcs) in
    omega (arith, whole, groups_few (40 * a + b) small, all_groups arcs fits.1.1)

pub of_oid : (h k : ℕ) (tag : AsnTag) (arcs : List ℕ) → is_oid arcs ≡ true → 5 * length arcs + 15 ≤ k
    → HasRoom h k (oid_spelling tag arcs)
of_oid h k tag arcs is l =
    subst (λ (b : Bool). HasRoom h k (cond b (Some (Primitive tag (oid_octets arcs))) None)) (sym is)
    (of_octets h k tag (oid_octets arcs) (omega (arith, arcs_few arcs (is_oid_from_pass arcs is), l)))

-- ---- a number in decimal has no more than 64 digits

onto_few : (k n : ℕ) (acc : List ℕ) → length (digits_onto k 10 false n acc) ≤ k + length acc
onto_few zero n acc = omega arith
onto_few (suc k) n acc =
    let more = digit_glyph false (n % 10) ∷ acc in
    elim (n / 10 == 0) as (λ b. length (cond b more (digits_onto k 10 false (n / 10) more)) ≤ suc k + length acc) [
      | true ↦ omega arith
      | false ↦ omega (arith, onto_few k (n / 10) more)
    ]

pub decimal_few : (n : ℕ) → length (decimal n) ≤ 64
unfolding digits
decimal_few n = omega (arith, onto_few 64 n [])
