-- How many octets the canonical encodings of elements have at most, place by place.
use Rattle.std.proofs.Common.{◌≡◌, ℕ, zero, suc, ◌+◌, ◌*◌, ◌≤◌, ℤ, Bool, true, false, cond, List, [], ◌∷◌, ◌++◌, length, Option, Some, None, refl, sym, subst, arith}
use Rattle.std.specs.Prelude.{drop}
use Rattle.zber.specs.AsnTags.{AsnTag}
use Rattle.zber.specs.Bits.{packed_octets, octet_count, bit_octets}
use Rattle.zber.specs.Elements.{Element, Primitive}
use Rattle.zber.specs.Integers.{integer_octets}
use Rattle.zber.specs.Oids.{oid_octets, is_oid}
use Rattle.zber.proofs.ElementSizes.{run_len}
use Rattle.zasn.specs.Building.{◌>>=◌ as and_then, optional_put}
use Rattle.zasn.specs.Meanings.{is_i64, octets_spelling, oid_spelling, bits_spelling, int_spelling, bool_spelling}
use Rattle.zasn.specs.Place.{Place}
use Rattle.zasn.specs.Places.{explicit}
use Rattle.zasn.specs.Reading.{option_map}
use Rattle.zasn.specs.Table.{ComponentTable, required, optional, also, ended, Fields, put}
use Rattle.zasn.specs.Within.{around, with_head, all_spellings}
use Rattle.ztarget.specs.Showing.{encoded_size}
use Rattle.zorigin.proofs.SendableSizes.{HasRoom, total, octets_few, run_few, run_before, run_more, of_integer as integer_room, of_oid as oid_room}

-- how many octets the encodings of elements have together; 0 if there are none
abbrev pub run_size : Option (List Element) → ℕ
run_size None = 0
run_size (Some ns) = run_len ns

-- the same of the element of a value that may be left out
abbrev pub optional_size : {A : Type 0} → (A → Option Element) → Option A → ℕ
optional_size spelt None = 0
optional_size spelt (Some x) = encoded_size (spelt x)

-- the values of a table's places have no more octets than these, place by place
abbrev pub AreShort : {V : Type 0} (t : ComponentTable V) → Fields t → List ℕ → Type 0
AreShort ended x ks = Unit {0}
AreShort (required p get more) x [] = ⊥
AreShort (required p get more) x (k ∷ ks) = (encoded_size (p.spelling x.0) ≤ k) × AreShort more x.1 ks
AreShort (optional p get more) x [] = ⊥
AreShort (optional p get more) x (k ∷ ks) = (optional_size p.spelling x.0 ≤ k) × AreShort more x.1 ks
AreShort (also e get) x [] = ⊥
AreShort (also e get) x (k ∷ ks) = (out : List Element) → run_size (e.spelling x out) ≤ run_len out + k

step : (k m : ℕ) (o : Option Element) (out : List Element) (rest : List Element → Option (List Element))
    → encoded_size o ≤ k → ((ns : List Element) → run_size (rest ns) ≤ run_len ns + m)
    → run_size (and_then (option_map (λ n. out ++ n ∷ []) o) rest) ≤ run_len out + (k + m)
step k m None out rest l f = omega arith
step k m (Some n) out rest l f = let r = f (out ++ n ∷ []) in omega (arith, r, l, run_more out n)

step_if : {A : Type 0} (k m : ℕ) (spelt : A → Option Element) (o : Option A) (out : List Element)
    (rest : List Element → Option (List Element)) → optional_size spelt o ≤ k
    → ((ns : List Element) → run_size (rest ns) ≤ run_len ns + m)
    → run_size (and_then (optional_put spelt o out) rest) ≤ run_len out + (k + m)
step_if k m spelt None out rest l f = let r = f out in omega (arith, r)
step_if k m spelt (Some x) out rest l f = step k m (spelt x) out rest l f

pub of_table : {V : Type 0} (t : ComponentTable V) (x : Fields t) (ks : List ℕ) (out : List Element) → AreShort t x ks
    → run_size (put t x out) ≤ run_len out + total ks
of_table ended x ks out s = omega arith
of_table (required p get more) x [] out s = absurd s
of_table (required p get more) x (k ∷ ks) out s =
    step k (total ks) (p.spelling x.0) out (λ ns. put more x.1 ns) s.0 (λ ns. of_table more x.1 ks ns s.1)
of_table (optional p get more) x [] out s = absurd s
of_table (optional p get more) x (k ∷ ks) out s =
    step_if k (total ks) p.spelling x.0 out (λ ns. put more x.1 ns) s.0 (λ ns. of_table more x.1 ks ns s.1)
of_table (also e get) x [] out s = absurd s
of_table (also e get) x (k ∷ ks) out s = let r = s out in omega (arith, r)

-- from the first element on
pub of_places : {V : Type 0} (t : ComponentTable V) (x : Fields t) (ks : List ℕ) (m : ℕ) → total ks ≤ m
    → AreShort t x ks → run_size (put t x []) ≤ m
of_places t x ks m l s = omega (arith, of_table t x ks [] s)

-- ---- elements within an element

pub of_around : (k m : ℕ) (tag : AsnTag) (o : Option (List Element)) → run_size o ≤ k → k + 15 ≤ m
    → encoded_size (around tag o) ≤ m
of_around k m tag None l h = omega arith
of_around k m tag (Some ns) l h = omega (arith, run_few tag ns, l, h)

pub of_explicit : {A : Type 0} (k m : ℕ) (tag : AsnTag) (p : Place A) (x : A) → encoded_size (p.spelling x) ≤ k
    → k + 15 ≤ m → encoded_size ((explicit tag p).spelling x) ≤ m
of_explicit k m tag p x l h =
    of_around k m tag (put (required p (λ y. y) ended) (x, tt) [])
    (of_places (required p (λ y. y) ended) (x, tt) (k ∷ []) k (omega arith) (l, tt)) h

-- the octets of the encodings of a list's values together
abbrev pub list_size : {A : Type 0} → (A → Option Element) → List A → ℕ
list_size spelt [] = 0
list_size spelt (x ∷ xs) = encoded_size (spelt x) + list_size spelt xs

joined : (o : Option Element) (os : Option (List Element)) (m : ℕ) → run_size os ≤ m
    → run_size (with_head o os) ≤ encoded_size o + m
joined None os m l = omega arith
joined (Some n) None m l = omega arith
joined (Some n) (Some ns) m l = omega (arith, run_before n ns, l)

pub of_list : {A : Type 0} (spelt : A → Option Element) (xs : List A)
    → run_size (all_spellings spelt xs) ≤ list_size spelt xs
of_list spelt [] = omega arith
of_list spelt (x ∷ xs) = joined (spelt x) (all_spellings spelt xs) (list_size spelt xs) (of_list spelt xs)

-- ---- primitive elements

pub of_text : (tag : AsnTag) (xs : List ℕ) (m : ℕ) → length xs + 15 ≤ m → encoded_size (octets_spelling tag xs) ≤ m
of_text tag xs m h = omega (arith, octets_few tag xs, h)

pub of_boolean : (tag : AsnTag) (b : Bool) → encoded_size (bool_spelling tag b) ≤ 16
of_boolean tag true = omega (arith, octets_few tag (255 ∷ []))
of_boolean tag false = omega (arith, octets_few tag (0 ∷ []))

packed_few : (k : ℕ) (bits : List Bool) → length (packed_octets k bits) ≡ k
packed_few zero bits = refl
packed_few (suc k) bits = omega (arith, packed_few k (drop 8 bits))

pub of_bits : (tag : AsnTag) (bits : List Bool) (m : ℕ) → length bits + 23 ≤ m
    → encoded_size (bits_spelling tag bits) ≤ m
of_bits tag bits m h =
    let octets = packed_few (octet_count bits) bits in
    let few = octets_few tag (bit_octets bits) in
    omega (arith, octets, few, h)

has_room : (k : ℕ) (o : Option Element) → HasRoom 0 k o → encoded_size o ≤ k
has_room k None h = absurd h
has_room k (Some n) h = h.1

pub of_integer : (tag : AsnTag) (z : ℤ) → encoded_size (int_spelling tag z) ≤ 23
of_integer tag z = by (is_i64 z) refl
  where
    by : (b : Bool) → is_i64 z ≡ b → encoded_size (int_spelling tag z) ≤ 23
    by true e = has_room 23 (int_spelling tag z) (integer_room 0 tag z e)
    by false e =
        subst (λ (b : Bool). encoded_size (cond b (Some (Primitive tag (integer_octets z))) None) ≤ 23) (sym e)
        (omega arith)

pub of_oid : (tag : AsnTag) (arcs : List ℕ) (m : ℕ) → 5 * length arcs + 15 ≤ m
    → encoded_size (oid_spelling tag arcs) ≤ m
of_oid tag arcs m h = by (is_oid arcs) refl
  where
    by : (b : Bool) → is_oid arcs ≡ b → encoded_size (oid_spelling tag arcs) ≤ m
    by true e = has_room m (oid_spelling tag arcs) (oid_room 0 m tag arcs e h)
    by false e =
        subst (λ (b : Bool). encoded_size (cond b (Some (Primitive tag (oid_octets arcs))) None) ≤ m) (sym e)
        (omega arith)
