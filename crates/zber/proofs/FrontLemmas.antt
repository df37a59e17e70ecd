-- The front of a header, one octet further.
use Rattle.std.proofs.Common.{◌≡◌, ◌≢◌, ℕ, ◌+◌, ◌*◌, ◌-◌, ◌%◌, ◌^◌, ◌<◌, ◌≤◌, Bool, true, false, ◌⊎◌, List, [], ◌∷◌, ◌++◌, length, refl, ap, arith, append_assoc, length-append, Some, None}
use Rattle.zber.specs.declared.tag.Class.{Class}
use Rattle.zber.specs.declared.tag.Class.TheVariants.{Universal}
use Rattle.zber.specs.declared.fault.HeaderPlace.{HeaderPlace}
use Rattle.zber.specs.declared.fault.FaultKind.TheVariants as kind
use Rattle.zber.specs.AsnTags.{AsnTag, IsTag}
use Rattle.zber.specs.Spelling.{octets_from, lead, Identifier, low, high, short, long}
use Rattle.zber.specs.Headers.{Header, of_size, of_mark, HasHeaderFault, tag_form, tag_too_large, stray_end, half_stray_end, constructed_end, length_form, indefinite_primitive}
use Rattle.zber.specs.Fronts.{GroupsFront, SizeFront}
use Rattle.zber.proofs.GroupLemmas.{groups_from-append, first-append, formed_more, groups_whole}
use Rattle.zber.proofs.HeaderLemmas.{octets_from-append, below_more, below_8}

none_formed : (xs : List ℕ) (n : ℕ) → GroupsFront xs n → n ≡ 0 → xs ≡ []
none_formed [] n f e = refl
none_formed (x ∷ xs) n f e = absurd (omega (arith, f.some (omega arith)))

number_zero : (xs : List ℕ) (n : ℕ) → GroupsFront xs n → length xs ≡ 0 → n ≡ 0
number_zero [] n f e = f.value
number_zero (x ∷ xs) n f e = absurd (omega arith)

pub group_bad : (class : Class) (c : Bool) (xs : List ℕ) (n x : ℕ) → GroupsFront xs n → (n ≡ 0) × ((x ≡ 128) ⊎ (x < 31)) → (p : HeaderPlace) (rest : List ℕ) → HasHeaderFault p (lead class c 31 ∷ ((xs ++ x ∷ []) ++ rest)) kind.TagForm
group_bad class c xs n x f b p rest = rw (none_formed xs n f b.0) (tag_form class c (x ∷ rest) b.1)

pub group_large : (class : Class) (c : Bool) (xs : List ℕ) (n x : ℕ) → GroupsFront xs n → (n ≡ 0 → (x ≢ 128) × (31 ≤ x)) → x < 256 → 2 ^ 32 ≤ n * 128 + x % 128 → (p : HeaderPlace) (rest : List ℕ) → HasHeaderFault p (lead class c 31 ∷ ((xs ++ x ∷ []) ++ rest)) kind.TagTooLarge
group_large class c xs n x f g b q p rest =
    rw (append_assoc xs (x ∷ []) rest) (tag_too_large class c x xs rest f.go_on (first-append xs x f.shortest (λ e. (g (number_zero xs n f e)).0)) b (omega (arith, groups_from-append 0 xs x, f.value)))

pub group_more : (xs : List ℕ) (n x : ℕ) → GroupsFront xs n → (n ≡ 0 → (x ≢ 128) × (31 ≤ x)) → 128 ≤ x → x < 256 → n * 128 + x % 128 < 2 ^ 32 → GroupsFront (xs ++ x ∷ []) (n * 128 + x % 128)
group_more xs n x f g p b q = formed_more xs x n f (λ e. (g (number_zero xs n f e)).0) p b q

pub group_last : (m : AsnTag) (class : Class) (c : Bool) (xs : List ℕ) (n x : ℕ) → GroupsFront xs n → (n ≡ 0 → (x ≢ 128) × (31 ≤ x)) → x < 128 → IsTag m → m.class ≡ class → m.number ≡ n * 128 + x % 128 → Identifier m c (lead class c 31 ∷ (xs ++ x ∷ []))
group_last m class c xs n x f g p t k q =
    let w = groups_whole xs x n f (λ e. g (number_zero xs n f e)) p in
    rw (← k) (high {xs = xs ++ x ∷ []} t (omega (arith, w.0, q)) (rw q w.1))

pub first_low : (m : AsnTag) (class : Class) (c : Bool) (x low' : ℕ) → x ≡ lead class c low' → low' < 32 → (low' ≡ 31 → ⊥) → IsTag m → m.class ≡ class → m.number ≡ low' → Identifier m c (x ∷ [])
first_low m class c x low' is l ne t k q = rw (is, ← q, ← k) (low t (omega (arith, l, ne, q)))

pub stray : (p : HeaderPlace) (class : Class) (c : Bool) (x low' : ℕ) (rest : List ℕ) → x ≡ lead class c low' → class ≡ Universal → low' ≡ 0 → (c ≡ false → p.marked ≡ false) → HasHeaderFault p (x ∷ rest) kind.StrayEnd
stray p class true x low' rest is k l m = rw (is, k, l) constructed_end
stray p class false x low' rest is k l m = rw (is, k, l) (stray_end (m refl))

pub half : (p : HeaderPlace) (xs : List ℕ) (x : ℕ) (rest : List ℕ) → (p.marked ≡ true) → xs ≡ 0 ∷ [] → (x ≡ 0 → ⊥) → HasHeaderFault p ((xs ++ x ∷ []) ++ rest) kind.StrayEnd
half p xs x rest m e n = rw e (half_stray_end m n)

pub length_is : (n : AsnTag) (c : Bool) (x : ℕ) (i : List ℕ) → Identifier n c i → x < 128 → Header n c (Some x) (i ++ x ∷ [])
length_is n c x i id p = of_size id (short p)

pub mark_is : (n : AsnTag) (c : Bool) (x : ℕ) (i : List ℕ) → Identifier n c i → c ≡ true → x ≡ 128 → Header n c None (i ++ x ∷ [])
mark_is n c x i id q e = rw (q, e) (of_mark (rw q at id))

pub mark_bad : (n : AsnTag) (c : Bool) (x : ℕ) (i rest : List ℕ) (p : HeaderPlace) → Identifier n c i → c ≡ false → x ≡ 128 → HasHeaderFault p ((i ++ x ∷ []) ++ rest) kind.IndefinitePrimitive
mark_bad n c x i rest p id q e = rw (append_assoc i (x ∷ []) rest, e) (indefinite_primitive rest (rw q at id))

pub length_bad : (n : AsnTag) (c : Bool) (x : ℕ) (i rest : List ℕ) (p : HeaderPlace) → Identifier n c i → 136 < x → HasHeaderFault p ((i ++ x ∷ []) ++ rest) kind.LengthForm
length_bad n c x i rest p id q = rw (append_assoc i (x ∷ []) rest) (length_form x rest id q)

pub size_more : (xs : List ℕ) (left size x : ℕ) → SizeFront xs left size → (left ≡ 1 → ⊥) → x < 256 → SizeFront (xs ++ x ∷ []) (left - 1) (size * 256 + x)
size_more xs left size x f n b = record {
  some = omega (arith, f.some, n);
  few = omega (arith, f.few, f.some, length-append xs (x ∷ []));
  value = omega (arith, octets_from-append 0 xs x, f.value);
  below = rw (length-append xs (x ∷ [])) (below_more size (length xs) x f.below b);
}

pub size_count : (i xs : List ℕ) (left x : ℕ) → 0 < left → i ++ (128 + (length xs + left)) ∷ (xs ++ x ∷ []) ≡ i ++ (128 + (length (xs ++ x ∷ []) + (left - 1))) ∷ (xs ++ x ∷ [])
size_count i xs left x p = ap (λ k. i ++ k ∷ (xs ++ x ∷ [])) (omega (arith, p, length-append xs (x ∷ [])))

pub size_last : (n : AsnTag) (c : Bool) (i xs : List ℕ) (left size x : ℕ) → Identifier n c i → SizeFront xs left size → left ≡ 1 → Header n c (Some (size * 256 + x)) (i ++ (128 + (length xs + left)) ∷ (xs ++ x ∷ []))
size_last n c i xs left size x id f e =
    let value : octets_from 0 (xs ++ x ∷ []) ≡ size * 256 + x = omega (arith, octets_from-append 0 xs x, f.value) in
    let count : length (xs ++ x ∷ []) ≡ length xs + left = omega (arith, length-append xs (x ∷ []), e) in
    rw (← value, ← count) (of_size id (long {xs = xs ++ x ∷ []} (omega (arith, count, f.some)) (omega (arith, count, f.few))))

pub size_small : (xs : List ℕ) (left size : ℕ) → SizeFront xs left size → size < 2 ^ 56
size_small xs left size f = below_8 size (length xs) f.below (omega (arith, f.some, f.few))
