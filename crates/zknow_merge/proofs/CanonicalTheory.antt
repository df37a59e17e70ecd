-- Numbers and object identifiers in contents octets.
use Rattle.std.proofs.Common.{◌≡◌, ◌⊎◌, ◌<◌, ◌≤◌, ◌+◌, ◌*◌, ◌-◌, ◌/◌, ◌%◌, ◌^◌, ℕ, zero, suc, pos, true, false, List, [], ◌∷◌, ◌++◌, length, take, drop, get_or, refl, sym, ap, subst, ◌∙◌, inl, inr, ⊎_elim, arith}
use Rattle.std.proofs.lemmas.Bool.{lt-ltb, le-ltb}
use Rattle.std.specs.Int.{int_div_euclid}
use Rattle.zber.specs.Integers.{is_short, last_octet, shortest, integer_octets}
use Rattle.zber.specs.Oids.{is_oid, oid_octets, groups}
use Rattle.zber.specs.Spelling.{GroupsOf}
use Rattle.zber.proofs.OidSpelling.{only_groups}
use Rattle.zknow_merge.specs.Canonical.{IsOidOctets, IsSyntaxEnd}

-- ---- numbers

last_of : (k n : ℕ) → n < 128 → shortest k (pos n) ≡ n ∷ []
last_of zero n low = ap (λ (m : ℕ). m ∷ []) (omega (arith, low))
last_of (suc k) n low = rw (lt-ltb n 128 low) (ap (λ (m : ℕ). m ∷ []) (omega (arith, low)))

more_of : (k n a b : ℕ) → n ≡ a * 256 + b → b < 256 → 128 ≤ n → shortest (suc k) (pos n) ≡ shortest k (pos a) ++ b ∷ []
more_of k n a b is low high =
    let front : n / 256 ≡ a = omega (arith, is, low) in
    let end : n % 256 ≡ b = omega (arith, is, low) in
    rw (le-ltb n 128 high) (ap (λ (m : ℕ). shortest k (pos m) ++ n % 256 ∷ []) front
    ∙ ap (λ (m : ℕ). shortest k (pos a) ++ m ∷ []) end)

one_of : (a : ℕ) → a < 128 → a ∷ [] ≡ integer_octets (pos a)
unfolding integer_octets
one_of a low = sym (last_of 7 a low)

two_from : (k a b n : ℕ) → n ≡ a * 256 + b → a < 128 → b < 256 → 128 ≤ n → a ∷ b ∷ [] ≡ shortest (suc k) (pos n)
two_from k a b n is la lb high = sym (more_of k n a b is lb high ∙ ap (λ (l : List ℕ). l ++ b ∷ []) (last_of k a la))

three_from : (k a b c m n : ℕ) → m ≡ a * 256 + b → n ≡ m * 256 + c → a < 128 → b < 256 → c < 256 → 128 ≤ m
    → a ∷ b ∷ c ∷ [] ≡ shortest (suc (suc k)) (pos n)
three_from k a b c m n is_m is_n la lb lc high =
    ap (λ (l : List ℕ). l ++ c ∷ []) (two_from k a b m is_m la lb high)
    ∙ sym (more_of (suc k) n m c is_n lc (omega (arith, is_n, high)))

four_from : (k a b c d m n o : ℕ) → m ≡ a * 256 + b → n ≡ m * 256 + c → o ≡ n * 256 + d → a < 128 → b < 256 → c < 256
    → d < 256 → 128 ≤ m → a ∷ b ∷ c ∷ d ∷ [] ≡ shortest (suc (suc (suc k))) (pos o)
four_from k a b c d m n o is_m is_n is_o la lb lc ld high =
    ap (λ (l : List ℕ). l ++ d ∷ []) (three_from k a b c m n is_m is_n la lb lc high)
    ∙ sym (more_of (suc (suc k)) o n d is_o ld (omega (arith, is_o, is_n, high)))

-- ---- as the code has them

-- each number of the list is an octet
abbrev pub AreOctets : List ℕ → Type 0
AreOctets xs = (k : ℕ) → get_or xs k 0 < 256

pub one : (xs : List ℕ) (n : ℕ) → 1 ≤ length xs → length xs < 2 → n ≡ get_or xs 0 0 → n < 128
    → xs ≡ integer_octets (pos n)
one [] n some few is low = absurd (omega (arith, some))
one (a ∷ []) n some few is low = subst (λ (m : ℕ). a ∷ [] ≡ integer_octets (pos m)) (sym is)
    (one_of a (omega (arith, is, low)))
one (a ∷ b ∷ xs) n some few is low = absurd (omega (arith, few))

pub two : (xs : List ℕ) (n : ℕ) → 2 ≤ length xs → length xs < 3 → AreOctets xs
    → n ≡ get_or xs 0 0 * 256 + get_or xs 1 0 → get_or xs 0 0 < 128 → 128 ≤ n → xs ≡ integer_octets (pos n)
unfolding integer_octets
two [] n some few each is low high = absurd (omega (arith, some))
two (a ∷ []) n some few each is low high = absurd (omega (arith, some))
two (a ∷ b ∷ []) n some few each is low high = two_from 6 a b n is low (each 1) high
two (a ∷ b ∷ c ∷ xs) n some few each is low high = absurd (omega (arith, few))

pub three : (xs : List ℕ) (m n : ℕ) → 3 ≤ length xs → length xs < 4 → AreOctets xs
    → m ≡ get_or xs 0 0 * 256 + get_or xs 1 0 → n ≡ m * 256 + get_or xs 2 0 → get_or xs 0 0 < 128 → 128 ≤ m
    → xs ≡ integer_octets (pos n)
unfolding integer_octets
three [] m n some few each is_m is_n low high = absurd (omega (arith, some))
three (a ∷ []) m n some few each is_m is_n low high = absurd (omega (arith, some))
three (a ∷ b ∷ []) m n some few each is_m is_n low high = absurd (omega (arith, some))
three (a ∷ b ∷ c ∷ []) m n some few each is_m is_n low high = three_from 5 a b c m n is_m is_n low (each 1) (each 2)
    high
three (a ∷ b ∷ c ∷ d ∷ xs) m n some few each is_m is_n low high = absurd (omega (arith, few))

pub four : (xs : List ℕ) (m n o : ℕ) → 4 ≤ length xs → length xs < 5 → AreOctets xs
    → m ≡ get_or xs 0 0 * 256 + get_or xs 1 0 → n ≡ m * 256 + get_or xs 2 0 → o ≡ n * 256 + get_or xs 3 0
    → get_or xs 0 0 < 128 → 128 ≤ m → xs ≡ integer_octets (pos o)
unfolding integer_octets
four [] m n o some few each is_m is_n is_o low high = absurd (omega (arith, some))
four (a ∷ []) m n o some few each is_m is_n is_o low high = absurd (omega (arith, some))
four (a ∷ b ∷ []) m n o some few each is_m is_n is_o low high = absurd (omega (arith, some))
four (a ∷ b ∷ c ∷ []) m n o some few each is_m is_n is_o low high = absurd (omega (arith, some))
four (a ∷ b ∷ c ∷ d ∷ []) m n o some few each is_m is_n is_o low high = four_from 4 a b c d m n o is_m is_n is_o low
    (each 1) (each 2) (each 3) high
four (a ∷ b ∷ c ∷ d ∷ e ∷ xs) m n o some few each is_m is_n is_o low high = absurd (omega (arith, few))

-- ---- object identifiers

one_group : (n : ℕ) → n < 128 → n ∷ [] ≡ groups n
one_group n low = only_groups {n = n} {xs = n ∷ []} (record {
  groups = low;
  shortest = λ e. omega
      (arith, e, low);
  value = omega (arith, low);
})

short_is : (n : ℕ) → n < 128 → is_oid (1 ∷ 2 ∷ 840 ∷ 10003 ∷ 5 ∷ n ∷ []) ≡ true
short_is n low = rw (lt-ltb n (2 ^ 32) (omega (arith, low))) refl

long_is : (n : ℕ) → n < 128 → is_oid (1 ∷ 2 ∷ 840 ∷ 10003 ∷ 5 ∷ 109 ∷ n ∷ []) ≡ true
long_is n low = rw (lt-ltb n (2 ^ 32) (omega (arith, low))) refl

short_oid : (n : ℕ) → n < 128 → IsOidOctets (42 ∷ 134 ∷ 72 ∷ 206 ∷ 19 ∷ 5 ∷ n ∷ [])
short_oid n low = (
  1 ∷ 2 ∷ 840 ∷ 10003 ∷ 5 ∷ n ∷ [],
  short_is n low,
  ap (λ (g : List ℕ). 42 ∷ 134 ∷ 72 ∷ 206 ∷ 19 ∷ 5 ∷ (g ++ [])) (one_group n low),
)

long_oid : (n : ℕ) → n < 128 → IsOidOctets (42 ∷ 134 ∷ 72 ∷ 206 ∷ 19 ∷ 5 ∷ 109 ∷ n ∷ [])
long_oid n low = (
  1 ∷ 2 ∷ 840 ∷ 10003 ∷ 5 ∷ 109 ∷ n ∷ [],
  long_is n low,
  ap (λ (g : List ℕ). 42 ∷ 134 ∷ 72 ∷ 206 ∷ 19 ∷ 5 ∷ 109 ∷ (g ++ [])) (one_group n low),
)

ended_oid : (end : List ℕ) → IsSyntaxEnd end → IsOidOctets (42 ∷ 134 ∷ 72 ∷ 206 ∷ 19 ∷ 5 ∷ end)
ended_oid end is = ⊎_elim
    (λ short. subst (λ (l : List ℕ). IsOidOctets (42 ∷ 134 ∷ 72 ∷ 206 ∷ 19 ∷ 5 ∷ l)) (sym short) (short_oid is.0 is.1))
    (λ long. subst (λ (l : List ℕ). IsOidOctets (42 ∷ 134 ∷ 72 ∷ 206 ∷ 19 ∷ 5 ∷ l)) (sym long) (long_oid is.0 is.1))
    is.2

parts_oid : (a b c d e f : ℕ) (end : List ℕ) → (a ≡ 42) × (b ≡ 134) × (c ≡ 72) × (d ≡ 206) × (e ≡ 19) × (f ≡ 5)
    → IsSyntaxEnd end → IsOidOctets (a ∷ b ∷ c ∷ d ∷ e ∷ f ∷ end)
parts_oid a b c d e f end is ended = rw (is.0, is.1, is.2, is.3, is.4, is.5) (ended_oid end ended)

take_all : (n : ℕ) (xs : List ℕ) → n ≡ length xs → take n xs ≡ xs
take_all zero [] e = refl
take_all (suc n) [] e = refl
take_all zero (x ∷ xs) e = absurd (omega (arith, e))
take_all (suc n) (x ∷ xs) e = ap (λ (l : List ℕ). x ∷ l) (take_all n xs (omega (arith, e)))

pub syntax_oid : (xs end : List ℕ) → 6 ≤ length xs → AreOctets xs → end ≡ take (length xs - 6) (drop 6 xs)
    → (get_or xs 0 0 * 256 + get_or xs 1 0) * 256 + get_or xs 2 0 ≡ 2786888
    → (get_or xs 3 0 * 256 + get_or xs 4 0) * 256 + get_or xs 5 0 ≡ 13505285
    → IsSyntaxEnd end → IsOidOctets xs
syntax_oid [] end some each is front middle ended = absurd (omega (arith, some))
syntax_oid (a ∷ []) end some each is front middle ended = absurd (omega (arith, some))
syntax_oid (a ∷ b ∷ []) end some each is front middle ended = absurd (omega (arith, some))
syntax_oid (a ∷ b ∷ c ∷ []) end some each is front middle ended = absurd (omega (arith, some))
syntax_oid (a ∷ b ∷ c ∷ d ∷ []) end some each is front middle ended = absurd (omega (arith, some))
syntax_oid (a ∷ b ∷ c ∷ d ∷ e ∷ []) end some each is front middle ended = absurd (omega (arith, some))
syntax_oid (a ∷ b ∷ c ∷ d ∷ e ∷ f ∷ xs) end some each is front middle ended =
    let la : a < 256 = each 0 in
    let lb : b < 256 = each 1 in
    let lc : c < 256 = each 2 in
    let ld : d < 256 = each 3 in
    let le : e < 256 = each 4 in
    let lf : f < 256 = each 5 in
    parts_oid a b c d e f xs (
      omega (arith, front, la, lb, lc),
      omega (arith, front, la, lb, lc),
      omega (arith, front, la, lb, lc),
      omega (arith, middle, ld, le, lf),
      omega (arith, middle, ld, le, lf),
      omega (arith, middle, ld, le, lf),
    ) (subst IsSyntaxEnd (is ∙ take_all (length (a ∷ b ∷ c ∷ d ∷ e ∷ f ∷ xs) - 6) xs (omega arith)) ended)
