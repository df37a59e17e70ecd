-- The words of a text, cut one by one from its copy in lower case.
use Rattle.std.proofs.Common.{◌≡◌, refl, sym, ◌∙◌, ap, inl, inr, ℕ, zero, suc, ◌+◌, ◌<◌, ◌≤◌, List, [], ◌∷◌, ◌++◌, Bool, true, false, not, ◌&&◌, ◌||◌, cond, length, take, drop, map, filter, nat_lt, nat_le, append_assoc, arith}
use Rattle.std.proofs.lemmas.Bool.{le-leb, ltb-true, ltb-false}
use Rattle.std.proofs.lemmas.List.{append-nil, take_all, drop_all}
use Rattle.std.specs.Char.{to_ascii_lowercase}
use Rattle.std.specs.List.{slice_split, onto_first, position_or_len}
use Rattle.std.specs.Prelude.{◌⊎◌}
use Rattle.ztarget.specs.Words.{is_in_words, is_between, has_octets, word_runs, folded, words}

-- the first part, and those of what is left
module _ {X : Type 0} (p : X → Bool) where
  abbrev IsCut : List X → List (List X) → ℕ → Type 0
  IsCut xs parts n = ((parts ≡ xs ∷ []) × (n ≡ length xs)) ⊎ (parts ≡ take n xs ∷ slice_split p (drop (n + 1) xs))

  longer : (x : X) (xs : List X) (parts : List (List X)) (n : ℕ) → IsCut xs parts n → IsCut (x ∷ xs) (onto_first x parts) (1 + n)
  longer x xs parts n (inl whole) = inl (ap (onto_first x) whole.0, omega (arith, whole.1))
  longer x xs parts n (inr more) =
      let front : take (1 + n) (x ∷ xs) ≡ x ∷ take n xs = let is : 1 + n ≡ suc n = omega arith in ap (λ k. take k (x ∷ xs)) is in
      let behind : drop (1 + n + 1) (x ∷ xs) ≡ drop (n + 1) xs = let is : 1 + n + 1 ≡ suc (n + 1) = omega arith in ap (λ k. drop k (x ∷ xs)) is in
      inr (ap (onto_first x) more ∙ (λ i. sym front i ∷ slice_split p (sym behind i)))

  is_cut : (xs : List X) → IsCut xs (slice_split p xs) (position_or_len p xs)
  is_cut [] = inl (refl, refl)
  is_cut (x ∷ xs) = elim (p x) as (λ b. IsCut (x ∷ xs) (cond b ([] ∷ slice_split p xs) (onto_first x (slice_split p xs))) (cond (not b) (1 + position_or_len p xs) 0)) [
    | true ↦ inr refl
    | false ↦ longer x xs (slice_split p xs) (position_or_len p xs) (is_cut xs)
  ]

put_first : (front : List ℕ) (others : List (List ℕ)) → filter has_octets (front ∷ others) ≡ filter has_octets (front ∷ []) ++ filter has_octets others
put_first [] others = refl
put_first (b ∷ bs) others = refl

first_run : (xs : List ℕ) (parts : List (List ℕ)) (n : ℕ) → IsCut is_between xs parts n → filter has_octets parts ≡ filter has_octets (take n xs ∷ []) ++ word_runs (drop (n + 1) xs)
first_run xs parts n (inl whole) =
    ap (filter has_octets) whole.0
    ∙ sym (append-nil (filter has_octets (xs ∷ [])))
    ∙ (λ i. filter has_octets (sym (take_all n xs (omega (arith, whole.1))) i ∷ []) ++ word_runs (sym (drop_all (n + 1) xs (omega (arith, whole.1))) i))
first_run xs parts n (inr more) = ap (filter has_octets) more ∙ put_first (take n xs) (slice_split is_between (drop (n + 1) xs))

drop_one : (n : ℕ) (xs : List ℕ) → drop 1 (drop n xs) ≡ drop (n + 1) xs
drop_one zero xs = refl
drop_one (suc n) [] = sym (drop_all (suc n + 1) [] (omega arith))
drop_one (suc n) (x ∷ xs) = drop_one n xs ∙ (let is : suc (n + 1) ≡ suc n + 1 = omega arith in ap (λ k. drop k (x ∷ xs)) is)

drop_at_most_one : (xs : List ℕ) (m : ℕ) → (0 < length xs → m ≡ 1) → drop m xs ≡ drop 1 xs
drop_at_most_one [] zero one = refl
drop_at_most_one [] (suc m) one = refl
drop_at_most_one (x ∷ xs) m one = ap (λ k. drop k (x ∷ xs)) (one (omega arith))

-- one word more
pub word_more : (text rest front behind : List ℕ) (n m : ℕ) (so_far next : List (List ℕ)) → n ≡ position_or_len is_between rest → front ≡ take n rest → behind ≡ drop n rest → (0 < length behind → m ≡ 1)
    → next ≡ so_far ++ filter has_octets (front ∷ []) → so_far ++ word_runs rest ≡ words text → next ++ word_runs (drop m behind) ≡ words text
word_more text rest front behind n m so_far next first is_front is_behind one put before =
    (λ i. put i ++ word_runs (drop_at_most_one behind m one i))
    ∙ (λ i. (so_far ++ filter has_octets (is_front i ∷ [])) ++ word_runs (drop 1 (is_behind i)))
    ∙ (λ i. (so_far ++ filter has_octets (take (first i) rest ∷ [])) ++ word_runs (drop 1 (drop (first i) rest)))
    ∙ ap (λ left. (so_far ++ filter has_octets (take (position_or_len is_between rest) rest ∷ [])) ++ word_runs left) (drop_one (position_or_len is_between rest) rest)
    ∙ append_assoc so_far _ _
    ∙ ap (λ l. so_far ++ l) (sym (first_run rest (slice_split is_between rest) (position_or_len is_between rest) (is_cut is_between rest)))
    ∙ before

-- letters stay letters
of_second : (x y z : Bool) → (((x || true) || y) || z) ≡ true
of_second true y z = refl
of_second false y z = refl

of_third : (x z : Bool) → ((x || true) || z) ≡ true
of_third true z = refl
of_third false z = refl

is_letter : (b : ℕ) → 65 ≤ b → b < 91 → is_in_words b ≡ true
is_letter b from to =
    (λ i. (((nat_le 48 b && nat_le b 57) || (le-leb 65 b from i && le-leb b 90 (omega (arith, to)) i)) || (nat_le 97 b && nat_le b 122)) || nat_le 128 b)
    ∙ of_second (nat_le 48 b && nat_le b 57) (nat_le 97 b && nat_le b 122) (nat_le 128 b)

is_small_letter : (b : ℕ) → 97 ≤ b → b < 123 → is_in_words b ≡ true
is_small_letter b from to =
    (λ i. (((nat_le 48 b && nat_le b 57) || (nat_le 65 b && nat_le b 90)) || (le-leb 97 b from i && le-leb b 122 (omega (arith, to)) i)) || nat_le 128 b)
    ∙ of_third ((nat_le 48 b && nat_le b 57) || (nat_le 65 b && nat_le b 90)) (nat_le 128 b)

fold_between : (b : ℕ) (less more : Bool) → nat_lt b 65 ≡ less → nat_lt b 91 ≡ more → is_between (cond less b (cond more (b + 32) b)) ≡ is_between b
fold_between b true more below_it beyond = refl
fold_between b false false below_it beyond = refl
fold_between b false true below_it beyond =
    let from : 65 ≤ b = ltb-false b 65 below_it in
    let to : b < 91 = ltb-true b 91 beyond in
    ap not (is_small_letter (b + 32) (omega (arith, from)) (omega (arith, to)) ∙ sym (is_letter b from to))

still_between : (b : ℕ) → is_between (to_ascii_lowercase b) ≡ is_between b
still_between b = fold_between b _ _ refl refl

lower_first : (b : ℕ) (parts : List (List ℕ)) → onto_first (to_ascii_lowercase b) (map folded parts) ≡ map folded (onto_first b parts)
lower_first b [] = refl
lower_first b (part ∷ parts) = refl

lowered_parts : (bs : List ℕ) → slice_split is_between (map to_ascii_lowercase bs) ≡ map folded (slice_split is_between bs)
lowered_parts [] = refl
lowered_parts (b ∷ bs) =
    (λ i. cond (still_between b i) ([] ∷ lowered_parts bs i) (onto_first (to_ascii_lowercase b) (lowered_parts bs i)))
    ∙ (elim (is_between b) as (λ c. cond c ([] ∷ map folded (slice_split is_between bs)) (onto_first (to_ascii_lowercase b) (map folded (slice_split is_between bs))) ≡ map folded (cond c ([] ∷ slice_split is_between bs) (onto_first b (slice_split is_between bs)))) [
      | true ↦ refl
      | false ↦ lower_first b (slice_split is_between bs)
    ])

lowered_runs : (parts : List (List ℕ)) → filter has_octets (map folded parts) ≡ map folded (filter has_octets parts)
lowered_runs [] = refl
lowered_runs ([] ∷ parts) = lowered_runs parts
lowered_runs ((b ∷ bs) ∷ parts) = ap (λ l. folded (b ∷ bs) ∷ l) (lowered_runs parts)

-- the words of a text are the runs of its copy
pub lowered : (text : List ℕ) → word_runs (map to_ascii_lowercase text) ≡ words text
unfolding words
lowered text = ap (filter has_octets) (lowered_parts text) ∙ lowered_runs (slice_split is_between text)
