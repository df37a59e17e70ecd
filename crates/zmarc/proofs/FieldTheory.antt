-- The fields of a record, one entry of the directory after the other.
use Rattle.std.proofs.Common.{◌≡◌, ℕ, suc, ◌+◌, ◌-◌, ◌*◌, ◌/◌, ◌<◌, ◌≤◌, Bool, true, false, cond, not, Option, Some, None, List, [], ◌∷◌, ◌++◌, length, take, drop, refl, sym, ap, ◌∙◌, append_assoc, arith}
use Rattle.std.specs.Prelude.{find, is_some, map, filter, sum_by, nat_le}
use Rattle.std.proofs.lemmas.Bool.{lt-leb}
use Rattle.std.specs.Borrow.{Bor}
use Rattle.std.specs.List.{filter_map, before_first, slice_range, count_by}
use Rattle.std.specs.Option.{option_map, option_or, option_copied, option_to_list, is_none}
use Rattle.std.specs.Str.{bytes_eq}
use Rattle.std.proofs.lemmas.List.Sums.{sum_by-cons}
use Rattle.std.proofs.Math.Nat.{div-mul-le_self, zero-div, sub-zero, suc-mul}
use Rattle.zmarc.specs.Records.{base_address, is_end, directory, directory_to, contents, from_base, length_digits, start_digits, entry_len, entry_count, entries, Field, octets_of, tagged_octets, field_told, field_of, fields, has_tag, tagged_fields, first_field, lost_count, told_len, told_total}

-- ---- where the directory and the contents stand

pub directory_at : (octets : List ℕ) (at : ℕ) → base_address octets ≡ Some at
    → directory octets ≡ before_first is_end (slice_range octets 24 at)
unfolding directory
directory_at octets at h = ap (directory_to octets) h

pub contents_at : (octets : List ℕ) (at : ℕ) → base_address octets ≡ Some at → contents octets ≡ drop at octets
unfolding contents
contents_at octets at h = ap (from_base octets) h

directory_none : (octets : List ℕ) → base_address octets ≡ None → directory octets ≡ []
unfolding directory
directory_none octets h = ap (directory_to octets) h

-- what is no record has no fields
pub fields_none : (octets : List ℕ) → base_address octets ≡ None → fields octets ≡ []
fields_none octets h =
    let none : entry_count octets ≡ 0 =
    ap (λ l. length l / entry_len octets) (directory_none octets h) ∙ zero-div (entry_len octets) in
    ap (λ n. filter_map (field_of octets) (entries (entry_len octets) n (directory octets))) none

pub first_field_none : (tag octets : List ℕ) → base_address octets ≡ None → first_field tag octets ≡ None
unfolding first_field
first_field_none tag octets h = ap (λ fs. option_map (λ f. f.octets) (find (has_tag tag) fs)) (fields_none octets h)

pub tagged_fields_none : (tag octets : List ℕ) → base_address octets ≡ None → tagged_fields tag octets ≡ []
unfolding tagged_fields
tagged_fields_none tag octets h = ap (λ fs. map (λ f. f.octets) (filter (has_tag tag) fs)) (fields_none octets h)

-- ---- one entry

module _ (tag octets : List ℕ) where
  abbrev found_in : List (List ℕ) → Option Field
  found_in es = find (has_tag tag) (filter_map (field_of octets) es)

  abbrev told : List ℕ → Option (List ℕ)
  told e = octets_of (contents octets) (length_digits octets) (start_digits octets) e

  -- what an entry tells of, where it has the tag
  abbrev tagged : List ℕ → Option (List ℕ)
  tagged e = tagged_octets (contents octets) (length_digits octets) (start_digits octets) tag e

  pub tagged_is : (told_of e e' : List ℕ) (a b : ℕ) (o : Option (List ℕ)) → o ≡ tagged_octets told_of a b tag e'
      → told_of ≡ contents octets → a ≡ length_digits octets → b ≡ start_digits octets → e' ≡ e → o ≡ tagged e
  tagged_is told_of e e' a b o is there long begins same =
      is ∙ ap (λ s. tagged_octets s a b tag e') there ∙ ap (λ n. tagged_octets (contents octets) n b tag e') long
      ∙ ap (λ n. tagged_octets (contents octets) (length_digits octets) n tag e') begins ∙ ap tagged same

  -- what is found among the entries
  abbrev pub seen_in : List (List ℕ) → Option (List ℕ)
  seen_in es = option_map (λ f. f.octets) (found_in es)

  seen_by : (b : Bool) (o : Option (List ℕ)) (e : List ℕ) (es : List (List ℕ)) → bytes_eq (take 3 e) tag ≡ b → told e ≡ o
      → seen_in (e ∷ es) ≡ option_or (cond b o None) (seen_in es)
  seen_by true None e es same is = rw is refl
  seen_by true (Some x) e es same is = rw is (rw same refl)
  seen_by false None e es same is = rw is refl
  seen_by false (Some x) e es same is = rw is (rw same refl)

  seen_next : (len n m : ℕ) (rest : List ℕ) → n ≡ suc m
      → seen_in (entries len n rest) ≡ option_or (tagged (take len rest)) (seen_in (entries len m (drop len rest)))
  seen_next len n m rest h =
      let e = take len rest in
      ap (λ k. seen_in (entries len k rest)) h
      ∙ seen_by (bytes_eq (take 3 e) tag) (told e) e (entries len m (drop len rest)) refl refl

  pub seen_now : (len n m : ℕ) (rest x : List ℕ) → n ≡ suc m → tagged (take len rest) ≡ Some x
      → seen_in (entries len n rest) ≡ Some x
  seen_now len n m rest x h is =
      seen_next len n m rest h ∙ ap (λ o. option_or o (seen_in (entries len m (drop len rest)))) is

  pub seen_later : (len n m : ℕ) (rest : List ℕ) → n ≡ suc m → tagged (take len rest) ≡ None
      → seen_in (entries len n rest) ≡ seen_in (entries len m (drop len rest))
  seen_later len n m rest h is =
      seen_next len n m rest h ∙ ap (λ o. option_or o (seen_in (entries len m (drop len rest)))) is

  -- the octets of those of the entries that have the tag and tell of any
  abbrev pub gathered_in : List (List ℕ) → List (List ℕ)
  gathered_in es = map (λ f. f.octets) (filter (has_tag tag) (filter_map (field_of octets) es))

  gathered_by : (b : Bool) (o : Option (List ℕ)) (e : List ℕ) (es : List (List ℕ)) → bytes_eq (take 3 e) tag ≡ b
      → told e ≡ o → gathered_in (e ∷ es) ≡ option_to_list (cond b o None) ++ gathered_in es
  gathered_by true None e es same is = rw is refl
  gathered_by true (Some x) e es same is = rw is (rw same refl)
  gathered_by false None e es same is = rw is refl
  gathered_by false (Some x) e es same is = rw is (rw same refl)

  gathered_next : (len n m : ℕ) (rest : List ℕ) → n ≡ suc m
      → gathered_in (entries len n rest)
      ≡ option_to_list (tagged (take len rest)) ++ gathered_in (entries len m (drop len rest))
  gathered_next len n m rest h =
      let e = take len rest in
      ap (λ k. gathered_in (entries len k rest)) h
      ∙ gathered_by (bytes_eq (take 3 e) tag) (told e) e (entries len m (drop len rest)) refl refl

  pub gathered_on : (len n m : ℕ) (rest : List ℕ) (before next all : List (List ℕ)) (o : Option (List ℕ)) → n ≡ suc m
      → o ≡ tagged (take len rest) → next ≡ before ++ option_to_list o
      → before ++ gathered_in (entries len n rest) ≡ all → next ++ gathered_in (entries len m (drop len rest)) ≡ all
  gathered_on len n m rest before next all o h is grown same =
      let left = gathered_in (entries len m (drop len rest)) in
      ap (λ l. l ++ left) (grown ∙ ap (λ t. before ++ option_to_list t) is)
      ∙ append_assoc before (option_to_list (tagged (take len rest))) left
      ∙ ap (λ l. before ++ l) (sym (gathered_next len n m rest h)) ∙ same

  pub all_gathered : (len : ℕ) (d : List ℕ) → len ≡ entry_len octets → d ≡ directory octets
      → gathered_in (entries len (length d / len - 0) d) ≡ tagged_fields tag octets
  unfolding tagged_fields
  all_gathered len d sized is =
      ap (λ n. gathered_in (entries len n d)) (sub-zero (length d / len))
      ∙ ap (λ m. gathered_in (entries m (length d / m) d)) sized
      ∙ ap (λ r. gathered_in (entries (entry_len octets) (length r / entry_len octets) r)) is

  pub all_found : (len : ℕ) (d : List ℕ) → len ≡ entry_len octets → d ≡ directory octets
      → seen_in (entries len (length d / len - 0) d) ≡ first_field tag octets
  unfolding first_field
  all_found len d sized is =
      ap (λ n. seen_in (entries len n d)) (sub-zero (length d / len))
      ∙ ap (λ m. seen_in (entries m (length d / m) d)) sized
      ∙ ap (λ r. seen_in (entries (entry_len octets) (length r / entry_len octets) r)) is

-- ---- all fields

module _ (octets : List ℕ) where
  -- those that the entries tell of
  abbrev pub fields_in : List (List ℕ) → List Field
  fields_in es = filter_map (field_of octets) es

  abbrev field_from : List ℕ → Option (List ℕ) → Option Field
  field_from e o = option_map (λ found. record { tag = take 3 e; octets = found }) o

  pub field_is : (told_of e e' : List ℕ) (a b : ℕ) → told_of ≡ contents octets → a ≡ length_digits octets
      → b ≡ start_digits octets → e' ≡ e → field_told told_of a b e' ≡ field_of octets e
  field_is told_of e e' a b there long begins same =
      ap (λ s. field_told s a b e') there ∙ ap (λ n. field_told (contents octets) n b e') long
      ∙ ap (λ n. field_told (contents octets) (length_digits octets) n e') begins ∙ ap (field_of octets) same

  fields_by : (o : Option (List ℕ)) (e : List ℕ) (es : List (List ℕ))
      → octets_of (contents octets) (length_digits octets) (start_digits octets) e ≡ o
      → fields_in (e ∷ es) ≡ option_to_list (field_from e o) ++ fields_in es
  fields_by None e es is = rw is refl
  fields_by (Some x) e es is = rw is refl

  fields_next : (len n m : ℕ) (rest : List ℕ) → n ≡ suc m
      → fields_in (entries len n rest)
      ≡ option_to_list (field_of octets (take len rest)) ++ fields_in (entries len m (drop len rest))
  fields_next len n m rest h =
      let e = take len rest in
      ap (λ k. fields_in (entries len k rest)) h
      ∙ fields_by (octets_of (contents octets) (length_digits octets) (start_digits octets) e) e
      (entries len m (drop len rest)) refl

  pub fields_on : (len n m : ℕ) (rest : List ℕ) (before next all : List Field) (o : Option Field) → n ≡ suc m
      → o ≡ field_of octets (take len rest) → next ≡ before ++ option_to_list o
      → before ++ fields_in (entries len n rest) ≡ all → next ++ fields_in (entries len m (drop len rest)) ≡ all
  fields_on len n m rest before next all o h is grown same =
      let left = fields_in (entries len m (drop len rest)) in
      ap (λ l. l ++ left) (grown ∙ ap (λ t. before ++ option_to_list t) is)
      ∙ append_assoc before (option_to_list (field_of octets (take len rest))) left
      ∙ ap (λ l. before ++ l) (sym (fields_next len n m rest h)) ∙ same

  pub all_fields : (len : ℕ) (d : List ℕ) → len ≡ entry_len octets → d ≡ directory octets
      → fields_in (entries len (length d / len - 0) d) ≡ fields octets
  all_fields len d sized is =
      ap (λ n. fields_in (entries len n d)) (sub-zero (length d / len))
      ∙ ap (λ m. fields_in (entries m (length d / m) d)) sized
      ∙ ap (λ r. fields_in (entries (entry_len octets) (length r / entry_len octets) r)) is

-- ---- entries that tell of nothing

abbrev is_lost : List ℕ → List ℕ → Bool
is_lost octets e = is_none (octets_of (contents octets) (length_digits octets) (start_digits octets) e)

abbrev pub lost_in : List ℕ → List (List ℕ) → ℕ
lost_in octets es = count_by (is_lost octets) es

pub lost_next : (octets : List ℕ) (len n m : ℕ) (rest : List ℕ) → n ≡ suc m
    → lost_in octets (entries len n rest)
    ≡ cond (is_lost octets (take len rest)) 1 0 + lost_in octets (entries len m (drop len rest))
lost_next octets len n m rest h =
    ap (λ k. lost_in octets (entries len k rest)) h
    ∙ sum_by-cons (λ e. cond (is_lost octets e) 1 0) (take len rest) (entries len m (drop len rest))

pub lost_at_first : (octets : List ℕ) (len : ℕ) (d : List ℕ) → len ≡ entry_len octets → d ≡ directory octets
    → lost_in octets (entries len (length d / len - 0) d) ≡ lost_count octets
lost_at_first octets len d sized is =
    ap (λ n. lost_in octets (entries len n d)) (sub-zero (length d / len))
    ∙ ap (λ m. lost_in octets (entries m (length d / m) d)) sized
    ∙ ap (λ r. lost_in octets (entries (entry_len octets) (length r / entry_len octets) r)) is

pub none_lost : (octets : List ℕ) → base_address octets ≡ None → lost_count octets ≡ 0
none_lost octets h =
    let none : entry_count octets ≡ 0 =
    ap (λ l. length l / entry_len octets) (directory_none octets h) ∙ zero-div (entry_len octets) in
    ap (λ n. lost_in octets (entries (entry_len octets) n (directory octets))) none

pub told_is : (octets told_of e e' : List ℕ) (a b : ℕ) (o : Option (List ℕ)) → o ≡ octets_of told_of a b e'
    → told_of ≡ contents octets → a ≡ length_digits octets → b ≡ start_digits octets → e' ≡ e
    → o ≡ octets_of (contents octets) (length_digits octets) (start_digits octets) e
told_is octets told_of e e' a b o is there long begins same =
    is ∙ ap (λ s. octets_of s a b e') there ∙ ap (λ n. octets_of (contents octets) n b e') long
    ∙ ap (λ n. octets_of (contents octets) (length_digits octets) n e') begins
    ∙ ap (octets_of (contents octets) (length_digits octets) (start_digits octets)) same

pub flag_is : (o : Option (Bor (List ℕ))) (b : Bool) → is_some o ≡ not b → is_none (option_copied o) ≡ b
flag_is None true h = refl
flag_is None false h = absurd cc
flag_is (Some x) true h = absurd cc
flag_is (Some x) false h = refl

pub counted_yes : (b : Bool) (lost now left rest all : ℕ) → left ≡ cond b 1 0 + rest → b ≡ true → now ≡ lost + 1
    → lost + left ≡ all → now + rest ≡ all
counted_yes true lost now left rest all next is more same = omega (arith, next, more, same)
counted_yes false lost now left rest all next is more same = absurd cc

pub counted_no : (b : Bool) (lost now left rest all : ℕ) → left ≡ cond b 1 0 + rest → b ≡ false → now ≡ lost
    → lost + left ≡ all → now + rest ≡ all
counted_no true lost now left rest all next is more same = absurd cc
counted_no false lost now left rest all next is more same = omega (arith, next, more, same)

-- ---- room for what is left of them

pub room_at_first : (n len : ℕ) → (n / len - 0) * len ≤ n
room_at_first n len = rw (sub-zero (n / len)) (div-mul-le_self n len)

pub room_for_one : (k j len m : ℕ) → k ≡ suc j → k * len ≤ m → len ≤ m
room_for_one k j len m h room = let more : suc j * len ≤ m = rw h at room in omega (arith, more, suc-mul j len)

pub room_for_rest : (k j len m n : ℕ) → k ≡ suc j → k * len ≤ m → n + len ≡ m → j * len ≤ n
room_for_rest k j len m n h room is = let more : suc j * len ≤ m = rw h at room in omega (arith, more, suc-mul j len)

-- ---- octets that entries tell of

abbrev pub told_in : List ℕ → List (List ℕ) → ℕ
told_in octets es =
    sum_by (λ e. told_len (octets_of (contents octets) (length_digits octets) (start_digits octets) e)) es

pub told_next : (octets : List ℕ) (len n m told : ℕ) (rest : List ℕ) → n ≡ suc m
    → told ≡ told_len (octets_of (contents octets) (length_digits octets) (start_digits octets) (take len rest))
    → told_in octets (entries len n rest) ≡ told + told_in octets (entries len m (drop len rest))
told_next octets len n m told rest h is =
    ap (λ k. told_in octets (entries len k rest)) h
    ∙ sum_by-cons (λ e. told_len (octets_of (contents octets) (length_digits octets) (start_digits octets) e))
    (take len rest) (entries len m (drop len rest))
    ∙ ap (λ k. k + told_in octets (entries len m (drop len rest))) (sym is)

pub told_at_first : (octets : List ℕ) (len : ℕ) (d : List ℕ) → len ≡ entry_len octets → d ≡ directory octets
    → told_in octets (entries len (length d / len - 0) d) ≡ told_total octets
unfolding told_total
told_at_first octets len d sized is =
    ap (λ n. told_in octets (entries len n d)) (sub-zero (length d / len))
    ∙ ap (λ m. told_in octets (entries m (length d / m) d)) sized
    ∙ ap (λ r. told_in octets (entries (entry_len octets) (length r / entry_len octets) r)) is

pub none_told : (octets : List ℕ) → base_address octets ≡ None → told_total octets ≡ 0
unfolding told_total
none_told octets h =
    let none : entry_count octets ≡ 0 =
    ap (λ l. length l / entry_len octets) (directory_none octets h) ∙ zero-div (entry_len octets) in
    ap (λ n. told_in octets (entries (entry_len octets) n (directory octets))) none

pub too_many : (all most room k rest now : ℕ) → now ≡ k + rest → room < k → all + room ≡ most + now
    → nat_le all most ≡ false
too_many all most room k rest now next over same = lt-leb all most (omega (arith, next, over, same))
