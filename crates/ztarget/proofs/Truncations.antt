-- The words that begin with one stand next to each other in an index, and their places are those where a word begins
-- with it.
use Rattle.std.proofs.Common.{◌≡◌, refl, sym, ◌∙◌, ap, subst, inl, inr, ℕ, ◌+◌, ◌<◌, List, [], ◌∷◌, ◌++◌, Bool, true, false, ◌&&◌, cond, nat_eq, Some, if◌then◌else◌, unwrap_or, append_assoc, arith}
use mathlib.Core.Path.{fun_ext}
use Rattle.std.proofs.lemmas.Bool.{true≢false, ne_eqb, and_parts}
use Rattle.std.proofs.lemmas.Bool.Decides.{Decides-eqb}
use Rattle.std.proofs.lemmas.Cmp.{nat_list_cmp_total, ranked, eq_by_cmp_equiv}
use Rattle.std.proofs.lemmas.List.Kept.{Contains-dedup, Contains-from_dedup, IsStrictlySortedBy-dedup}
use Rattle.std.proofs.lemmas.List.Sorted.{Contains-permutation, IsPermutation-sym}
use Rattle.std.proofs.lemmas.Map.Keys.{IsDistinct-from_sorted}
use Rattle.std.proofs.lemmas.Map.Lookups.{exact_bytes}
use Rattle.std.proofs.lemmas.Map.Views.{lookup-from_Contains}
use Rattle.std.proofs.lemmas.Slice.Eq.{bytes_eq-Decides}
use Rattle.std.specs.declared.cmp.Ordering.{Ordering}
use Rattle.std.specs.declared.cmp.Ordering.TheVariants.{Less, Equal, Greater}
use Rattle.std.specs.declared.ops.Bound.TheVariants.{Included, Unbounded}
use Rattle.std.specs.Cmp.{Equal-is}
use Rattle.std.specs.Cmp.Lexicographic.{slice_cmp}
use Rattle.std.specs.BTreeMap.{is_at}
use Rattle.std.specs.BTreeMap.Range.{entries_between}
use Rattle.std.specs.List.{AllByRecursion, dedup}
use Rattle.std.specs.List.Sorted.{IsPermutation, IsSorted, IsStrictlySortedBy}
use Rattle.std.specs.Map.{lookup, keys_of}
use Rattle.std.specs.Ordering.{nat_cmp, ordering_then, is_le, eq_by_cmp}
use Rattle.std.specs.Str.{bytes_eq}
use Rattle.zplan.specs.Positions.{IsIn}
use Rattle.zplan.proofs.Cuts.{in_left, in_right, in_either}
use Rattle.ztarget.specs.declared.database.Entry.{Entry}
use Rattle.ztarget.specs.declared.database.Field.{Field}
use Rattle.ztarget.specs.declared.index.Place.{Place}
use Rattle.ztarget.specs.Indexing.{place, word_places, field_places, entry_places, picked_places, indexed_places, IsIndexOf, begun, all_indexed_places}
use Rattle.ztarget.specs.Matching.{is_at_front}
use Rattle.ztarget.specs.Phrasing.{word_starts, field_starts, entry_starts, phrase_places, place_cmp, is_begun_by}
use Rattle.ztarget.specs.Words.{words}
use Rattle.ztarget.proofs.Indexes.{picked_append}
use Rattle.ztarget.proofs.Members.{among_from, contains_from, same_members, place_total, place_exact}
use Rattle.ztarget.proofs.Walks.{equal, Behind, word_less, behind_less, all_words, all_fields, all_entries, map_all}

-- the places of the words that pass are those at which a word passes
module _ (p : List ℕ → Bool) (q : List (List ℕ) → Bool) (same : (v : List ℕ) (vs : List (List ℕ)) → p v ≡ q (v ∷ vs)) where
  picked_words : (e f k : ℕ) (vs : List (List ℕ)) → picked_places p (word_places e f k vs) ≡ word_starts q e f k vs
  picked_words e f k [] = refl
  picked_words e f k (v ∷ vs) =
      ap (λ b. if b then place e f k ∷ picked_places p (word_places e f (k + 1) vs) else picked_places p (word_places e f (k + 1) vs)) (same v vs)
      ∙ ap (λ l. if q (v ∷ vs) then place e f k ∷ l else l) (picked_words e f (k + 1) vs)

  picked_fields : (e f : ℕ) (fs : List Field) → picked_places p (field_places e f fs) ≡ field_starts q e f fs
  picked_fields e f [] = refl
  picked_fields e f (x ∷ xs) =
      picked_append p (word_places e f 0 (words x.text)) (field_places e (f + 1) xs)
      ∙ ap (λ l. l ++ picked_places p (field_places e (f + 1) xs)) (picked_words e f 0 (words x.text))
      ∙ ap (λ l. word_starts q e f 0 (words x.text) ++ l) (picked_fields e (f + 1) xs)

  pub picked_entries : (n : ℕ) (es : List Entry) → picked_places p (entry_places n es) ≡ entry_starts q n es
  picked_entries n [] = refl
  picked_entries n (x ∷ xs) =
      picked_append p (field_places n 0 x.fields) (entry_places (n + 1) xs)
      ∙ ap (λ l. l ++ picked_places p (entry_places (n + 1) xs)) (picked_fields n 0 x.fields)
      ∙ ap (λ l. field_starts q n 0 x.fields ++ l) (picked_entries (n + 1) xs)

-- they stand in order
module _ (q : List (List ℕ) → Bool) where
  sorted_words : (e f k : ℕ) (vs : List (List ℕ)) (rest : List Place) → AllByRecursion (Behind e f) rest → IsStrictlySortedBy place_cmp rest → IsStrictlySortedBy place_cmp (word_starts q e f k vs ++ rest)
  unfolding IsStrictlySortedBy
  sorted_words e f k [] rest behind sorted = sorted
  sorted_words e f k (v ∷ vs) rest behind sorted =
      let later = sorted_words e f (k + 1) vs rest behind sorted in
      let above : AllByRecursion (λ y. place_cmp (place e f k) y ≡ Less) (word_starts q e f (k + 1) vs ++ rest) =
      all_words (λ y. place_cmp (place e f k) y ≡ Less) q e f (k + 1) vs rest (λ j le. word_less e f k j (omega (arith, le)))
      (map_all (Behind e f) (λ y. place_cmp (place e f k) y ≡ Less) (λ y h. behind_less e f k y.word y h) rest behind) in
      elim (q (v ∷ vs)) as (λ b. IsStrictlySortedBy place_cmp ((if b then place e f k ∷ word_starts q e f (k + 1) vs else word_starts q e f (k + 1) vs) ++ rest)) [
        | true ↦ (above, later)
        | false ↦ later
      ]

  sorted_fields : (e f : ℕ) (fs : List Field) (rest : List Place) → AllByRecursion (λ p. e < p.entry) rest → IsStrictlySortedBy place_cmp rest → IsStrictlySortedBy place_cmp (field_starts q e f fs ++ rest)
  sorted_fields e f [] rest behind sorted = sorted
  sorted_fields e f (x ∷ xs) rest behind sorted =
      subst (IsStrictlySortedBy place_cmp) (sym (append_assoc (word_starts q e f 0 (words x.text)) (field_starts q e (f + 1) xs) rest))
      (sorted_words e f 0 (words x.text) (field_starts q e (f + 1) xs ++ rest)
      (all_fields (Behind e f) q e (f + 1) xs rest (λ g j le. inr (refl, omega (arith, le))) (map_all (λ p. e < p.entry) (Behind e f) (λ p lt. inl lt) rest behind))
      (sorted_fields e (f + 1) xs rest behind sorted))

  pub sorted_begins : (n : ℕ) (es : List Entry) → IsStrictlySortedBy place_cmp (entry_starts q n es)
  unfolding IsStrictlySortedBy
  sorted_begins n [] = tt
  sorted_begins n (x ∷ xs) = sorted_fields n 0 x.fields (entry_starts q (n + 1) xs) (all_entries (λ p. n < p.entry) q (n + 1) xs (λ e g j le. omega (arith, le))) (sorted_begins (n + 1) xs)

-- a word is not above those that begin with it
begun_above : (w v : List ℕ) → is_begun_by w v ≡ true → is_le (slice_cmp nat_cmp w v) ≡ true
begun_above [] [] h = refl
begun_above [] (y ∷ v) h = refl
begun_above (x ∷ w) [] h = absurd (true≢false (sym h))
begun_above (x ∷ w) (y ∷ v) h =
    let parts = and_parts (nat_eq x y) (is_begun_by w v) h in
    let same : nat_cmp x y ≡ Equal = ap (λ n. nat_cmp x n) (sym ((Decides-eqb x y).0 parts.0)) ∙ equal x in
    ap (λ o. is_le (ordering_then o (slice_cmp nat_cmp w v))) same ∙ begun_above w v parts.1

-- one octet further
module _ (x y z : ℕ) (w a b : List ℕ) (further : is_le (slice_cmp nat_cmp w a) ≡ true → is_begun_by w a ≡ false → slice_cmp nat_cmp a b ≡ Less → is_begun_by w b ≡ false) where
  other_octet : x < z → (nat_eq x z && is_begun_by w b) ≡ false
  other_octet lt = ap (λ v. v && is_begun_by w b) (ne_eqb x z (λ same. absurd (omega (arith, lt, same))))

  octet_on : (first second : Ordering) → nat_cmp x y ≡ first → nat_cmp y z ≡ second → is_le (ordering_then first (slice_cmp nat_cmp w a)) ≡ true → (nat_eq x y && is_begun_by w a) ≡ false
      → ordering_then second (slice_cmp nat_cmp a b) ≡ Less → (nat_eq x z && is_begun_by w b) ≡ false
  octet_on Greater second xy yz le apart lt = absurd (true≢false (sym le))
  octet_on Less Greater xy yz le apart lt = absurd (Prim.cc lt)
  octet_on Equal Greater xy yz le apart lt = absurd (Prim.cc lt)
  octet_on Less Less xy yz le apart lt = let l : x < y = ranked x y Less (sym xy) in let m : y < z = ranked y z Less (sym yz) in other_octet (omega (arith, l, m))
  octet_on Less Equal xy yz le apart lt = let l : x < y = ranked x y Less (sym xy) in let m : y ≡ z = ranked y z Equal (sym yz) in other_octet (omega (arith, l, m))
  octet_on Equal Less xy yz le apart lt = let l : x ≡ y = ranked x y Equal (sym xy) in let m : y < z = ranked y z Less (sym yz) in other_octet (omega (arith, l, m))
  octet_on Equal Equal xy yz le apart lt =
      let l : x ≡ y = ranked x y Equal (sym xy) in
      let same : nat_eq x y ≡ true = (Decides-eqb x y).1 l in
      let left : is_begun_by w a ≡ false = ap (λ v. v && is_begun_by w a) (sym same) ∙ apart in
      let none : is_begun_by w b ≡ false = further le left lt in
      elim (nat_eq x z) as (λ v. (v && is_begun_by w b) ≡ false) [ true ↦ none | false ↦ refl ]

-- a word above one that does not begin with a word, where that is not above it, does not begin with it either
not_begun : (w a b : List ℕ) → is_le (slice_cmp nat_cmp w a) ≡ true → is_begun_by w a ≡ false → slice_cmp nat_cmp a b ≡ Less → is_begun_by w b ≡ false
not_begun [] a b le apart lt = absurd (true≢false apart)
not_begun (x ∷ w) [] b le apart lt = absurd (true≢false (sym le))
not_begun (x ∷ w) (y ∷ a) [] le apart lt = refl
not_begun (x ∷ w) (y ∷ a) (z ∷ b) le apart lt = octet_on x y z w a b (not_begun w a b) (nat_cmp x y) (nat_cmp y z) refl refl le apart lt

-- the first entries, as long as their words begin with this one
abbrev pub front_begun : List ℕ → List (List ℕ × List Place) → List (List ℕ × List Place)
front_begun w [] = []
front_begun w (e ∷ es) = if is_begun_by w e.0 then e ∷ front_begun w es else []

module _ (w : List ℕ) where
  not_above : (v : List ℕ) → is_le (slice_cmp nat_cmp w v) ≡ false → is_begun_by w v ≡ false
  not_above v le =
      let either : (b : Bool) → is_begun_by w v ≡ b → b ≡ false =
      λ b. elim b as (λ b. is_begun_by w v ≡ b → b ≡ false) [ true ↦ (λ is. absurd (true≢false (sym (begun_above w v is) ∙ le))) | false ↦ (λ is. refl) ] in
      either (is_begun_by w v) refl

  none_begun : (k : List ℕ) (es : List (List ℕ × List Place)) → is_le (slice_cmp nat_cmp w k) ≡ true → is_begun_by w k ≡ false → AllByRecursion (λ v. slice_cmp nat_cmp k v ≡ Less) (keys_of es) → begun w es ≡ []
  none_begun k [] le apart all = refl
  none_begun k (e ∷ es) le apart all = ap (λ b. cond b (e ∷ begun w es) (begun w es)) (not_begun w k e.0 le apart all.0) ∙ none_begun k es le apart all.1

  pub front_is : (es : List (List ℕ × List Place)) → IsStrictlySortedBy (slice_cmp nat_cmp) (keys_of es) → front_begun w (entries_between (slice_cmp nat_cmp) (Included w) Unbounded es) ≡ begun w es
  unfolding IsStrictlySortedBy
  front_is [] sorted = refl
  front_is (e ∷ es) sorted =
      let between = entries_between (slice_cmp nat_cmp) (Included w) Unbounded es in
      let later = begun w es in
      let next : front_begun w between ≡ later = front_is es sorted.1 in
      let reached : (b : Bool) → is_begun_by w e.0 ≡ b → is_le (slice_cmp nat_cmp w e.0) ≡ true → (if b then e ∷ front_begun w between else []) ≡ cond b (e ∷ later) later =
      λ b. elim b as (λ b. is_begun_by w e.0 ≡ b → is_le (slice_cmp nat_cmp w e.0) ≡ true → (if b then e ∷ front_begun w between else []) ≡ cond b (e ∷ later) later) [
        | true ↦ (λ is le. ap (λ l. e ∷ l) next)
        | false ↦ (λ is le. sym (none_begun e.0 es le is sorted.0))
      ] in
      let either : (b : Bool) → is_le (slice_cmp nat_cmp w e.0) ≡ b → front_begun w (cond (b && true) (e ∷ between) between) ≡ cond (is_begun_by w e.0) (e ∷ later) later =
      λ b. elim b as (λ b. is_le (slice_cmp nat_cmp w e.0) ≡ b → front_begun w (cond (b && true) (e ∷ between) between) ≡ cond (is_begun_by w e.0) (e ∷ later) later) [
        | true ↦ (λ le. reached (is_begun_by w e.0) refl le)
        | false ↦ (λ le. next ∙ ap (λ b. cond b (e ∷ later) later) (sym (not_above e.0 le)))
      ] in
      either (is_le (slice_cmp nat_cmp w e.0)) refl

picked_before : (p : List ℕ → Bool) (x : Place) (o : List ℕ × Place) (os : List (List ℕ × Place)) → IsIn x (picked_places p os) → IsIn x (picked_places p (o ∷ os))
picked_before p x o os h = elim (p o.0) as (λ b. IsIn x (if b then o.1 ∷ picked_places p os else picked_places p os)) [ true ↦ inr h | false ↦ h ]

-- more words pass
picked_more : (p r : List ℕ → Bool) (x : Place) (os : List (List ℕ × Place)) → ((v : List ℕ) → p v ≡ true → r v ≡ true) → IsIn x (picked_places p os) → IsIn x (picked_places r os)
picked_more p r x [] more h = h
picked_more p r x (o ∷ os) more h =
    let either : (b : Bool) → p o.0 ≡ b → IsIn x (if b then o.1 ∷ picked_places p os else picked_places p os) → IsIn x (picked_places r (o ∷ os)) =
    λ b. elim b as (λ b. p o.0 ≡ b → IsIn x (if b then o.1 ∷ picked_places p os else picked_places p os) → IsIn x (picked_places r (o ∷ os))) [
      | true ↦ (λ is h. elim h as (λ _. IsIn x (picked_places r (o ∷ os))) [
        | inl e ↦ subst (λ b. IsIn x (if b then o.1 ∷ picked_places r os else picked_places r os)) (sym (more o.0 is)) (inl e)
        | inr k ↦ picked_before r x o os (picked_more p r x os more k)
      ])
      | false ↦ (λ is h. picked_before r x o os (picked_more p r x os more h))
    ] in
    either (p o.0) refl h

same_octets : (v : List ℕ) → bytes_eq v v ≡ true
same_octets v = (bytes_eq-Decides v v).1 refl

-- a place of words that pass is one of a word that passes
picked_word : (p : List ℕ → Bool) (x : Place) (os : List (List ℕ × Place)) → IsIn x (picked_places p os) → (v : List ℕ) × (p v ≡ true) × IsIn x (picked_places (bytes_eq v) os)
picked_word p x [] h = absurd h
picked_word p x (o ∷ os) h =
    let further : IsIn x (picked_places p os) → (v : List ℕ) × (p v ≡ true) × IsIn x (picked_places (bytes_eq v) (o ∷ os)) =
    λ k. (let found = picked_word p x os k in (found.0, found.1, picked_before (bytes_eq found.0) x o os found.2)) in
    let either : (b : Bool) → p o.0 ≡ b → IsIn x (if b then o.1 ∷ picked_places p os else picked_places p os) → (v : List ℕ) × (p v ≡ true) × IsIn x (picked_places (bytes_eq v) (o ∷ os)) =
    λ b. elim b as (λ b. p o.0 ≡ b → IsIn x (if b then o.1 ∷ picked_places p os else picked_places p os) → (v : List ℕ) × (p v ≡ true) × IsIn x (picked_places (bytes_eq v) (o ∷ os))) [
      | true ↦ (λ is h. elim h as (λ _. (v : List ℕ) × (p v ≡ true) × IsIn x (picked_places (bytes_eq v) (o ∷ os))) [
        | inl e ↦ (o.0, is, subst (λ b. IsIn x (if b then o.1 ∷ picked_places (bytes_eq o.0) os else picked_places (bytes_eq o.0) os)) (sym (same_octets o.0)) (inl e))
        | inr k ↦ further k
      ])
      | false ↦ (λ is h. further h)
    ] in
    either (p o.0) refl h

module _ (w : List ℕ) where
  told_by : (x : Place) (es : List (List ℕ × List Place)) → IsIn x (all_indexed_places (begun w es)) → (e : List ℕ × List Place) × IsIn e es × (is_begun_by w e.0 ≡ true) × IsIn x e.1
  told_by x [] h = absurd h
  told_by x (e ∷ es) h =
      let further : IsIn x (all_indexed_places (begun w es)) → (f : List ℕ × List Place) × IsIn f (e ∷ es) × (is_begun_by w f.0 ≡ true) × IsIn x f.1 =
      λ k. (let found = told_by x es k in (found.0, inr found.1, found.2, found.3)) in
      let later = begun w es in
      let either : (b : Bool) → is_begun_by w e.0 ≡ b → IsIn x (all_indexed_places (cond b (e ∷ later) later)) → (f : List ℕ × List Place) × IsIn f (e ∷ es) × (is_begun_by w f.0 ≡ true) × IsIn x f.1 =
      λ b. elim b as (λ b. is_begun_by w e.0 ≡ b → IsIn x (all_indexed_places (cond b (e ∷ later) later)) → (f : List ℕ × List Place) × IsIn f (e ∷ es) × (is_begun_by w f.0 ≡ true) × IsIn x f.1) [
        | true ↦ (λ is h. elim (in_either x e.1 (all_indexed_places later) h) as (λ _. (f : List ℕ × List Place) × IsIn f (e ∷ es) × (is_begun_by w f.0 ≡ true) × IsIn x f.1) [
          | inl k ↦ (e, inl refl, is, k)
          | inr k ↦ further k
        ])
        | false ↦ (λ is h. further h)
      ] in
      either (is_begun_by w e.0) refl h

  stood_by : (x : Place) (v : List ℕ) (es : List (List ℕ × List Place)) → is_begun_by w v ≡ true → IsIn x (indexed_places es v) → IsIn x (all_indexed_places (begun w es))
  stood_by x v [] is h = absurd h
  stood_by x v (e ∷ es) is h =
      let later = begun w es in
      let either : (b : Bool) → is_at (slice_cmp nat_cmp v) e.0 ≡ b → IsIn x (unwrap_or (cond b (Some e.1) (lookup (is_at (slice_cmp nat_cmp v)) es)) []) → IsIn x (all_indexed_places (cond (is_begun_by w e.0) (e ∷ later) later)) =
      λ b. elim b as (λ b. is_at (slice_cmp nat_cmp v) e.0 ≡ b → IsIn x (unwrap_or (cond b (Some e.1) (lookup (is_at (slice_cmp nat_cmp v)) es)) []) → IsIn x (all_indexed_places (cond (is_begun_by w e.0) (e ∷ later) later))) [
        | true ↦ (λ at h.
            let same : v ≡ e.0 = exact_bytes v e.0 ((Equal-is (slice_cmp nat_cmp v e.0)).0 at) in
            let here : is_begun_by w e.0 ≡ true = ap (is_begun_by w) (sym same) ∙ is in
            subst (λ b. IsIn x (all_indexed_places (cond b (e ∷ later) later))) (sym here) (in_left x e.1 (all_indexed_places later) h))
        | false ↦ (λ at h.
            let found = stood_by x v es is h in
            elim (is_begun_by w e.0) as (λ b. IsIn x (all_indexed_places (cond b (e ∷ later) later))) [ true ↦ in_right x e.1 (all_indexed_places later) found | false ↦ found ])
      ] in
      either (is_at (slice_cmp nat_cmp v) e.0) refl h

module _ (entries : List Entry) (index : List (List ℕ × List Place)) (w : List ℕ) (sorted : IsStrictlySortedBy (slice_cmp nat_cmp) (keys_of index)) (is : IsIndexOf entries index) where
  gathered_begins : (x : Place) → IsIn x (all_indexed_places (begun w index)) → IsIn x (picked_places (is_begun_by w) (entry_places 0 entries))
  gathered_begins x h =
      let told = told_by w x index h in
      let v = told.0.0 in
      let here = lookup-from_Contains (eq_by_cmp_equiv nat_list_cmp_total) v told.0.1 index (IsDistinct-from_sorted (slice_cmp nat_cmp) (keys_of index) sorted) (contains_from told.0 index told.1) in
      let stands : told.0.1 ≡ picked_places (bytes_eq v) (entry_places 0 entries) = sym (ap (λ o. unwrap_or o []) here) ∙ is v in
      picked_more (bytes_eq v) (is_begun_by w) x (entry_places 0 entries) (λ u same. ap (is_begun_by w) (sym ((bytes_eq-Decides v u).0 same)) ∙ told.2) (subst (IsIn x) stands told.3)

  begins_gathered : (x : Place) → IsIn x (picked_places (is_begun_by w) (entry_places 0 entries)) → IsIn x (all_indexed_places (begun w index))
  begins_gathered x h =
      let found = picked_word (is_begun_by w) x (entry_places 0 entries) h in
      stood_by w x found.0 index found.1 (subst (IsIn x) (sym (is found.0)) found.2)

  -- what was gathered, in order and each once, is where a word begins with this one
  pub truncated_found : (found : List Place) → IsStrictlySortedBy place_cmp found
      → ((x : Place) → IsIn x found → IsIn x (all_indexed_places (begun w index)))
      → ((x : Place) → IsIn x (all_indexed_places (begun w index)) → IsIn x found)
      → found ≡ entry_starts (is_at_front true (w ∷ [])) 0 entries
  truncated_found found in_order to from =
      let begins = picked_entries (is_begun_by w) (is_at_front true (w ∷ [])) (λ v vs. elim (is_begun_by w v) as (λ b. b ≡ (b && true)) [ true ↦ refl | false ↦ refl ]) 0 entries in
      same_members found (entry_starts (is_at_front true (w ∷ [])) 0 entries) in_order (sorted_begins (is_at_front true (w ∷ [])) 0 entries)
      (λ x h. subst (IsIn x) begins (gathered_begins x (to x h)))
      (λ x h. from x (begins_gathered x (subst (IsIn x) (sym begins) h)))

-- the same after a sort, and with each place kept once
module _ (entries : List Entry) (index : List (List ℕ × List Place)) (w : List ℕ) (in_order : IsStrictlySortedBy (slice_cmp nat_cmp) (keys_of index)) (is : IsIndexOf entries index) where
  tidied_once : (sorted : List Place) → IsPermutation (all_indexed_places (begun w index)) sorted → IsSorted place_cmp sorted → dedup (eq_by_cmp place_cmp) sorted ≡ entry_starts (is_at_front true (w ∷ [])) 0 entries
  tidied_once sorted moved rising =
      let exact : (x y : Place) → eq_by_cmp place_cmp x y ≡ true → x ≡ y = λ x y h. place_exact x y ((Equal-is (place_cmp x y)).0 h) in
      truncated_found entries index w in_order is (dedup (eq_by_cmp place_cmp) sorted)
      (IsStrictlySortedBy-dedup place_total (λ x y. refl) sorted rising)
      (λ x h. among_from x (all_indexed_places (begun w index)) (Contains-permutation sorted (all_indexed_places (begun w index)) x (IsPermutation-sym (all_indexed_places (begun w index)) sorted moved)
      (Contains-from_dedup (eq_by_cmp place_cmp) sorted x (contains_from x (dedup (eq_by_cmp place_cmp) sorted) h))))
      (λ x h. among_from x (dedup (eq_by_cmp place_cmp) sorted) (Contains-dedup (eq_by_cmp_equiv place_total) exact sorted x
      (Contains-permutation (all_indexed_places (begun w index)) sorted x moved (contains_from x (all_indexed_places (begun w index)) h))))

  pub tidied : (E : Place → Place → Bool) → ((x y : Place) → E x y ≡ eq_by_cmp place_cmp x y) → (gathered sorted found : List Place) → gathered ≡ all_indexed_places (begun w index)
      → IsPermutation gathered sorted → IsSorted place_cmp sorted → found ≡ dedup E sorted → found ≡ entry_starts (is_at_front true (w ∷ [])) 0 entries
  tidied E ties gathered sorted found from moved rising once =
      once ∙ ap (λ e. dedup e sorted) (fun_ext (λ x. fun_ext (ties x))) ∙ tidied_once sorted (subst (λ l. IsPermutation l sorted) from moved) rising

-- the places of one word
pub one_word : (entries : List Entry) (w : List ℕ) → picked_places (bytes_eq w) (entry_places 0 entries) ≡ phrase_places false (w ∷ []) entries
one_word entries w = picked_entries (bytes_eq w) (is_at_front false (w ∷ [])) (λ v vs. elim (bytes_eq w v) as (λ b. b ≡ (b && true)) [ true ↦ refl | false ↦ refl ]) 0 entries
