-- The items of a table's section: which they are, and that they are in order.
use Rattle.std.proofs.Common.{◌≡◌, ℤ, append_assoc, List, [], ◌∷◌, ◌++◌, map, Bool, true, false, cond, Option, Some, None, IsSomeAnd, ◌↔◌, refl, sym, ap, subst, ◌∙◌, ⊎_elim}
use Rattle.std.specs.Prelude.{Contains, ⊤}
use Rattle.std.specs.declared.cmp.Ordering.{Ordering}
use Rattle.std.specs.declared.cmp.Ordering.TheVariants.{Less, Equal}
use Rattle.std.specs.Cmp.{IsTotalOrder, Equal-is}
use Rattle.std.specs.Ordering.{int_cmp}
use Rattle.std.specs.List.{AllByRecursion}
use Rattle.std.specs.List.Sorted.{IsStrictlySortedBy}
use Rattle.std.specs.Map.{keys_of}
use Rattle.std.specs.BTreeMap.{is_at}
use Rattle.std.proofs.lemmas.Cmp.{int_cmp_total}
use Rattle.std.proofs.lemmas.List.Elements.{Contains-append_cases, Contains-append_left, Contains-append_right}
use Rattle.std.proofs.lemmas.Map.Keys.{sorted_head}
use Rattle.std.proofs.lemmas.Map.Lookups.{exact_signed}
use Rattle.zknow.specs.Tables.Table.{value_at_key, HasItem, IsLawfulTable}
use Rattle.zknow.specs.Tables.Distinct.{AreDistinct}
use Rattle.zknow.specs.Tables.DistinctLaws.{in_cons, in_head, in_tail, none_in_nil}
use Rattle.zknow.specs.Tables.Sections.{section, number_pairs}
use Rattle.zknow.proofs.TableTheory.TableMerges.{split_by, at_head, item_in_tail, tail_lawful, head_found}

module _ {F : Type 0} (c : F → F → Ordering) where
  pub all_from : (P : F → Type 0) (ys : List F) → ((y : F) → Contains ys y → P y) → AllByRecursion P ys
  all_from P [] each = tt
  all_from P (y ∷ ys) each = (each y (in_head y ys), all_from P ys (λ z h. each z (in_tail y ys z h)))

  all_append : (P : F → Type 0) (xs ys : List F) → AllByRecursion P xs → AllByRecursion P ys → AllByRecursion P (xs ++ ys)
  all_append P [] ys ax ay = ay
  all_append P (x ∷ xs) ys ax ay = (ax.0, all_append P xs ys ax.1 ay)

  -- two lists in order, all of the first below all of the second
  pub sorted_append : (xs ys : List F) → IsStrictlySortedBy c xs → IsStrictlySortedBy c ys → ((x y : F) → Contains xs x → Contains ys y → c x y ≡ Less) → IsStrictlySortedBy c (xs ++ ys)
  unfolding IsStrictlySortedBy
  sorted_append [] ys sx sy below = sy
  sorted_append (x ∷ xs) ys sx sy below = (
    all_append (λ z. c x z ≡ Less) xs ys sx.0 (all_from (λ z. c x z ≡ Less) ys (λ z h. below x z (in_head x xs) h)),
    sorted_append xs ys sx.1 sy (λ a b ha hb. below a b (in_tail x xs a ha) hb),
  )

-- a list mapped by what keeps the order stays in order
module _ {T F : Type 0} (order : T → T → Ordering) (c : F → F → Ordering) (g : T → F) (keeps : (x y : T) → order x y ≡ Less → c (g x) (g y) ≡ Less) where
  map_below : (x : T) (ys : List T) → AllByRecursion (λ y. order x y ≡ Less) ys → AllByRecursion (λ y. c (g x) y ≡ Less) (map g ys)
  map_below x [] all = tt
  map_below x (y ∷ ys) all = (keeps x y all.0, map_below x ys all.1)

  pub map_sorted : (xs : List T) → IsStrictlySortedBy order xs → IsStrictlySortedBy c (map g xs)
  unfolding IsStrictlySortedBy
  map_sorted [] sorted = tt
  map_sorted (x ∷ xs) sorted = (map_below x xs sorted.0, map_sorted xs sorted.1)

module _ {I F : Type 0} (g : I → F) where
  pub in_map : (xs : List I) (y : F) → Contains (map g xs) y → (x : I) × Contains xs x × (y ≡ g x)
  in_map [] y h = absurd (none_in_nil y h)
  in_map (x ∷ xs) y h = ⊎_elim (λ here. (x, in_head x xs, sym here)) (λ later. let found = in_map xs y later in (found.0, in_tail x xs found.0 found.1, found.2)) (in_cons (g x) (map g xs) y h)

  pub map_in : (xs : List I) (x : I) → Contains xs x → Contains (map g xs) (g x)
  map_in [] x h = absurd (none_in_nil x h)
  map_in (y ∷ ys) x h = ⊎_elim (λ same. subst (λ z. Contains (map g (y ∷ ys)) (g z)) same (in_head (g y) (map g ys))) (λ later. in_tail (g y) (map g ys) (g x) (map_in ys x later)) (in_cons y ys x h)

module _ {K J I F : Type 0} (cmp : K → K → Ordering) (total : IsTotalOrder cmp) (exact : (a b : K) → cmp a b ≡ Equal → a ≡ b) (holds : J → I → Type 0) (lawful : J → Type 0) (items : J → List I) (make : K → I → F)
    (members : (j : J) → lawful j → (i : I) → Contains (items j) i ↔ holds j i) where
  head_lawful : (e : K × J) (t : List (K × J)) → IsLawfulTable cmp holds lawful (e ∷ t) → lawful e.1
  head_lawful e t good = good.values e.0 e.1 (head_found cmp holds lawful total exact e t good)

  -- what is in the section is made of an item
  pub from_section : (t : List (K × J)) → IsLawfulTable cmp holds lawful t → (f : F) → Contains (section items make t) f → (x : K × I) × HasItem cmp holds t x × (f ≡ make x.0 x.1)
  from_section [] good f h = absurd (none_in_nil f h)
  from_section (e ∷ t) good f h = ⊎_elim
      (λ first. let found = in_map (make e.0) (items e.1) f first in ((e.0, found.0), at_head cmp holds lawful total exact e t (e.0, found.0) (refl, (members e.1 (head_lawful e t good) found.0).0 found.1), found.2))
      (λ later. let found = from_section t (tail_lawful cmp holds lawful total exact e t good) f later in (found.0, item_in_tail cmp holds lawful total exact e t good found.0 found.1, found.2))
      (Contains-append_cases (map (make e.0) (items e.1)) (section items make t) f h)

  -- and each item makes one
  pub to_section : (t : List (K × J)) → IsLawfulTable cmp holds lawful t → (x : K × I) → HasItem cmp holds t x → Contains (section items make t) (make x.0 x.1)
  to_section [] good x h = absurd h
  to_section (e ∷ t) good x h = ⊎_elim
      (λ at. Contains-append_left (map (make e.0) (items e.1)) (section items make t) (make x.0 x.1) (subst (λ k. Contains (map (make e.0) (items e.1)) (make k x.1)) (sym at.0) (map_in (make e.0) (items e.1) x.1 ((members e.1 (head_lawful e t good) x.1).1 at.1))))
      (λ later. Contains-append_right (map (make e.0) (items e.1)) (section items make t) (make x.0 x.1) (to_section t (tail_lawful cmp holds lawful total exact e t good) x later))
      (split_by cmp holds lawful total exact e t x (is_at (cmp x.0) e.0) refl h)

  -- a key that has an item is above one that is below all keys
  above_by : (k : K) (e : K × J) (t : List (K × J)) (q : K) (b : Bool) → is_at (cmp q) e.0 ≡ b → cmp k e.0 ≡ Less → (IsSomeAnd (value_at_key cmp t q) (λ j. ⊤) → cmp k q ≡ Less) → IsSomeAnd (cond b (Some e.1) (value_at_key cmp t q)) (λ j. ⊤) → cmp k q ≡ Less
  above_by k e t q true is less rest h = subst (λ z. cmp k z ≡ Less) (sym (exact q e.0 ((Equal-is (cmp q e.0)).0 is))) less
  above_by k e t q false is less rest h = rest h

  key_above : (k : K) (t : List (K × J)) → AllByRecursion (λ y. cmp k y ≡ Less) (keys_of t) → (q : K) → IsSomeAnd (value_at_key cmp t q) (λ j. ⊤) → cmp k q ≡ Less
  key_above k [] all q h = absurd h
  key_above k (e ∷ t) all q h = above_by k e t q (is_at (cmp q) e.0) refl all.0 (key_above k t all.1 q) h

  weaker : (o : Option J) (i : I) → IsSomeAnd o (λ j. holds j i) → IsSomeAnd o (λ j. ⊤)
  weaker None i h = h
  weaker (Some j) i h = tt

  module _ (c : F → F → Ordering) (by_key : (k q : K) (i j : I) → cmp k q ≡ Less → c (make k i) (make q j) ≡ Less) (each : (k : K) (j : J) → lawful j → IsStrictlySortedBy c (map (make k) (items j))) where
    pub section_sorted : (t : List (K × J)) → IsLawfulTable cmp holds lawful t → IsStrictlySortedBy c (section items make t)
    unfolding IsStrictlySortedBy
    section_sorted [] good = tt
    section_sorted (e ∷ t) good = sorted_append c (map (make e.0) (items e.1)) (section items make t)
        (each e.0 e.1 (head_lawful e t good))
        (section_sorted t (tail_lawful cmp holds lawful total exact e t good))
        (λ a b ha hb.
        let one = in_map (make e.0) (items e.1) a ha in
        let two = from_section t (tail_lawful cmp holds lawful total exact e t good) b hb in
        let less = key_above e.0 t (sorted_head cmp e.0 (keys_of t) good.ordered) two.0.0 (weaker (value_at_key cmp t two.0.0) two.0.1 two.1) in
        rw (one.2, two.2) (by_key e.0 two.0.0 one.0 two.0.1 less))

-- what is made of the items of a section
module _ {K J I F G : Type 0} (items : J → List I) (make : K → I → F) (g : F → G) where
  map_map : (k : K) (xs : List I) → map g (map (make k) xs) ≡ map (λ i. g (make k i)) xs
  map_map k [] = refl
  map_map k (x ∷ xs) = ap (λ ys. g (make k x) ∷ ys) (map_map k xs)

  map_append : (xs ys : List F) → map g (xs ++ ys) ≡ map g xs ++ map g ys
  map_append [] ys = refl
  map_append (x ∷ xs) ys = ap (λ zs. g x ∷ zs) (map_append xs ys)

  pub map_section : (t : List (K × J)) → map g (section items make t) ≡ section items (λ k i. g (make k i)) t
  map_section [] = refl
  map_section (e ∷ t) = map_append (map (make e.0) (items e.1)) (section items make t) ∙ ap (λ l. l ++ map g (section items make t)) (map_map e.0 (items e.1)) ∙ ap (λ l. map (λ i. g (make e.0 i)) (items e.1) ++ l) (map_section t)

pub self_members : {T : Type 0} (order : T → T → Ordering) (valid : T → Type 0) (xs : List T) → AreDistinct order valid xs → (x : T) → Contains xs x ↔ Contains xs x
self_members order valid xs good x = (λ h. h, λ h. h)

-- values by number
module _ {T : Type 0} (order : T → T → Ordering) (valid : T → Type 0) where
  pub numbered_members : (t : List (ℤ × List T)) → IsLawfulTable int_cmp Contains (AreDistinct order valid) t → (x : ℤ × T) → Contains (number_pairs t) x ↔ HasItem int_cmp Contains t x
  numbered_members t good x = (
    λ h. let one = from_section int_cmp int_cmp_total exact_signed Contains (AreDistinct order valid) (λ xs. xs) (λ p y. (p, y)) (self_members order valid) t good x h in subst (HasItem int_cmp Contains t) (sym one.2) one.1,
    λ h. to_section int_cmp int_cmp_total exact_signed Contains (AreDistinct order valid) (λ xs. xs) (λ p y. (p, y)) (self_members order valid) t good x h,
  )

  pub numbered_sorted : {F : Type 0} (c : F → F → Ordering) (make : ℤ × T → F) → ((p q : ℤ) (x y : T) → int_cmp p q ≡ Less → c (make (p, x)) (make (q, y)) ≡ Less) → ((p : ℤ) (x y : T) → order x y ≡ Less → c (make (p, x)) (make (p, y)) ≡ Less)
      → (t : List (ℤ × List T)) → IsLawfulTable int_cmp Contains (AreDistinct order valid) t → IsStrictlySortedBy c (map make (number_pairs t))
  numbered_sorted c make by_number by_value t good = subst (IsStrictlySortedBy c) (sym (map_section (λ xs. xs) (λ p y. (p, y)) make t))
      (section_sorted int_cmp int_cmp_total exact_signed Contains (AreDistinct order valid) (λ xs. xs) (λ p y. make (p, y)) (self_members order valid) c by_number
      (λ p xs d. map_sorted order c (λ y. make (p, y)) (by_value p) xs d.ordered) t good)

-- a loop over a table: what is written, and what is left to be
module _ {K J I F : Type 0} (items : J → List I) (make : K → I → F) where
  pub front_written : (e : K × J) (rest after : List (K × J)) (so_far next all : List F) → rest ≡ e ∷ after → so_far ++ section items make rest ≡ all → next ≡ so_far ++ map (make e.0) (items e.1)
      → next ++ section items make after ≡ all
  front_written e rest after so_far next all front before now =
      ap (λ l. l ++ section items make after) now ∙ append_assoc so_far (map (make e.0) (items e.1)) (section items make after) ∙ ap (λ t. so_far ++ section items make t) (sym front) ∙ before
