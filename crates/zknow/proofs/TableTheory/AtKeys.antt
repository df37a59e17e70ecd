-- What a section of a table gives at one key.
use Rattle.std.proofs.Common.{◌≡◌, ℕ, ◌+◌, ◌<◌, length, take, get_or, ℤ, List, [], ◌∷◌, ◌++◌, map, Bool, true, false, cond, Option, Some, None, refl, sym, ap, subst, ◌∙◌, append_assoc}
use Rattle.std.specs.declared.cmp.Ordering.{Ordering}
use Rattle.std.specs.declared.cmp.Ordering.TheVariants.{Equal}
use Rattle.std.specs.Cmp.{IsTotalOrder, Equal-is}
use Rattle.std.specs.Ordering.{is_eq}
use Rattle.std.specs.List.{filter_map, flat_map, cons_option}
use Rattle.std.specs.Option.{option_to_list}
use Rattle.std.specs.List.Sorted.{IsStrictlySortedBy}
use Rattle.std.specs.Map.{keys_of}
use Rattle.std.specs.BTreeMap.{is_at}
use Rattle.std.proofs.lemmas.Cmp.{tied_itself}
use Rattle.std.proofs.lemmas.Grind.{flat_map-append}
use Rattle.std.proofs.lemmas.List.{append-nil, take_more}
use Rattle.std.proofs.lemmas.Map.Keys.{sorted_head, sorted_tail}
use Rattle.zknow.specs.Tables.Table.{value_at_key}
use Rattle.zknow.specs.Tables.TableLaws.{none_below}
use Rattle.zknow.specs.Tables.Sections.{section, number_pairs}

-- the items of the value at a key
abbrev pub items_of : {J I : Type 0} → (J → List I) → Option J → List I
items_of items None = []
items_of items (Some j) = items j

module _ {X Y : Type 0} (f : X → Option Y) where
  one_more : (ys zs : List Y) (o : Option Y) → ys ≡ zs → cons_option o ys ≡ option_to_list o ++ zs
  one_more ys zs None e = e
  one_more ys zs (Some y) e = ap (λ l. y ∷ l) e

  pub filter_map_flat : (xs : List X) → filter_map f xs ≡ flat_map (λ x. option_to_list (f x)) xs
  filter_map_flat [] = refl
  filter_map_flat (x ∷ xs) = one_more (filter_map f xs) (flat_map (λ y. option_to_list (f y)) xs) (f x) (filter_map_flat xs)

module _ {K J I F G : Type 0} (items : J → List I) (make : K → I → F) (f : F → List G) where
  flat_map_map : (k : K) (xs : List I) → flat_map f (map (make k) xs) ≡ flat_map (λ i. f (make k i)) xs
  flat_map_map k [] = refl
  flat_map_map k (x ∷ xs) = ap (λ l. f (make k x) ++ l) (flat_map_map k xs)

  flat_map_none : (g : I → List G) → ((i : I) → g i ≡ []) → (xs : List I) → flat_map g xs ≡ []
  flat_map_none g none [] = refl
  flat_map_none g none (x ∷ xs) = ap (λ l. l ++ flat_map g xs) (none x) ∙ flat_map_none g none xs

  flat_map_same : (g h : I → List G) → ((i : I) → g i ≡ h i) → (xs : List I) → flat_map g xs ≡ flat_map h xs
  flat_map_same g h same [] = refl
  flat_map_same g h same (x ∷ xs) = ap (λ l. l ++ flat_map g xs) (same x) ∙ ap (λ l. h x ++ l) (flat_map_same g h same xs)

  pub flat_entry : (e : K × J) (t : List (K × J)) → flat_map f (section items make (e ∷ t)) ≡ flat_map (λ i. f (make e.0 i)) (items e.1) ++ flat_map f (section items make t)
  flat_entry e t = flat_map-append f (map (make e.0) (items e.1)) (section items make t) ∙ ap (λ l. l ++ flat_map f (section items make t)) (flat_map_map e.0 (items e.1))

  -- a section of which f says nothing
  pub none_in_section : ((k : K) (i : I) → f (make k i) ≡ []) → (t : List (K × J)) → flat_map f (section items make t) ≡ []
  none_in_section none [] = refl
  none_in_section none (e ∷ t) = flat_entry e t ∙ ap (λ l. l ++ flat_map f (section items make t)) (flat_map_none (λ i. f (make e.0 i)) (none e.0) (items e.1)) ∙ none_in_section none t

  -- one of which f speaks at a key alone
  module _ (cmp : K → K → Ordering) (total : IsTotalOrder cmp) (exact : (a b : K) → cmp a b ≡ Equal → a ≡ b) (key : K) (line : I → List G)
      (hit : (i : I) → f (make key i) ≡ line i) (miss : (k : K) (i : I) → (k ≡ key → ⊥) → f (make k i) ≡ []) where
    entry_by : (e : K × J) (t : List (K × J)) (b : Bool) → is_at (cmp key) e.0 ≡ b → IsStrictlySortedBy cmp (keys_of (e ∷ t)) → flat_map f (section items make t) ≡ flat_map line (items_of items (value_at_key cmp t key))
        → flat_map (λ i. f (make e.0 i)) (items e.1) ++ flat_map f (section items make t) ≡ flat_map line (items_of items (cond b (Some e.1) (value_at_key cmp t key)))
    entry_by e t true is sorted rest =
        let here : key ≡ e.0 = exact key e.0 ((Equal-is (cmp key e.0)).0 is) in
        let missing : value_at_key cmp t key ≡ None = subst (λ k. value_at_key cmp t k ≡ None) (sym here) (none_below cmp e.0 t (sorted_head cmp e.0 (keys_of t) sorted)) in
        ap (λ l. flat_map (λ i. f (make e.0 i)) (items e.1) ++ l) (rest ∙ ap (λ o. flat_map line (items_of items o)) missing)
        ∙ append-nil (flat_map (λ i. f (make e.0 i)) (items e.1))
        ∙ flat_map_same (λ i. f (make e.0 i)) line (λ i. ap (λ k. f (make k i)) (sym here) ∙ hit i) (items e.1)
    entry_by e t false is sorted rest =
        ap (λ l. l ++ flat_map f (section items make t)) (flat_map_none (λ i. f (make e.0 i)) (λ i. miss e.0 i apart) (items e.1)) ∙ rest
      where
        apart : e.0 ≡ key → ⊥
        apart same = let at : is_at (cmp key) e.0 ≡ true = ap (λ k. is_at (cmp key) k) same ∙ ap is_eq (tied_itself total key) in absurd (cc)

    pub at_section : (t : List (K × J)) → IsStrictlySortedBy cmp (keys_of t) → flat_map f (section items make t) ≡ flat_map line (items_of items (value_at_key cmp t key))
    at_section [] sorted = refl
    at_section (e ∷ t) sorted = flat_entry e t ∙ entry_by e t (is_at (cmp key) e.0) refl sorted (at_section t (sorted_tail cmp e.0 (keys_of t) sorted))

pub flat_map_ones : {X : Type 0} (xs : List X) → flat_map (λ x. x ∷ []) xs ≡ xs
flat_map_ones [] = refl
flat_map_ones (x ∷ xs) = ap (λ l. x ∷ l) (flat_map_ones xs)

-- a loop over values by number: what is written, and what is left to be
pub numbered_written : {T G : Type 0} (g : ℤ × T → List G) (e : ℤ × List T) (rest after : List (ℤ × List T)) (so_far next all : List G) → rest ≡ e ∷ after → so_far ++ flat_map g (number_pairs rest) ≡ all → next ≡ so_far ++ flat_map (λ x. g (e.0, x)) e.1
    → next ++ flat_map g (number_pairs after) ≡ all
numbered_written g e rest after so_far next all front before now =
    ap (λ l. l ++ flat_map g (number_pairs after)) now ∙ append_assoc so_far (flat_map (λ x. g (e.0, x)) e.1) (flat_map g (number_pairs after))
    ∙ ap (λ l. so_far ++ l) (sym (flat_entry (λ xs. xs) (λ p x. (p, x)) g e after)) ∙ ap (λ t. so_far ++ flat_map g (number_pairs t)) (sym front) ∙ before

-- what is written one after the other
pub written_none : {G : Type 0} (out more : List G) → more ≡ [] → out ≡ out ++ more
written_none out more none = sym (ap (λ l. out ++ l) none ∙ append-nil out)

pub written_three : {G : Type 0} (a b c d x y z : List G) → b ≡ a ++ x → c ≡ b ++ y → d ≡ c ++ z → d ≡ a ++ (x ++ (y ++ z))
written_three a b c d x y z first second third =
    third ∙ ap (λ l. l ++ z) (second ∙ ap (λ l. l ++ y) first ∙ append_assoc a x y) ∙ append_assoc a (x ++ y) z ∙ ap (λ l. a ++ l) (append_assoc x y z)

-- a loop that writes what f says of each element: one element more
pub flat_written : {X G : Type 0} (f : X → List G) (xs : List X) (i : ℕ) (d : X) (start so_far next : List G) → i < length xs → so_far ≡ start ++ flat_map f (take i xs) → next ≡ so_far ++ f (get_or xs i d) → next ≡ start ++ flat_map f (take (i + 1) xs)
flat_written f xs i d start so_far next lt before now =
    let longer = ap (flat_map f) (take_more xs i d lt) ∙ flat_map-append f (take i xs) (get_or xs i d ∷ []) ∙ ap (λ l. flat_map f (take i xs) ++ l) (append-nil (f (get_or xs i d))) in
    now ∙ ap (λ l. l ++ f (get_or xs i d)) before ∙ append_assoc start (flat_map f (take i xs)) (f (get_or xs i d)) ∙ ap (λ l. start ++ l) (sym longer)

pub written_both : {G : Type 0} (a b c x y : List G) → b ≡ a ++ x → c ≡ b ++ y → c ≡ a ++ (x ++ y)
written_both a b c x y first second = second ∙ ap (λ l. l ++ y) first ∙ append_assoc a x y
