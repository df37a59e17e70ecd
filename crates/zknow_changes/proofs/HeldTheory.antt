-- Sets of what records have: what was put is there, and one more fact tells one more thing.
use Rattle.std.proofs.Common.{◌≡◌, ◌⊎◌, ◌↔◌, ◌+◌, ◌<◌, ℕ, List, [], ◌∷◌, ◌++◌, length, take, get_or, Option, Some, refl, sym, ap, subst, ◌∙◌, inl, inr, ⊎_elim}
use Rattle.std.specs.Prelude.{Contains, Result, Ok, Err, OnOk}
use Rattle.std.specs.declared.cmp.Ordering.{Ordering}
use Rattle.std.specs.declared.cmp.Ordering.TheVariants.{Less, Equal, Greater}
use Rattle.std.specs.Ordering.{match_ordering, ordering_then}
use Rattle.std.specs.Cmp.{IsTotalOrder}
use Rattle.std.specs.BTreeSet.{insert_key}
use Rattle.std.specs.List.{filter_map}
use Rattle.std.proofs.lemmas.List.{take_more}
use Rattle.std.proofs.lemmas.List.Elements.{filter_map-append, Contains-append_cases, Contains-append_left, Contains-append_right}
use Rattle.std.proofs.lemmas.Map.Lookups.{exact_bytes, exact_unsigned}
use Rattle.zknow.specs.Tables.DistinctLaws.{in_cons, in_head, in_tail, none_in_nil}
use Rattle.zknow.specs.Tables.Join.{IsUnion}
use Rattle.zknow.proofs.ListTheory.Places.{image_found, teller}
use Rattle.zknow_changes.specs.declared.held.Held.{Held}
use Rattle.zknow_changes.specs.declared.held.Catalogue.{Catalogue}
use Rattle.zknow_changes.specs.declared.held.Catalogue.TheVariants.{Named, Numbered}
use Rattle.zknow_changes.specs.contracts.held.CatalogueOrd.TheImpl as catalogue_ord
use Rattle.zknow_changes.specs.contracts.held.HeldOrd.TheImpl.Laws as held_laws
use Rattle.zknow_changes.specs.Indexes.{held_cmp}

-- ---- the order

abbrev catalogue_cmp : Catalogue → Catalogue → Ordering
catalogue_cmp = (catalogue_ord.ghosts).cmp

catalogue_exact : (a b : Catalogue) → catalogue_cmp a b ≡ Equal → a ≡ b
catalogue_exact (Named a) (Named b) h = ap (λ (x : List ℕ). Named x) (exact_bytes a b h)
catalogue_exact (Named a) (Numbered b) h = absurd (cc)
catalogue_exact (Numbered a) (Named b) h = absurd (cc)
catalogue_exact (Numbered a) (Numbered b) h = ap (λ (x : ℕ). Numbered x) (exact_unsigned a b h)

both_tied : (a b : Ordering) → ordering_then a b ≡ Equal → (a ≡ Equal) × (b ≡ Equal)
both_tied Less b h = absurd (cc)
both_tied Equal b h = (refl, h)
both_tied Greater b h = absurd (cc)

pub held_exact : (a b : Held) → held_cmp a b ≡ Equal → a ≡ b
held_exact a b h =
    let both = both_tied (catalogue_cmp a.catalogue b.catalogue) _ h in
    let same = catalogue_exact a.catalogue b.catalogue both.0 in
    let octets = exact_bytes a.octets b.octets both.1 in
    ap (λ (c : Catalogue). record { catalogue = c; octets = a.octets }) same
    ∙ ap (λ (x : List ℕ). record { catalogue = b.catalogue; octets = x }) octets

pub held_total : IsTotalOrder held_cmp
held_total = held_laws.total-law

-- ---- what is put into a set

module _ {K : Type 0} (cmp : K → K → Ordering) (exact : (a b : K) → cmp a b ≡ Equal → a ≡ b) where
  put_by : (x : K) (xs : List K) (k q : K) (o : Ordering) → cmp k x ≡ o
      → (Contains (insert_key cmp xs k) q ↔ (Contains xs q ⊎ (q ≡ k)))
      → Contains (match_ordering o (k ∷ x ∷ xs) (x ∷ xs) (x ∷ insert_key cmp xs k)) q ↔ (Contains (x ∷ xs) q ⊎ (q ≡ k))
  put_by x xs k q Less is tail = (
    λ h. ⊎_elim (λ same. inr (sym same)) inl (in_cons k (x ∷ xs) q h),
    ⊎_elim (λ h. in_tail k (x ∷ xs) q h) (λ same. subst (Contains (k ∷ x ∷ xs)) (sym same) (in_head k (x ∷ xs))),
  )
  put_by x xs k q Equal is tail = (
    inl,
    ⊎_elim (λ h. h) (λ same. subst (Contains (x ∷ xs)) (sym (same ∙ exact k x is)) (in_head x xs)),
  )
  put_by x xs k q Greater is tail = (
    λ h. ⊎_elim (λ same. inl (subst (Contains (x ∷ xs)) same (in_head x xs)))
        (λ later. ⊎_elim (λ old. inl (in_tail x xs q old)) inr (tail.0 later))
        (in_cons x (insert_key cmp xs k) q h),
    ⊎_elim (λ h. ⊎_elim
        (λ same. subst (Contains (x ∷ insert_key cmp xs k)) same (in_head x (insert_key cmp xs k)))
        (λ later. in_tail x (insert_key cmp xs k) q (tail.1 (inl later)))
        (in_cons x xs q h))
        (λ same. in_tail x (insert_key cmp xs k) q (tail.1 (inr same))),
  )

  pub put_members : (xs : List K) (k q : K) → Contains (insert_key cmp xs k) q ↔ (Contains xs q ⊎ (q ≡ k))
  put_members [] k q = (
    λ h. ⊎_elim (λ same. inr (sym same)) inl (in_cons k [] q h),
    ⊎_elim (λ h. in_tail k [] q h) (λ same. subst (Contains (k ∷ [])) (sym same) (in_head k [])),
  )
  put_members (x ∷ xs) k q = put_by x xs k q (cmp k x) refl (put_members xs k q)

-- ---- what one more element tells

module _ {X Y : Type 0} (f : X → Option Y) (xs : List X) (i : ℕ) (x : X) (inside : i < length xs)
    (at : x ≡ get_or xs i x) where
  longer : filter_map f (take (i + 1) xs) ≡ filter_map f (take i xs) ++ filter_map f (x ∷ [])
  longer =
      ap (filter_map f) (take_more xs i x inside ∙ ap (λ z. take i xs ++ z ∷ []) (sym at))
      ∙ filter_map-append f (take i xs) (x ∷ [])

  told_alone : (y : Y) → Contains (filter_map f (x ∷ [])) y → f x ≡ Some y
  told_alone y h =
      let one = teller f (x ∷ []) y h in
      ⊎_elim (λ same. ap f same ∙ one.2) (λ none. absurd (none_in_nil one.0 none)) (in_cons x [] one.0 one.1)

  -- a set that had what the first told, and then what one more tells
  pub one_more_told : (old new : Y → Type 0) → ((y : Y) → old y ↔ Contains (filter_map f (take i xs)) y)
      → IsUnion old (λ y. f x ≡ Some y) new
      → (y : Y) → new y ↔ Contains (filter_map f (take (i + 1) xs)) y
  one_more_told old new before union y = (
    λ h. subst (λ l. Contains l y) (sym longer) (⊎_elim
        (λ was. Contains-append_left (filter_map f (take i xs)) (filter_map f (x ∷ [])) y ((before y).0 was))
        (λ told. Contains-append_right (filter_map f (take i xs)) (filter_map f (x ∷ [])) y
        (image_found f (x ∷ []) x y (in_head x []) told))
        ((union y).0 h)),
    λ h. (union y).1 (⊎_elim
        (λ was. inl ((before y).1 was))
        (λ told. inr (told_alone y told))
        (Contains-append_cases (filter_map f (take i xs)) (filter_map f (x ∷ [])) y
        (subst (λ l. Contains l y) longer h))),
  )

  -- a set with what it had at first, and then what the first told and one more tells
  pub one_more_added : (start old new : Y → Type 0) → IsUnion start (Contains (filter_map f (take i xs))) old
      → IsUnion old (λ y. f x ≡ Some y) new → IsUnion start (Contains (filter_map f (take (i + 1) xs))) new
  one_more_added start old new before union y = (
    λ h. ⊎_elim
        (λ was. ⊎_elim inl
        (λ told. inr (subst (λ l. Contains l y) (sym longer)
        (Contains-append_left (filter_map f (take i xs)) (filter_map f (x ∷ [])) y told)))
        ((before y).0 was))
        (λ told. inr (subst (λ l. Contains l y) (sym longer)
        (Contains-append_right (filter_map f (take i xs)) (filter_map f (x ∷ [])) y
        (image_found f (x ∷ []) x y (in_head x []) told))))
        ((union y).0 h),
    ⊎_elim
        (λ first. (union y).1 (inl ((before y).1 (inl first))))
        (λ told. ⊎_elim
        (λ was. (union y).1 (inl ((before y).1 (inr was))))
        (λ one. (union y).1 (inr (told_alone y one)))
        (Contains-append_cases (filter_map f (take i xs)) (filter_map f (x ∷ [])) y
        (subst (λ l. Contains l y) longer told))),
  )

-- ---- what a call adds

-- what follows from what holds if the call succeeds
pub on_ok : {E P Q : Type 0} (r : Result (Unit {0}) E) → (P → Q) → OnOk r P → OnOk r Q
on_ok (Ok u) f h = f h
on_ok (Err e) f h = tt

union_one : {Y : Type 0} (x : Y) (old new : Y → Type 0) → IsUnion old (λ y. y ≡ x) new
    → IsUnion old (λ y. ◌≡◌ {A = Option Y} (Some x) (Some y)) new
union_one x old new union y = (
  λ h. ⊎_elim inl (λ same. inr (ap (λ z. Some z) (sym same))) ((union y).0 h),
  ⊎_elim (λ was. (union y).1 (inl was)) (λ one. (union y).1 (inr (cc))),
)

-- one thing was added, which an option has
pub union_some : {Y : Type 0} (o : Option Y) (x : Y) (old new : Y → Type 0) → o ≡ Some x
    → IsUnion old (λ y. y ≡ x) new → IsUnion old (λ y. o ≡ Some y) new
union_some o x old new is union =
    subst (λ z. IsUnion old (λ y. z ≡ Some y) new) (sym is) (union_one x old new union)

-- what is added to nothing
pub from_nothing : {Y : Type 0} (start : List Y) (more new : Y → Type 0) → start ≡ []
    → IsUnion (Contains start) more new → (y : Y) → new y ↔ more y
from_nothing start more new none union y = (
  λ h. ⊎_elim (λ was. absurd (none_in_nil y (subst (λ l. Contains l y) none was))) (λ told. told) ((union y).0 h),
  λ h. (union y).1 (inr h),
)

-- two things that are added to nothing
pub both_from_nothing : {Y : Type 0} (start : List Y) (one two first new : Y → Type 0) → start ≡ []
    → IsUnion (Contains start) one first → IsUnion first two new → (y : Y) → new y ↔ (one y ⊎ two y)
both_from_nothing start one two first new none union more y =
    let begun = from_nothing start one first none union y in (
      λ h. ⊎_elim (λ was. inl (begun.0 was)) inr ((more y).0 h),
      ⊎_elim (λ was. (more y).1 (inl (begun.1 was))) (λ told. (more y).1 (inr told)),
    )
