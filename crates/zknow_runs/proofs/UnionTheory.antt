-- Facts joined: what is in two lists of facts, in order; the facts that pass a test; and facts of files put in order.
use Rattle.std.proofs.Common.{◌≡◌, ◌↔◌, ℕ, Bool, true, false, List, [], ◌∷◌, refl, sym, ap, subst, ◌∙◌, inl, inr, ⊎_elim}
use Rattle.std.specs.Prelude.{Contains}
use Rattle.std.specs.declared.cmp.Ordering.{Ordering}
use Rattle.std.specs.declared.cmp.Ordering.TheVariants.{Less, Equal, Greater}
use Rattle.std.specs.Ordering.{ordering_reverse}
use Rattle.std.specs.List.Sorted.{IsStrictlySortedBy}
use Rattle.std.proofs.lemmas.Map.Keys.{sorted_head, sorted_tail}
use Rattle.zknow.specs.declared.fact.Fact.{Fact}
use Rattle.zknow.specs.FactLaws.{fact_total}
use Rattle.zknow.specs.Facts.{fact_cmp, IsFact, AreFacts}
use Rattle.zknow.specs.Saved.Fronts.{IsTakenFront}
use Rattle.zknow.specs.Saved.Saved.{IsWithinLimits}
use Rattle.zknow.specs.Saved.SavedFacts.{saved_fact}
use Rattle.zknow.specs.Tables.DistinctLaws.{none_in_nil, in_cons, in_head, in_tail, each_in}
use Rattle.zknow.specs.Tables.Join.{IsUnion}
use Rattle.zknow.proofs.TableTheory.InSections.{all_from}
use Rattle.zknow_runs.proofs.TieTheory.{is_fact_of, tied_fits}

-- ---- facts

-- what octets begin with is a fact
pub is_fact_taken : (octets : List ℕ) (f : Fact) (size : ℕ) → IsTakenFront saved_fact octets f size → IsFact f
is_fact_taken octets f size taken = is_fact_of f taken.element

pub each_fact : (xs : List Fact) → AreFacts xs → (f : Fact) → Contains xs f → IsFact f
each_fact xs of_xs f here = each_in IsFact xs of_xs.each f here

pub no_facts : AreFacts []
unfolding IsStrictlySortedBy
no_facts = record { ordered = tt; each = tt }

facts_above : (x : Fact) (xs : List Fact) → AreFacts (x ∷ xs) → (y : Fact) → Contains xs y → fact_cmp x y ≡ Less
facts_above x xs good y here = each_in (λ z. fact_cmp x z ≡ Less) xs (sorted_head fact_cmp x xs good.ordered) y here

facts_tail : (x : Fact) (xs : List Fact) → AreFacts (x ∷ xs) → AreFacts xs
facts_tail x xs good = record { ordered = sorted_tail fact_cmp x xs good.ordered; each = good.each.1 }

facts_cons : (x : Fact) (xs : List Fact) → IsFact x → AreFacts xs
    → ((y : Fact) → Contains xs y → fact_cmp x y ≡ Less) → AreFacts (x ∷ xs)
unfolding IsStrictlySortedBy
facts_cons x xs is good above = record {
  ordered = (all_from fact_cmp (λ y. fact_cmp x y ≡ Less) xs above, good.ordered);
  each = (is, good.each);
}

-- ---- one fact more

-- the facts and this one, in order
abbrev pub OneMore : List Fact → Fact → Type 0
OneMore xs k = (v : List Fact) × AreFacts v × IsUnion (Contains xs) (λ g. g ≡ k) (Contains v)

-- the fact ties with none of these but itself
abbrev pub IsAlone : List Fact → Fact → Type 0
IsAlone xs k = (x : Fact) → Contains xs x → fact_cmp k x ≡ Equal → k ≡ x

more_by : (k x : Fact) (xs : List Fact) → IsFact k → AreFacts (x ∷ xs) → IsAlone (x ∷ xs) k → OneMore xs k
    → (o : Ordering) → fact_cmp k x ≡ o → OneMore (x ∷ xs) k
more_by k x xs is_k good alone tail Less is = (
  k ∷ x ∷ xs,
  facts_cons k (x ∷ xs) is_k good
      (λ y h. ⊎_elim (λ same. subst (λ (z : Fact). fact_cmp k z ≡ Less) same is)
      (λ later. fact_total.trans k x y is (facts_above x xs good y later)) (in_cons x xs y h)),
  λ q. (
    λ h. ⊎_elim (λ same. inr (sym same)) inl (in_cons k (x ∷ xs) q h),
    ⊎_elim (λ h. in_tail k (x ∷ xs) q h)
        (λ same. subst (Contains (k ∷ x ∷ xs)) (sym same) (in_head k (x ∷ xs))),
  ),
)
more_by k x xs is_k good alone tail Equal is = (
  x ∷ xs,
  good,
  λ q. (
    inl,
    ⊎_elim (λ h. h)
        (λ same. subst (Contains (x ∷ xs)) (sym (same ∙ alone x (in_head x xs) is)) (in_head x xs)),
  ),
)
more_by k x xs is_k good alone tail Greater is =
    let v : List Fact = tail.0 in
    let members : IsUnion (Contains xs) (λ g. g ≡ k) (Contains v) = tail.2 in (
      x ∷ v,
      facts_cons x v good.each.0 tail.1
          (λ y h. ⊎_elim (λ old. facts_above x xs good y old)
          (λ same. subst (λ (z : Fact). fact_cmp x z ≡ Less) (sym same)
          (fact_total.antisymm x k ∙ ap ordering_reverse is)) ((members y).0 h)),
      λ q. (
        λ h. ⊎_elim (λ same. inl (subst (Contains (x ∷ xs)) same (in_head x xs)))
            (λ later. ⊎_elim (λ old. inl (in_tail x xs q old)) inr ((members q).0 later)) (in_cons x v q h),
        ⊎_elim
            (λ h. ⊎_elim (λ same. subst (Contains (x ∷ v)) same (in_head x v))
            (λ later. in_tail x v q ((members q).1 (inl later))) (in_cons x xs q h))
            (λ same. in_tail x v q ((members q).1 (inr same))),
      ),
    )

pub one_more : (xs : List Fact) (k : Fact) → AreFacts xs → IsFact k → IsAlone xs k → OneMore xs k
one_more [] k good is_k alone = (
  k ∷ [],
  facts_cons k [] is_k good (λ y h. absurd (none_in_nil y h)),
  λ q. (
    λ h. ⊎_elim (λ same. inr (sym same)) inl (in_cons k [] q h),
    ⊎_elim (λ h. absurd (none_in_nil q h)) (λ same. subst (Contains (k ∷ [])) (sym same) (in_head k [])),
  ),
)
one_more (x ∷ xs) k good is_k alone =
    more_by k x xs is_k good alone
    (one_more xs k (facts_tail x xs good) is_k (λ y h tied. alone y (in_tail x xs y h) tied)) (fact_cmp k x) refl

-- ---- the facts of two lists

-- facts of the two lists that tie are equal
abbrev pub DoAgree : List Fact → List Fact → Type 0
DoAgree xs ys = (f g : Fact) → Contains xs f → Contains ys g → fact_cmp f g ≡ Equal → f ≡ g

-- the facts of both, in order
abbrev pub Joined : List Fact → List Fact → Type 0
Joined xs ys = (u : List Fact) × AreFacts u × IsUnion (Contains xs) (Contains ys) (Contains u)

pub union_of : (xs ys : List Fact) → AreFacts xs → AreFacts ys → DoAgree xs ys → Joined xs ys
union_of [] ys of_xs of_ys agree = (ys, of_ys, λ q. (inr, ⊎_elim (λ no. absurd (none_in_nil q no)) (λ h. h)))
union_of (x ∷ xs) ys of_xs of_ys agree =
    let rest : Joined xs ys =
    union_of xs ys (facts_tail x xs of_xs) of_ys (λ f g hf hg tied. agree f g (in_tail x xs f hf) hg tied) in
    let members : IsUnion (Contains xs) (Contains ys) (Contains rest.0) = rest.2 in
    let alone : IsAlone rest.0 x =
    λ y h tied. ⊎_elim (λ one. let less : fact_cmp x y ≡ Less = facts_above x xs of_xs y one in absurd cc)
    (λ other. agree x y (in_head x xs) other tied) ((members y).0 h) in
    let all : OneMore rest.0 x = one_more rest.0 x rest.1 of_xs.each.0 alone in
    let more : IsUnion (Contains rest.0) (λ g. g ≡ x) (Contains all.0) = all.2 in (
      all.0,
      all.1,
      λ q. (
        λ h. ⊎_elim (λ old. ⊎_elim (λ one. inl (in_tail x xs q one)) inr ((members q).0 old))
            (λ same. inl (subst (Contains (x ∷ xs)) (sym same) (in_head x xs))) ((more q).0 h),
        ⊎_elim
            (λ h. ⊎_elim (λ same. (more q).1 (inr (sym same)))
            (λ later. (more q).1 (inl ((members q).1 (inl later)))) (in_cons x xs q h))
            (λ h. (more q).1 (inl ((members q).1 (inr h)))),
      ),
    )

-- ---- the facts that pass a test

module _ (P : Fact → Bool) where
  -- those of the facts, in order
  abbrev pub Kept : List Fact → Type 0
  Kept xs = (u : List Fact) × AreFacts u × ((f : Fact) → Contains u f ↔ (Contains xs f × (P f ≡ true)))

  kept_by : (x : Fact) (xs : List Fact) → AreFacts (x ∷ xs) → Kept xs → (b : Bool) → P x ≡ b → Kept (x ∷ xs)
  kept_by x xs good tail true is =
      let u : List Fact = tail.0 in
      let members : (f : Fact) → Contains u f ↔ (Contains xs f × (P f ≡ true)) = tail.2 in (
        x ∷ u,
        facts_cons x u good.each.0 tail.1 (λ y h. facts_above x xs good y ((members y).0 h).0),
        λ f. (
          λ h. ⊎_elim
              (λ same. subst (λ (z : Fact). Contains (x ∷ xs) z × (P z ≡ true)) same (in_head x xs, is))
              (λ later. let old = (members f).0 later in (in_tail x xs f old.0, old.1)) (in_cons x u f h),
          λ h. ⊎_elim (λ same. subst (Contains (x ∷ u)) same (in_head x u))
              (λ later. in_tail x u f ((members f).1 (later, h.1))) (in_cons x xs f h.0),
        ),
      )
  kept_by x xs good tail false is =
      let u : List Fact = tail.0 in
      let members : (f : Fact) → Contains u f ↔ (Contains xs f × (P f ≡ true)) = tail.2 in (
        u,
        tail.1,
        λ f. (
          λ h. let old = (members f).0 h in (in_tail x xs f old.0, old.1),
          λ h. ⊎_elim
              (λ same. let passed : P x ≡ true = subst (λ (z : Fact). P z ≡ true) (sym same) h.1 in absurd cc)
              (λ later. (members f).1 (later, h.1)) (in_cons x xs f h.0),
        ),
      )

  pub kept_of : (xs : List Fact) → AreFacts xs → Kept xs
  kept_of [] good = ([], good, λ f. (λ h. absurd (none_in_nil f h), λ h. h.0))
  kept_of (x ∷ xs) good = kept_by x xs good (kept_of xs (facts_tail x xs good)) (P x) refl

-- ---- facts whose elements are within the limits of saved files

-- each of these is
abbrev pub DoFit : List Fact → Type 0
DoFit xs = (f : Fact) → Contains xs f → IsWithinLimits saved_fact f

pub fits_agree : (xs ys : List Fact) → DoFit xs → DoFit ys → DoAgree xs ys
fits_agree xs ys of_xs of_ys f g hf hg tied = tied_fits f g (of_xs f hf) (of_ys g hg) tied

-- the facts of any list, in order
abbrev pub Ordered : List Fact → Type 0
Ordered fs = (u : List Fact) × AreFacts u × ((f : Fact) → Contains u f ↔ Contains fs f)

pub in_order : (fs : List Fact) → DoFit fs → Ordered fs
in_order [] fits = ([], no_facts, λ f. (λ h. h, λ h. h))
in_order (x ∷ xs) fits =
    let rest : Ordered xs = in_order xs (λ f h. fits f (in_tail x xs f h)) in
    let members : (f : Fact) → Contains rest.0 f ↔ Contains xs f = rest.2 in
    let fits_x : IsWithinLimits saved_fact x = fits x (in_head x xs) in
    let alone : IsAlone rest.0 x = λ y h tied. tied_fits x y fits_x (fits y (in_tail x xs y ((members y).0 h))) tied in
    let all : OneMore rest.0 x = one_more rest.0 x rest.1 (is_fact_of x fits_x) alone in
    let more : IsUnion (Contains rest.0) (λ g. g ≡ x) (Contains all.0) = all.2 in (
      all.0,
      all.1,
      λ q. (
        λ h. ⊎_elim (λ old. in_tail x xs q ((members q).0 old))
            (λ same. subst (Contains (x ∷ xs)) (sym same) (in_head x xs)) ((more q).0 h),
        λ h. ⊎_elim (λ same. (more q).1 (inr (sym same)))
            (λ later. (more q).1 (inl ((members q).1 later))) (in_cons x xs q h),
      ),
    )
