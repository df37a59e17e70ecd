-- The least of the facts that wait.
use Rattle.std.proofs.Common.{◌≡◌, ◌<◌, ◌+◌, ℕ, true, false, List, length, get_or, Option, Some, None, sym, subst, ◌∙◌, ⊎_elim, arith}
use Rattle.std.proofs.lemmas.List.{get_or_default}
use Rattle.std.proofs.lemmas.Bool.{cases_lt}
use Rattle.std.specs.declared.cmp.Ordering.TheVariants.{Less}
use Rattle.zknow.specs.declared.fact.Fact.{Fact}
use Rattle.zknow.specs.Facts.{fact_cmp}
use Rattle.zknow.specs.FactLaws.{fact_total}
use Rattle.zknow.specs.Tables.DistinctLaws.{less_itself}
use Rattle.zknow_merge.specs.declared.head.Head.{Head}
use Rattle.zknow_merge.specs.declared.source.Source.{Source}
use Rattle.zknow_merge.specs.Heads.{IsSavable}
use Rattle.zknow_merge.specs.Sources.{IsHeadOption, HasHead, IsLeast, IsLeastAt, AreNoneWaiting, IsWanting, IsWantingAt, HaveSameNames, HaveOtherNames, AreSame, IsFirstSourceOfOtherNames}
use Rattle.zknow_merge.proofs.HeadTheory.{head_order, at_most}

pub savable_head : (o : Option Head) (f : Fact) → IsHeadOption o f → IsSavable f
savable_head None f h = absurd h
savable_head (Some k) f h = h.savable

same_heads : (o : Option Head) (f g : Fact) → IsHeadOption o f → IsHeadOption o g → fact_cmp f g ≡ fact_cmp g f
same_heads None f g hf hg = absurd hf
same_heads (Some h) f g hf hg = sym (head_order h h f g hf.key hg.key) ∙ head_order h h g f hg.key hf.key

pub least_itself : (s : Source) → IsLeast s s
least_itself s f g hf hg less =
    less_itself fact_cmp fact_total f (fact_total.trans f g f (same_heads s.last f g hf.1 hg.1 ∙ less) less)

pub least_trans : (s t u : Source) (e : Fact) → HasHead t e → IsLeast s t → IsLeast t u → IsLeast s u
least_trans s t u e he low high f g hf hg less = ⊎_elim
    (λ below. high e g he hg (fact_total.trans g f e less below))
    (λ same. high e g he hg (subst (λ (z : Fact). fact_cmp g z ≡ Less) same less))
    (at_most f e (savable_head s.last f hf.1) (savable_head t.last e he.1) (low f e hf he))

module _ (sources : List Source) (k : ℕ) (among : k < length sources) where
  at_other : (d e : Source) → get_or sources k d ≡ get_or sources k e
  at_other d e = get_or_default sources k d e among

  -- of one more source
  up_to : (s : Source) → ((j : ℕ) (e : Source) → j < k → j < length sources → IsLeast s (get_or sources j e)) → ((e : Source) → IsLeast s (get_or sources k e)) → (j : ℕ) (e : Source) → j < k + 1 → j < length sources → IsLeast s (get_or sources j e)
  up_to s before here j e below within = ⊎_elim
      (λ early. before j e early within)
      (λ late. let is : k ≡ j = omega (arith, below, late) in subst (λ (q : ℕ). IsLeast s (get_or sources q e)) is (here e))
      (cases_lt j k)

  pub least_first : ((d : Source) → (get_or sources k d).waiting ≡ true) → AreNoneWaiting sources k → IsLeastAt sources (k + 1) k
  least_first waits none = record {
    among = among;
    waits = waits;
    least = λ j d e below within. up_to (get_or sources k d)
        (λ q b early here f g hf hg less. let a = hg.0 in let never = none q b early here in absurd cc)
        (λ b. subst (IsLeast (get_or sources k d)) (at_other d b) (least_itself (get_or sources k d)))
        j e below within;
  }

  module _ (l : ℕ) (old : IsLeastAt sources k l) where
    pub least_old : ((d e : Source) → IsLeast (get_or sources l d) (get_or sources k e)) → IsLeastAt sources (k + 1) l
    least_old here = record {
      among = old.among;
      waits = old.waits;
      least = λ j d e below within. up_to (get_or sources l d) (λ q b early in_list. old.least q d b early in_list) (λ b. here d b) j e below within;
    }

    pub least_new : ((d : Source) → (get_or sources k d).waiting ≡ true) → ((d : Source) → (f : Fact) × HasHead (get_or sources l d) f) → ((d e : Source) → IsLeast (get_or sources k d) (get_or sources l e)) → IsLeastAt sources (k + 1) k
    least_new waits headed here = record {
      among = among;
      waits = waits;
      least = λ j d e below within. up_to (get_or sources k d)
          (λ q b early in_list. least_trans (get_or sources k d) (get_or sources l d) (get_or sources q b) (headed d).0 (headed d).1 (here d d) (old.least q d b early in_list))
          (λ b. subst (IsLeast (get_or sources k d)) (at_other d b) (least_itself (get_or sources k d)))
          j e below within;
    }

-- ---- one source more was looked at

module _ (sources : List Source) (k : ℕ) (lt : k < length sources) (s : Source) (is : s ≡ get_or sources k s) where
  pub item_at : (d : Source) → get_or sources k d ≡ s
  item_at d = get_or_default sources k d s lt ∙ sym is

  -- what holds of each before, and of this one, holds of each up to here
  up_to_here : (P : Source → Type 0) → ((j : ℕ) (d : Source) → j < k → j < length sources → P (get_or sources j d)) → P s → (j : ℕ) (d : Source) → j < k + 1 → j < length sources → P (get_or sources j d)
  up_to_here P before here j d below within = ⊎_elim
      (λ early. before j d early within)
      (λ late. let same : k ≡ j = omega (arith, below, late) in subst (λ (q : ℕ). P (get_or sources q d)) same (subst P (sym (item_at d)) here))
      (cases_lt j k)

  pub wanting_here : IsWanting s → IsWantingAt sources k
  wanting_here h = record { among = lt; wanting = λ d. subst IsWanting (sym (item_at d)) h }

  pub settled_more : ((j : ℕ) (d : Source) → j < k → IsWanting (get_or sources j d) → ⊥) → (IsWanting s → ⊥) → (j : ℕ) (d : Source) → j < k + 1 → IsWanting (get_or sources j d) → ⊥
  settled_more before here j d below = ⊎_elim
      (λ early. before j d early)
      (λ late. let same : k ≡ j = omega (arith, below, late) in subst (λ (q : ℕ). IsWanting (get_or sources q d) → ⊥) same (subst (λ (t : Source). IsWanting t → ⊥) (sym (item_at d)) here))
      (cases_lt j k)

  pub quiet_more : AreNoneWaiting sources k → s.waiting ≡ false → AreNoneWaiting sources (k + 1)
  quiet_more before here = up_to_here (λ (t : Source). t.waiting ≡ false) before here

  pub waits_here : s.waiting ≡ true → (d : Source) → (get_or sources k d).waiting ≡ true
  waits_here h d = subst (λ (t : Source). t.waiting ≡ true) (sym (item_at d)) h

  module _ (first : Source) (first_is : first ≡ get_or sources 0 first) where
    first_at : (d : Source) → get_or sources 0 d ≡ first
    first_at d = get_or_default sources 0 d first (omega (arith, lt)) ∙ sym first_is

    pub same_more : AreSame sources k → HaveSameNames first s → AreSame sources (k + 1)
    same_more before here j d e below within = ⊎_elim
        (λ early. before j d e early within)
        (λ late. let same : k ≡ j = omega (arith, below, late) in
        subst (λ (q : ℕ). HaveSameNames (get_or sources 0 d) (get_or sources q e)) same
        (subst (λ (t : Source). HaveSameNames t (get_or sources k e)) (sym (first_at d)) (subst (HaveSameNames first) (sym (item_at e)) here)))
        (cases_lt j k)

    pub other_here : AreSame sources k → HaveOtherNames first s → IsFirstSourceOfOtherNames sources k
    other_here before here = record {
      among = lt;
      before = before;
      others = λ d e. subst (λ (t : Source). HaveOtherNames t (get_or sources k e)) (sym (first_at d)) (subst (HaveOtherNames first) (sym (item_at e)) here);
    }

-- the sources that were compared
pub least_at : (sources : List Source) (k l : ℕ) → k < length sources → l < length sources → (s t : Source) → s ≡ get_or sources k s → t ≡ get_or sources l t → IsLeast s t → (d e : Source) → IsLeast (get_or sources k d) (get_or sources l e)
least_at sources k l lk ll s t is_s is_t low d e =
    subst (λ (q : Source). IsLeast q (get_or sources l e)) (sym (item_at sources k lk s is_s d))
    (subst (IsLeast s) (sym (item_at sources l ll t is_t e)) low)
