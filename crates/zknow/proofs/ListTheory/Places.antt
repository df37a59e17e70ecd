-- What a list of facts says at one place.
use Rattle.std.proofs.Common.{◌≡◌, ◌≢◌, ◌↔◌, ◌≤◌, ℕ, ℤ, Bool, true, false, List, [], ◌∷◌, length, Option, Some, None, cond, refl, sym, ap, subst, ◌∙◌, ⊎_elim, arith}
use Rattle.std.specs.Prelude.{Contains, ◌&&◌, if◌then◌else◌}
use Rattle.std.specs.declared.cmp.Ordering.{Ordering}
use Rattle.std.specs.declared.cmp.Ordering.TheVariants.{Less}
use Rattle.std.specs.Cmp.{IsTotalOrder}
use Rattle.std.specs.Ordering.{int_cmp, int_eq}
use Rattle.std.specs.List.{filter_map, cons_option, AllByRecursion}
use Rattle.std.specs.List.Sorted.{IsStrictlySortedBy}
use Rattle.std.proofs.lemmas.Bool.Decides.{Decides-eqb, Decides-int_eq}
use Rattle.std.proofs.lemmas.Cmp.{int_cmp_total}
use Rattle.std.proofs.lemmas.Map.Keys.{sorted_head, sorted_tail}
use Rattle.zapdu.specs.declared.productions.record.Record.{Record}
use Rattle.zapdu.specs.Productions.Records.{whole_record}
use Rattle.zknow.specs.declared.fact.Fact.{Fact}
use Rattle.zknow.specs.declared.fact.Fact.TheVariants.{Count, Failed, Seen, Diag}
use Rattle.zknow.specs.Tables.DistinctLaws.{in_cons, in_head, in_tail, none_in_nil, each_in, less_itself}
use Rattle.zknow.specs.Encodings.{encoding_cmp, encoding_total}
use Rattle.zasn.specs.Place.{IsSpellable}
use Rattle.zknow.specs.Facts.{fact_cmp, IsFact, AreFacts}
use Rattle.zknow.specs.Known.{is_set, fact_count, fact_record, counts_at, records_at}
use Rattle.zknow.specs.List.ListLaws.{HasTwoCounts, IsConflict}
use Rattle.zknow.specs.Tables.Tables.{AreCounts, AreRecords}
use Rattle.zknow.proofs.TableTheory.FactsInOrder.{same_place, counts_differ}
use Rattle.zknow.proofs.TableTheory.InSections.{all_from}
use Rattle.zber.proofs.Tests.{both_true}
use Rattle.zknow.proofs.ListTheory.KnownAt.{is_set_itself}

-- ---- what f tells of the elements of a list

module _ {X Y : Type 0} (f : X → Option Y) where
  image_later : (ys : List Y) (o : Option Y) (y : Y) → Contains ys y → Contains (cons_option o ys) y
  image_later ys None y h = h
  image_later ys (Some z) y h = in_tail z ys y h

  image_first : (ys : List Y) (o : Option Y) (y : Y) → o ≡ Some y → Contains (cons_option o ys) y
  image_first ys None y is = absurd (cc)
  image_first ys (Some z) y is = let same : z ≡ y = cc in subst (Contains (z ∷ ys)) same (in_head z ys)

  pub image_found : (xs : List X) (x : X) (y : Y) → Contains xs x → f x ≡ Some y → Contains (filter_map f xs) y
  image_found [] x y h is = absurd (none_in_nil x h)
  image_found (z ∷ zs) x y h is = ⊎_elim
      (λ same. image_first (filter_map f zs) (f z) y (ap f same ∙ is))
      (λ later. image_later (filter_map f zs) (f z) y (image_found zs x y later is))
      (in_cons z zs x h)

  by_first : (z : X) (zs : List X) (o : Option Y) (y : Y) → f z ≡ o → ((x : X) × Contains zs x × (f x ≡ Some y) → (x : X) × Contains (z ∷ zs) x × (f x ≡ Some y))
      → (Contains (filter_map f zs) y → (x : X) × Contains zs x × (f x ≡ Some y)) → Contains (cons_option o (filter_map f zs)) y → (x : X) × Contains (z ∷ zs) x × (f x ≡ Some y)
  by_first z zs None y is longer rest h = longer (rest h)
  by_first z zs (Some w) y is longer rest h = ⊎_elim
      (λ same. (z, in_head z zs, is ∙ ap Some same))
      (λ later. longer (rest later))
      (in_cons w (filter_map f zs) y h)

  pub teller : (xs : List X) (y : Y) → Contains (filter_map f xs) y → (x : X) × Contains xs x × (f x ≡ Some y)
  teller [] y h = absurd (none_in_nil y h)
  teller (z ∷ zs) y h = by_first z zs (f z) y refl (λ found. (found.0, in_tail z zs found.0 found.1, found.2)) (teller zs y) h

  -- where f keeps the order, what it tells of a list in order is in order
  module _ (c : X → X → Ordering) (order : Y → Y → Ordering) (keeps : (a b : X) (y z : Y) → f a ≡ Some y → f b ≡ Some z → c a b ≡ Less → order y z ≡ Less) where
    one_more : (x : X) (xs : List X) (o : Option Y) → f x ≡ o → AllByRecursion (λ b. c x b ≡ Less) xs → IsStrictlySortedBy order (filter_map f xs) → IsStrictlySortedBy order (cons_option o (filter_map f xs))
    unfolding IsStrictlySortedBy
    one_more x xs None is below sorted = sorted
    one_more x xs (Some y) is below sorted = (
      all_from order (λ z. order y z ≡ Less) (filter_map f xs) (λ z h. let b = teller xs z h in keeps x b.0 y z is b.2 (each_in (λ q. c x q ≡ Less) xs below b.0 b.1)),
      sorted,
    )

    pub image_sorted : (xs : List X) → IsStrictlySortedBy c xs → IsStrictlySortedBy order (filter_map f xs)
    unfolding IsStrictlySortedBy
    image_sorted [] sorted = tt
    image_sorted (x ∷ xs) sorted = one_more x xs (f x) refl (sorted_head c x xs sorted) (image_sorted xs (sorted_tail c x xs sorted))

-- ---- the fact that tells a count, a record

some_if : {Y : Type 0} (b : Bool) (y z : Y) → cond b (Some y) None ≡ Some z → (b ≡ true) × (y ≡ z)
some_if true y z is = (refl, cc)
some_if false y z is = absurd (cc)

module _ (t s : ℕ) where
  set_is : (u v : ℕ) → is_set t s u v ≡ true → (u ≡ t) × (v ≡ s)
  set_is u v is = let both = both_true _ _ is in ((Decides-eqb u t).0 both.0, (Decides-eqb v s).0 both.1)

  pub count_is : (f : Fact) (n : ℤ) → fact_count t s f ≡ Some n → f ≡ Count t s n
  count_is (Count u v m) n is =
      let one = some_if (is_set t s u v) m n is in
      let set = set_is u v one.0 in
      ap (λ w. Count w v m) set.0 ∙ ap (λ w. Count t w m) set.1 ∙ ap (λ w. Count t s w) one.1
  count_is (Failed u v) n is = absurd (cc)
  count_is (Seen u v p r) n is = absurd (cc)
  count_is (Diag u v p d) n is = absurd (cc)

  pub count_is_found : (n : ℤ) → fact_count t s (Count t s n) ≡ Some n
  count_is_found n = ap (λ (b : Bool). if b then Some n else None) (is_set_itself t s)

  module _ (p : ℤ) where
    pub record_is : (f : Fact) (r : Record) → fact_record t s p f ≡ Some r → f ≡ Seen t s p r
    record_is (Count u v m) r is = absurd (cc)
    record_is (Failed u v) r is = absurd (cc)
    record_is (Seen u v q x) r is =
        let one = some_if (is_set t s u v && int_eq q p) x r is in
        let both = both_true (is_set t s u v) (int_eq q p) one.0 in
        let set = set_is u v both.0 in
        ap (λ w. Seen w v q x) set.0 ∙ ap (λ w. Seen t w q x) set.1 ∙ ap (λ w. Seen t s w x) ((Decides-int_eq q p).0 both.1) ∙ ap (λ w. Seen t s p w) one.1
    record_is (Diag u v q d) r is = absurd (cc)

    pub record_is_found : (r : Record) → fact_record t s p (Seen t s p r) ≡ Some r
    record_is_found r = ap (λ (b : Bool). if b && int_eq p p then Some r else None) (is_set_itself t s) ∙ ap (λ (b : Bool). if b then Some r else None) ((Decides-int_eq p p).1 refl)

-- ---- the laws

module _ (t s : ℕ) (facts : List Fact) where
  pub counts_are : (n : ℤ) → Contains (counts_at t s facts) n ↔ Contains facts (Count t s n)
  counts_are n = (
    λ h. let f = teller (fact_count t s) facts n h in subst (Contains facts) (count_is t s f.0 n f.2) f.1,
    λ h. image_found (fact_count t s) facts (Count t s n) n h (count_is_found t s n),
  )

  counts_keep : (f g : Fact) (m n : ℤ) → fact_count t s f ≡ Some m → fact_count t s g ≡ Some n → fact_cmp f g ≡ Less → int_cmp m n ≡ Less
  counts_keep f g m n is_m is_n less =
      counts_differ t s m n (subst (λ x. fact_cmp x (Count t s n) ≡ Less) (count_is t s f m is_m) (subst (λ x. fact_cmp f x ≡ Less) (count_is t s g n is_n) less))

  pub counts_in_order : AreFacts facts → AreCounts (counts_at t s facts)
  counts_in_order good = record {
    ordered = image_sorted (fact_count t s) fact_cmp int_cmp counts_keep facts good.ordered;
    each = all_from int_cmp _ (counts_at t s facts) (λ n h. tt);
  }

  module _ (p : ℤ) where
    pub records_are : (r : Record) → Contains (records_at t s p facts) r ↔ Contains facts (Seen t s p r)
    records_are r = (
      λ h. let f = teller (fact_record t s p) facts r h in subst (Contains facts) (record_is t s p f.0 r f.2) f.1,
      λ h. image_found (fact_record t s p) facts (Seen t s p r) r h (record_is_found t s p r),
    )

    records_keep : (f g : Fact) (x y : Record) → fact_record t s p f ≡ Some x → fact_record t s p g ≡ Some y → fact_cmp f g ≡ Less → encoding_cmp whole_record x y ≡ Less
    unfolding fact_cmp
    records_keep f g x y is_x is_y less =
        let here : fact_cmp (Seen t s p x) (Seen t s p y) ≡ Less = subst (λ z. fact_cmp z (Seen t s p y) ≡ Less) (record_is t s p f x is_x) (subst (λ z. fact_cmp f z ≡ Less) (record_is t s p g y is_y) less) in
        sym (same_place t s p (encoding_cmp whole_record x y)) ∙ here

    pub records_in_order : AreFacts facts → AreRecords (records_at t s p facts)
    records_in_order good = record {
      ordered = image_sorted (fact_record t s p) fact_cmp (encoding_cmp whole_record) records_keep facts good.ordered;
      each = all_from (encoding_cmp whole_record) (IsSpellable whole_record) (records_at t s p facts) (λ r h. (each_in IsFact facts good.each (Seen t s p r) ((records_are r).0 h)).1);
    }

-- ---- two values

module _ {T : Type 0} (order : T → T → Ordering) (total : IsTotalOrder order) where
  pub two_differ : (xs : List T) → IsStrictlySortedBy order xs → 2 ≤ length xs → (x y : T) × (x ≢ y) × Contains xs x × Contains xs y
  two_differ [] sorted two = absurd (omega (arith, two))
  two_differ (x ∷ []) sorted two = absurd (omega (arith, two))
  two_differ (x ∷ y ∷ zs) sorted two =
      let less = (sorted_head order x (y ∷ zs) sorted).0 in
      (x, y, λ same. less_itself order total y (subst (λ z. order z y ≡ Less) same less), in_head x (y ∷ zs), in_tail x (y ∷ zs) y (in_head y zs))

pub differ_two : {T : Type 0} (xs : List T) (x y : T) → x ≢ y → Contains xs x → Contains xs y → 2 ≤ length xs
differ_two [] x y differ hx hy = absurd (none_in_nil x hx)
differ_two (z ∷ []) x y differ hx hy =
    absurd (differ (⊎_elim sym (λ never. absurd (none_in_nil x never)) (in_cons z [] x hx) ∙ ⊎_elim (λ same. same) (λ never. absurd (none_in_nil y never)) (in_cons z [] y hy)))
differ_two (z ∷ w ∷ ws) x y differ hx hy = omega arith

module _ (t s : ℕ) (facts : List Fact) where
  pub two_counts : AreFacts facts → (2 ≤ length (counts_at t s facts)) ↔ HasTwoCounts t s facts
  two_counts good = (
    λ two. let both = two_differ int_cmp int_cmp_total (counts_at t s facts) (counts_in_order t s facts good).ordered two in
        record {
          one = both.0;
          other = both.1;
          differ = both.2;
          counted_one = (counts_are t s facts both.0).0 both.3;
          counted_other = (counts_are t s facts both.1).0 both.4;
        },
    λ h. differ_two (counts_at t s facts) h.one h.other h.differ ((counts_are t s facts h.one).1 h.counted_one) ((counts_are t s facts h.other).1 h.counted_other),
  )

module _ (t s : ℕ) (p : ℤ) (facts : List Fact) where
  pub conflict_is : AreFacts facts → (2 ≤ length (records_at t s p facts)) ↔ IsConflict t s p facts
  conflict_is good = (
    λ two. let both = two_differ (encoding_cmp whole_record) (encoding_total whole_record) (records_at t s p facts) (records_in_order t s facts p good).ordered two in
        record {
          one = both.0;
          other = both.1;
          differ = both.2;
          sees_one = (records_are t s facts p both.0).0 both.3;
          sees_other = (records_are t s facts p both.1).0 both.4;
        },
    λ h. differ_two (records_at t s p facts) h.one h.other h.differ ((records_are t s facts p h.one).1 h.sees_one) ((records_are t s facts p h.other).1 h.sees_other),
  )
