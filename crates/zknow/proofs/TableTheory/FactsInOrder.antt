-- The facts of lawful tables are in fact order, and are those that they know.
use Rattle.std.proofs.Common.{◌≡◌, ℕ, ℤ, [], ◌∷◌, ◌++◌, map, Bool, true, false, ◌↔◌, refl, sym, ap, subst, ◌∙◌, ⊎_elim}
use Rattle.std.specs.Prelude.{Contains, IsTrue, if◌then◌else◌}
use mathlib.Core.Bool.{false≢true}
use Rattle.std.specs.declared.cmp.Ordering.{Ordering}
use Rattle.std.specs.declared.cmp.Ordering.TheVariants.{Less, Equal, Greater}
use Rattle.std.specs.Ordering.{nat_cmp, int_cmp, ordering_then}
use Rattle.std.specs.Cmp.Lexicographic.{slice_cmp}
use Rattle.std.specs.List.Sorted.{IsStrictlySortedBy}
use Rattle.std.proofs.lemmas.Cmp.{tied_itself, nat_cmp_total, int_cmp_total}
use Rattle.std.proofs.lemmas.List.Elements.{Contains-append_cases, Contains-append_left, Contains-append_right}
use Rattle.zapdu.specs.declared.productions.record.Record.{Record}
use Rattle.zapdu.specs.declared.productions.diagnostic.DiagRec.{DiagRec}
use Rattle.zapdu.specs.Productions.Records.{whole_record}
use Rattle.zapdu.specs.Productions.Diagnostics.{diag_rec}
use Rattle.zknow.specs.declared.tables.Tables.{Tables}
use Rattle.zknow.specs.declared.tables.keys.SetKey.{SetKey}
use Rattle.zknow.specs.declared.tables.keys.Mark.{Mark}
use Rattle.zknow.specs.declared.fact.Fact.{Fact}
use Rattle.zknow.specs.declared.fact.Fact.TheVariants.{Count, Failed, Seen, Diag}
use Rattle.zknow.specs.Encodings.{encoding_cmp}
use Rattle.zasn.specs.Place.{IsSpellable}
use Rattle.zknow.specs.Facts.{fact_cmp}
use Rattle.zknow.specs.Tables.Sections.{table_facts, counts_of, failed_of, seen_of, diags_of, marked, number_pairs}
use Rattle.zknow.specs.Tables.Table.{HasItem, IsLawfulTable}
use Rattle.zknow.specs.Tables.Tables.{HasFact, AreLawfulTables, key, IsAnyValue, AreCounts, AreRecords, AreDiags}
use Rattle.zknow.specs.Tables.DistinctLaws.{in_head, none_in_nil}
use Rattle.zknow.specs.Tables.Keys.{set_cmp, set_total, set_exact, IsMarked, IsAnyMark}
use Rattle.zknow.proofs.TableTheory.InSections.{from_section, to_section, section_sorted, sorted_append, map_sorted, self_members, numbered_members, numbered_sorted}

-- parts of an order that decide
then_less : (a b r : Ordering) → ordering_then a b ≡ Less → ordering_then a (ordering_then b r) ≡ Less
then_less Less b r h = refl
then_less Equal Less r h = refl
then_less Equal Equal r h = (cc)
then_less Equal Greater r h = (cc)
then_less Greater b r h = (cc)

-- equal parts that do not decide
then_equal : (a r : Ordering) → a ≡ Equal → ordering_then a r ≡ r
then_equal a r h = ap (λ o. ordering_then o r) h

module _ (t s : ℕ) (r : Ordering) where
  same_set : ordering_then (nat_cmp t t) (ordering_then (nat_cmp s s) r) ≡ r
  same_set = then_equal (nat_cmp t t) _ (tied_itself nat_cmp_total t) ∙ then_equal (nat_cmp s s) r (tied_itself nat_cmp_total s)

pub same_place : (t s : ℕ) (p : ℤ) (r : Ordering) → ordering_then (nat_cmp t t) (ordering_then (nat_cmp s s) (ordering_then (int_cmp p p) r)) ≡ r
same_place t s p r = same_set t s _ ∙ then_equal (int_cmp p p) r (tied_itself int_cmp_total p)

first_less : (a r : Ordering) → a ≡ Less → ordering_then a r ≡ Less
first_less a r h = ap (λ o. ordering_then o r) h

-- what ties behind an order says nothing
then_none : (a : Ordering) → ordering_then a (slice_cmp nat_cmp [] []) ≡ a
then_none Less = refl
then_none Equal = refl
then_none Greater = refl

module _ (k q : SetKey) (less : set_cmp k q ≡ Less) where
  count_by_set : (i j : ℤ) → fact_cmp (Count k.target k.set i) (Count q.target q.set j) ≡ Less
  unfolding fact_cmp
  count_by_set i j = then_less (nat_cmp k.target q.target) (nat_cmp k.set q.set) _ less

  failed_by_set : fact_cmp (Failed k.target k.set) (Failed q.target q.set) ≡ Less
  unfolding fact_cmp
  failed_by_set = then_less (nat_cmp k.target q.target) (nat_cmp k.set q.set) _ less

  seen_by_set : (x y : ℤ × Record) → fact_cmp (Seen k.target k.set x.0 x.1) (Seen q.target q.set y.0 y.1) ≡ Less
  unfolding fact_cmp
  seen_by_set x y = then_less (nat_cmp k.target q.target) (nat_cmp k.set q.set) _ less

  diag_by_set : (x y : ℤ × DiagRec) → fact_cmp (Diag k.target k.set x.0 x.1) (Diag q.target q.set y.0 y.1) ≡ Less
  unfolding fact_cmp
  diag_by_set x y = then_less (nat_cmp k.target q.target) (nat_cmp k.set q.set) _ less

module _ (t s : ℕ) where
  count_keeps : (i j : ℤ) → int_cmp i j ≡ Less → fact_cmp (Count t s i) (Count t s j) ≡ Less
  unfolding fact_cmp
  count_keeps i j h = same_set t s _ ∙ first_less (int_cmp i j) (slice_cmp nat_cmp [] []) h

  -- counts of one set are in the order of their facts
  pub counts_differ : (i j : ℤ) → fact_cmp (Count t s i) (Count t s j) ≡ Less → int_cmp i j ≡ Less
  unfolding fact_cmp
  counts_differ i j less = sym (then_none (int_cmp i j)) ∙ sym (same_set t s _) ∙ less

  seen_by_number : (p q : ℤ) (x y : Record) → int_cmp p q ≡ Less → fact_cmp (Seen t s p x) (Seen t s q y) ≡ Less
  unfolding fact_cmp
  seen_by_number p q x y h = same_set t s _ ∙ first_less (int_cmp p q) _ h

  seen_keeps : (p : ℤ) (x y : Record) → encoding_cmp whole_record x y ≡ Less → fact_cmp (Seen t s p x) (Seen t s p y) ≡ Less
  unfolding fact_cmp
  seen_keeps p x y h = same_place t s p _ ∙ h

  diag_by_number : (p q : ℤ) (x y : DiagRec) → int_cmp p q ≡ Less → fact_cmp (Diag t s p x) (Diag t s q y) ≡ Less
  unfolding fact_cmp
  diag_by_number p q x y h = same_set t s _ ∙ first_less (int_cmp p q) _ h

  diag_keeps : (p : ℤ) (x y : DiagRec) → encoding_cmp diag_rec x y ≡ Less → fact_cmp (Diag t s p x) (Diag t s p y) ≡ Less
  unfolding fact_cmp
  diag_keeps p x y h = same_place t s p _ ∙ h

mark_by : (b : Bool) (u : Unit {0}) → Contains (if b then tt ∷ [] else []) u ↔ IsTrue b
mark_by true u = (λ h. refl, λ h. in_head tt [])
mark_by false u = (λ h. absurd (none_in_nil u h), λ h. absurd (false≢true h))

pub mark_members : (m : Mark) → IsAnyMark m → (u : Unit {0}) → Contains (marked m) u ↔ IsMarked m u
mark_members m any u = mark_by m.is_set u

one_sorted_by : (b : Bool) (g : Unit {0} → Fact) → IsStrictlySortedBy fact_cmp (map g (if b then tt ∷ [] else []))
unfolding IsStrictlySortedBy
one_sorted_by true g = (tt, tt)
one_sorted_by false g = tt

module _ (k : Tables) (good : AreLawfulTables k) where
  in_counts : (f : Fact) → Contains (counts_of k) f → (x : SetKey × ℤ) × HasFact k (Count x.0.target x.0.set x.1) × (f ≡ Count x.0.target x.0.set x.1)
  in_counts f h = from_section set_cmp set_total set_exact Contains AreCounts (λ xs. xs) (λ e n. Count e.target e.set n) (self_members int_cmp IsAnyValue) k.counts good.counts f h

  in_failed : (f : Fact) → Contains (failed_of k) f → (x : SetKey × Unit {0}) × HasFact k (Failed x.0.target x.0.set) × (f ≡ Failed x.0.target x.0.set)
  in_failed f h = from_section set_cmp set_total set_exact IsMarked IsAnyMark marked (λ e u. Failed e.target e.set) mark_members k.failed good.failed f h

  in_seen : (f : Fact) → Contains (seen_of k) f → (x : SetKey × (ℤ × Record)) × HasFact k (Seen x.0.target x.0.set x.1.0 x.1.1) × (f ≡ Seen x.0.target x.0.set x.1.0 x.1.1)
  in_seen f h = from_section set_cmp set_total set_exact (HasItem int_cmp Contains) (IsLawfulTable int_cmp Contains AreRecords) number_pairs (λ e x. Seen e.target e.set x.0 x.1) (numbered_members (encoding_cmp whole_record) (IsSpellable whole_record)) k.seen good.seen f h

  in_diags : (f : Fact) → Contains (diags_of k) f → (x : SetKey × (ℤ × DiagRec)) × HasFact k (Diag x.0.target x.0.set x.1.0 x.1.1) × (f ≡ Diag x.0.target x.0.set x.1.0 x.1.1)
  in_diags f h = from_section set_cmp set_total set_exact (HasItem int_cmp Contains) (IsLawfulTable int_cmp Contains AreDiags) number_pairs (λ e x. Diag e.target e.set x.0 x.1) (numbered_members (encoding_cmp diag_rec) IsAnyValue) k.diags good.diags f h

  known : (f : Fact) → Contains (table_facts k) f → HasFact k f
  known f h = ⊎_elim
      (λ c. let x = in_counts f c in subst (HasFact k) (sym x.2) x.1)
      (λ r. ⊎_elim
      (λ c. let x = in_failed f c in subst (HasFact k) (sym x.2) x.1)
      (λ r. ⊎_elim
      (λ c. let x = in_seen f c in subst (HasFact k) (sym x.2) x.1)
      (λ c. let x = in_diags f c in subst (HasFact k) (sym x.2) x.1)
      (Contains-append_cases (seen_of k) (diags_of k) f r))
      (Contains-append_cases (failed_of k) (seen_of k ++ diags_of k) f r))
      (Contains-append_cases (counts_of k) (failed_of k ++ (seen_of k ++ diags_of k)) f h)

  listed : (f : Fact) → HasFact k f → Contains (table_facts k) f
  listed (Count t s n) h = Contains-append_left (counts_of k) _ _ (to_section set_cmp set_total set_exact Contains AreCounts (λ xs. xs) (λ e n. Count e.target e.set n) (self_members int_cmp IsAnyValue) k.counts good.counts (key t s, n) h)
  listed (Failed t s) h = Contains-append_right (counts_of k) _ _ (Contains-append_left (failed_of k) _ _ (to_section set_cmp set_total set_exact IsMarked IsAnyMark marked (λ e u. Failed e.target e.set) mark_members k.failed good.failed (key t s, tt) h))
  listed (Seen t s p r) h = Contains-append_right (counts_of k) _ _ (Contains-append_right (failed_of k) _ _ (Contains-append_left (seen_of k) _ _
      (to_section set_cmp set_total set_exact (HasItem int_cmp Contains) (IsLawfulTable int_cmp Contains AreRecords) number_pairs (λ e x. Seen e.target e.set x.0 x.1) (numbered_members (encoding_cmp whole_record) (IsSpellable whole_record)) k.seen good.seen (key t s, (p, r)) h)))
  listed (Diag t s p d) h = Contains-append_right (counts_of k) _ _ (Contains-append_right (failed_of k) _ _ (Contains-append_right (seen_of k) _ _
      (to_section set_cmp set_total set_exact (HasItem int_cmp Contains) (IsLawfulTable int_cmp Contains AreDiags) number_pairs (λ e x. Diag e.target e.set x.0 x.1) (numbered_members (encoding_cmp diag_rec) IsAnyValue) k.diags good.diags (key t s, (p, d)) h)))

  pub facts_members : (f : Fact) → Contains (table_facts k) f ↔ HasFact k f
  facts_members f = (known f, listed f)

  counts_sorted : IsStrictlySortedBy fact_cmp (counts_of k)
  counts_sorted = section_sorted set_cmp set_total set_exact Contains AreCounts (λ xs. xs) (λ e n. Count e.target e.set n) (self_members int_cmp IsAnyValue) fact_cmp (λ e q i j less. count_by_set e q less i j)
      (λ e cs d. map_sorted int_cmp fact_cmp (λ n. Count e.target e.set n) (count_keeps e.target e.set) cs d.ordered) k.counts good.counts

  failed_sorted : IsStrictlySortedBy fact_cmp (failed_of k)
  failed_sorted = section_sorted set_cmp set_total set_exact IsMarked IsAnyMark marked (λ e u. Failed e.target e.set) mark_members fact_cmp (λ e q i j less. failed_by_set e q less)
      (λ e m d. one_sorted_by m.is_set (λ u. Failed e.target e.set)) k.failed good.failed

  seen_sorted : IsStrictlySortedBy fact_cmp (seen_of k)
  seen_sorted = section_sorted set_cmp set_total set_exact (HasItem int_cmp Contains) (IsLawfulTable int_cmp Contains AreRecords) number_pairs (λ e x. Seen e.target e.set x.0 x.1) (numbered_members (encoding_cmp whole_record) (IsSpellable whole_record)) fact_cmp
      (λ e q i j less. seen_by_set e q less i j)
      (λ e rows d. numbered_sorted (encoding_cmp whole_record) (IsSpellable whole_record) fact_cmp (λ x. Seen e.target e.set x.0 x.1) (seen_by_number e.target e.set) (seen_keeps e.target e.set) rows d) k.seen good.seen

  diags_sorted : IsStrictlySortedBy fact_cmp (diags_of k)
  diags_sorted = section_sorted set_cmp set_total set_exact (HasItem int_cmp Contains) (IsLawfulTable int_cmp Contains AreDiags) number_pairs (λ e x. Diag e.target e.set x.0 x.1) (numbered_members (encoding_cmp diag_rec) IsAnyValue) fact_cmp
      (λ e q i j less. diag_by_set e q less i j)
      (λ e rows d. numbered_sorted (encoding_cmp diag_rec) IsAnyValue fact_cmp (λ x. Diag e.target e.set x.0 x.1) (diag_by_number e.target e.set) (diag_keeps e.target e.set) rows d) k.diags good.diags

  seen_diags : (x y : Fact) → Contains (seen_of k) x → Contains (diags_of k) y → fact_cmp x y ≡ Less
  unfolding fact_cmp
  seen_diags x y hx hy = rw ((in_seen x hx).2, (in_diags y hy).2) refl

  failed_rest : (x y : Fact) → Contains (failed_of k) x → Contains (seen_of k ++ diags_of k) y → fact_cmp x y ≡ Less
  unfolding fact_cmp
  failed_rest x y hx hy = ⊎_elim (λ h. rw ((in_failed x hx).2, (in_seen y h).2) refl) (λ h. rw ((in_failed x hx).2, (in_diags y h).2) refl) (Contains-append_cases (seen_of k) (diags_of k) y hy)

  counts_rest : (x y : Fact) → Contains (counts_of k) x → Contains (failed_of k ++ (seen_of k ++ diags_of k)) y → fact_cmp x y ≡ Less
  unfolding fact_cmp
  counts_rest x y hx hy = ⊎_elim (λ h. rw ((in_counts x hx).2, (in_failed y h).2) refl)
      (λ r. ⊎_elim (λ h. rw ((in_counts x hx).2, (in_seen y h).2) refl) (λ h. rw ((in_counts x hx).2, (in_diags y h).2) refl) (Contains-append_cases (seen_of k) (diags_of k) y r))
      (Contains-append_cases (failed_of k) (seen_of k ++ diags_of k) y hy)

  pub facts_sorted : IsStrictlySortedBy fact_cmp (table_facts k)
  facts_sorted = sorted_append fact_cmp _ _ counts_sorted (sorted_append fact_cmp _ _ failed_sorted (sorted_append fact_cmp _ _ seen_sorted diags_sorted seen_diags) failed_rest) counts_rest
