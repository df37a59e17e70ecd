-- At how many positions of a set a record is shown, row by row.
use Rattle.std.proofs.Common.{◌≡◌, ◌≢◌, ◌↔◌, ◌+◌, ◌<◌, ◌≤◌, ℕ, ℤ, Bool, true, false, List, [], ◌∷◌, length, take, get_or, Option, Some, None, cond, refl, sym, ap, subst, ◌∙◌, arith}
use Rattle.std.specs.Prelude.{Contains, ◌&&◌, ◌==◌, unwrap_or}
use Rattle.std.specs.declared.cmp.Ordering.{Ordering}
use Rattle.std.specs.declared.cmp.Ordering.TheVariants.{Less, Equal, Greater}
use Rattle.std.specs.BTreeMap.{is_at}
use Rattle.std.specs.List.{filter_map, count_by, cons_option}
use Rattle.std.specs.Map.{lookup}
use Rattle.std.specs.Ordering.{int_cmp, nat_cmp, ordering_then, is_eq}
use Rattle.std.proofs.lemmas.Bool.Decides.{Decides-eqb}
use Rattle.std.proofs.lemmas.Cmp.{int_cmp_total, nat_cmp_total, tied_itself}
use Rattle.std.proofs.lemmas.List.{take_all}
use Rattle.std.proofs.lemmas.List.Sums.{sum_by-cons, sum_by_more}
use Rattle.std.proofs.lemmas.Map.Lookups.{exact_signed}
use Rattle.zber.proofs.Tests.{both_true}
use Rattle.zknow.specs.declared.fact.Fact.{Fact}
use Rattle.zknow.specs.declared.fact.Fact.TheVariants.{Count, Failed, Seen, Diag}
use Rattle.zknow.specs.declared.tables.keys.RowKey.{RowKey}
use Rattle.zknow.specs.declared.tables.keys.SetKey.{SetKey}
use Rattle.zknow.specs.Known.{is_set}
use Rattle.zknow.specs.List.Listing.{fact_position, positions_at, row_key_of}
use Rattle.zknow.specs.Tables.Keys.{row_cmp, row_total, row_exact, set_cmp, set_exact}
use Rattle.zknow.proofs.ListTheory.Ascending.{ascending_sorted, ascending_members, is_ascending}
use Rattle.zknow.proofs.ListTheory.KnownAt.{is_set_itself}
use Rattle.zknow.proofs.ListTheory.Places.{image_found, image_sorted, teller}
use Rattle.zknow_titles.specs.Blocks.{filled_at, filled_in, is_shown_at}
use Rattle.zknow_titles.specs.Titles.{rows_of}

-- ---- a table

-- whether a row is of the set
abbrev pub is_of : SetKey → SetKey → Bool
is_of b k = is_set b.target b.set k.target k.set

of_itself : (b : SetKey) → is_of b b ≡ true
of_itself b = is_set_itself b.target b.set

of_same : (b k : SetKey) → is_of b k ≡ true → k ≡ b
of_same b k is =
    let both = both_true (k.target == b.target) (k.set == b.set) is in
    ap (λ (t : ℕ). record { target = t; set = k.set }) ((Decides-eqb k.target b.target).0 both.0)
    ∙ ap (λ (s : ℕ). record { target = b.target; set = s }) ((Decides-eqb k.set b.set).0 both.1)

apart : (a b : SetKey) (o : Ordering) → set_cmp a b ≡ o → b ≢ a → is_eq o ≡ false
apart a b Less is differ = refl
apart a b Equal is differ = absurd (differ (sym (set_exact a b is)))
apart a b Greater is differ = refl

-- the entry of another set
pub other_entry : (old new : List (SetKey × ℕ)) (key : SetKey) (n : ℕ)
    → ((q : SetKey) → lookup (is_at (set_cmp q)) new
    ≡ cond (is_at (set_cmp key) q) (Some n) (lookup (is_at (set_cmp q)) old))
    → (b : SetKey) → b ≢ key → filled_at new b ≡ filled_at old b
other_entry old new key n put b differ =
    ap (λ o. unwrap_or o 0)
    (put b ∙ ap (λ c. cond c (Some n) (lookup (is_at (set_cmp b)) old)) (apart key b (set_cmp key b) refl differ))

one_more_by : (old new : List (SetKey × ℕ)) (key : SetKey) → filled_at new key ≡ filled_at old key + 1
    → ((b : SetKey) → b ≢ key → filled_at new b ≡ filled_at old b)
    → (b : SetKey) (c : Bool) → is_of b key ≡ c → filled_at new b ≡ filled_at old b + cond c 1 0
one_more_by old new key own others b true is =
    subst (λ k. filled_at new k ≡ filled_at old k + 1) (of_same b key is) own
one_more_by old new key own others b false is =
    let differ : b ≢ key = λ same. absurd (let itself = of_itself b in
    let no : is_of b b ≡ false = subst (λ k. is_of b k ≡ false) (sym same) is in cc) in
    others b differ ∙ omega arith

-- one more in the entry of a set
pub one_more : (old new : List (SetKey × ℕ)) (key : SetKey) → filled_at new key ≡ filled_at old key + 1
    → ((b : SetKey) → b ≢ key → filled_at new b ≡ filled_at old b)
    → (b : SetKey) → filled_at new b ≡ filled_at old b + cond (is_of b key) 1 0
one_more old new key own others b = one_more_by old new key own others b (is_of b key) refl

-- ---- the rows of a set

-- the set of a row
abbrev pub set_of : RowKey → SetKey
set_of k = record { target = k.target; set = k.set }

-- the position of a row, if it is of the set
abbrev position_in : SetKey → RowKey → Option ℤ
position_in b k = cond (is_of b (set_of k)) (Some k.position) None

-- whether a row is of the set and has a record that is shown
abbrev pub is_filled : List Fact → SetKey → RowKey → Bool
is_filled facts b k = is_of b (set_of k) && is_shown_at facts k.target k.set k.position

some_if : {Y : Type 0} (b : Bool) (y z : Y) → cond b (Some y) None ≡ Some z → (b ≡ true) × (y ≡ z)
some_if true y z is = (refl, cc)
some_if false y z is = absurd cc

none_if : {Y : Type 0} (b : Bool) (y : Y) → cond b (Some y) None ≡ None → b ≡ false
none_if true y is = absurd cc
none_if false y is = refl

module _ (b : SetKey) where
  -- the row of the set at a position
  abbrev row_at : ℤ → RowKey
  row_at p = record { position = p; target = b.target; set = b.set }

  row_is : (k : RowKey) (p : ℤ) → position_in b k ≡ Some p → k ≡ row_at p
  row_is k p is =
      let one = some_if (is_of b (set_of k)) k.position p is in
      let same = of_same b (set_of k) one.0 in
      ap (λ (q : ℤ). record { position = q; target = k.target; set = k.set }) one.1
      ∙ ap (λ (s : SetKey). record { position = p; target = s.target; set = s.set }) same

  then_less : (y z : ℤ) (t s : Ordering) → t ≡ Equal → s ≡ Equal
      → ordering_then (int_cmp y z) (ordering_then t s) ≡ Less → int_cmp y z ≡ Less
  then_less y z t s first second less = by_case (int_cmp y z) t s first second less where
    by_case : (o t s : Ordering) → t ≡ Equal → s ≡ Equal → ordering_then o (ordering_then t s) ≡ Less → o ≡ Less
    by_case Less t s first second less = refl
    by_case Equal t s first second less =
        absurd (let no : ordering_then t s ≡ Equal = ap (λ o. ordering_then o s) first ∙ second in cc)
    by_case Greater t s first second less = absurd cc

  keeps : (k l : RowKey) (y z : ℤ) → position_in b k ≡ Some y → position_in b l ≡ Some z → row_cmp k l ≡ Less
      → int_cmp y z ≡ Less
  keeps k l y z of_k of_l less =
      let here : row_cmp (row_at y) (row_at z) ≡ Less =
      subst (λ m. row_cmp m (row_at z) ≡ Less) (row_is k y of_k)
      (subst (λ m. row_cmp k m ≡ Less) (row_is l z of_l) less) in
      then_less y z (nat_cmp b.target b.target) (nat_cmp b.set b.set) (tied_itself nat_cmp_total b.target)
      (tied_itself nat_cmp_total b.set) here

  -- a fact that is in a row tells the row's position
  told_by_row : (f : Fact) (k : RowKey) → row_key_of f ≡ Some k
      → fact_position b.target b.set f ≡ position_in b k
  told_by_row (Count u v n) k is = absurd cc
  told_by_row (Failed u v) k is = absurd cc
  told_by_row (Seen u v p r) k is =
      let same : record { position = p; target = u; set = v } ≡ k = cc in ap (position_in b) same
  told_by_row (Diag u v p d) k is = absurd cc

  -- a fact that tells a position is in a row
  row_of_told : (f : Fact) (p : ℤ) → fact_position b.target b.set f ≡ Some p
      → (k : RowKey) × (row_key_of f ≡ Some k) × (position_in b k ≡ Some p)
  row_of_told (Count u v n) p is = absurd cc
  row_of_told (Failed u v) p is = absurd cc
  row_of_told (Seen u v q r) p is = (record { position = q; target = u; set = v }, refl, is)
  row_of_told (Diag u v q d) p is = absurd cc

  module _ (facts : List Fact) where
    row_known : (k : RowKey) → Contains (rows_of facts) k ↔ Contains (filter_map row_key_of facts) k
    row_known k = ascending_members row_cmp row_total row_exact (filter_map row_key_of facts) k

    same_positions : (p : ℤ)
        → Contains (filter_map (position_in b) (rows_of facts)) p
        ↔ Contains (filter_map (fact_position b.target b.set) facts) p
    same_positions p = (
      λ h. let k = teller (position_in b) (rows_of facts) p h in
          let f = teller row_key_of facts k.0 ((row_known k.0).0 k.1) in
          image_found (fact_position b.target b.set) facts f.0 p f.1 (told_by_row f.0 k.0 f.2 ∙ k.2),
      λ h. let f = teller (fact_position b.target b.set) facts p h in
          let k = row_of_told f.0 p f.2 in
          image_found (position_in b) (rows_of facts) k.0 p
          ((row_known k.0).1 (image_found row_key_of facts f.0 k.0 f.1 k.1)) k.2,
    )

    -- the positions of the set are those of its rows
    row_positions : filter_map (position_in b) (rows_of facts) ≡ positions_at b.target b.set facts
    row_positions =
        is_ascending int_cmp int_cmp_total exact_signed (filter_map (position_in b) (rows_of facts))
        (filter_map (fact_position b.target b.set) facts)
        (image_sorted (position_in b) row_cmp int_cmp keeps (rows_of facts)
        (ascending_sorted row_cmp row_total row_exact (filter_map row_key_of facts)))
        same_positions

    filled_is : (k : RowKey) (p : ℤ) → position_in b k ≡ Some p
        → is_filled facts b k ≡ is_shown_at facts b.target b.set p
    filled_is k p is =
        ap (is_filled facts b) (row_is k p is)
        ∙ ap (λ c. c && is_shown_at facts b.target b.set p) (of_itself b)

    filled_not : (k : RowKey) → position_in b k ≡ None → is_filled facts b k ≡ false
    filled_not k is =
        ap (λ c. c && is_shown_at facts k.target k.set k.position) (none_if (is_of b (set_of k)) k.position is)

    count_told_by : (k : RowKey) (ks : List RowKey) (o : Option ℤ) → position_in b k ≡ o
        → cond (is_filled facts b k) 1 0 + count_by (is_shown_at facts b.target b.set) (filter_map (position_in b) ks)
        ≡ count_by (is_shown_at facts b.target b.set) (cons_option o (filter_map (position_in b) ks))
    count_told_by k ks None is =
        ap (λ c. cond c 1 0 + count_by (is_shown_at facts b.target b.set) (filter_map (position_in b) ks))
        (filled_not k is)
        ∙ omega arith
    count_told_by k ks (Some p) is =
        ap (λ c. cond c 1 0 + count_by (is_shown_at facts b.target b.set) (filter_map (position_in b) ks))
        (filled_is k p is)
        ∙ sym (sum_by-cons (λ q. cond (is_shown_at facts b.target b.set q) 1 0) p (filter_map (position_in b) ks))

    count_told : (ks : List RowKey)
        → count_by (is_filled facts b) ks
        ≡ count_by (is_shown_at facts b.target b.set) (filter_map (position_in b) ks)
    count_told [] = refl
    count_told (k ∷ ks) =
        sum_by-cons (λ l. cond (is_filled facts b l) 1 0) k ks
        ∙ ap (λ (n : ℕ). cond (is_filled facts b k) 1 0 + n) (count_told ks)
        ∙ count_told_by k ks (position_in b k) refl

    -- at as many positions as the set has rows with a record that is shown
    pub filled_rows : count_by (is_filled facts b) (rows_of facts) ≡ filled_in facts b
    filled_rows =
        count_told (rows_of facts)
        ∙ ap (count_by (is_shown_at facts b.target b.set)) row_positions

-- ---- row by row

and_shown : (c d : Bool) → d ≡ true → (c && d) ≡ c
and_shown true d is = is
and_shown false d is = refl

and_hidden : (c d : Bool) → d ≡ false → (c && d) ≡ false
and_hidden true d is = is
and_hidden false d is = refl

module _ (facts : List Fact) (b : SetKey) (k : RowKey) where
  -- a row with a record that is shown
  pub shown_row : (old new : List (SetKey × ℕ)) → is_shown_at facts k.target k.set k.position ≡ true
      → filled_at new (set_of k) ≡ filled_at old (set_of k) + 1
      → ((q : SetKey) → q ≢ set_of k → filled_at new q ≡ filled_at old q)
      → filled_at new b ≡ filled_at old b + cond (is_filled facts b k) 1 0
  shown_row old new is own others =
      one_more old new (set_of k) own others b
      ∙ ap (λ (c : Bool). filled_at old b + cond c 1 0)
      (sym (and_shown (is_of b (set_of k)) (is_shown_at facts k.target k.set k.position) is))

  -- and one without
  pub hidden_row : (n : ℕ) → is_shown_at facts k.target k.set k.position ≡ false
      → n ≡ n + cond (is_filled facts b k) 1 0
  hidden_row n is =
      omega arith
      ∙ ap (λ (c : Bool). n + cond c 1 0)
      (sym (and_hidden (is_of b (set_of k)) (is_shown_at facts k.target k.set k.position) is))

-- one row more was counted
pub row_counted : (facts : List Fact) (b : SetKey) (rows : List RowKey) (at : ℕ) (d : RowKey) (first before after : ℕ)
    → at < length rows → before ≡ first + count_by (is_filled facts b) (take at rows)
    → after ≡ before + cond (is_filled facts b (get_or rows at d)) 1 0
    → after ≡ first + count_by (is_filled facts b) (take (at + 1) rows)
row_counted facts b rows at d first before after inside so_far more =
    let one = sum_by_more (λ k. cond (is_filled facts b k) 1 0) rows at d inside in
    let added : ℕ = cond (is_filled facts b (get_or rows at d)) 1 0 in
    let counted : ℕ = count_by (is_filled facts b) (take at rows) in
    let later : ℕ = count_by (is_filled facts b) (take (at + 1) rows) in
    let sum : later ≡ counted + added = one in
    let is : before ≡ first + counted = so_far in
    let now : after ≡ before + added = more in
    omega (arith, sum, is, now)

-- all rows were counted
pub all_counted : (facts : List Fact) (b : SetKey) (rows : List RowKey) (at first after : ℕ) → rows ≡ rows_of facts
    → length rows ≤ at → after ≡ first + count_by (is_filled facts b) (take at rows)
    → after ≡ first + filled_in facts b
all_counted facts b rows at first after known end counted =
    counted
    ∙ ap (λ ks. first + count_by (is_filled facts b) ks) (take_all at rows end ∙ known)
    ∙ ap (λ (n : ℕ). first + n) (filled_rows b facts)
