-- Of the entries found, those that have a word: each looked for among the places of the word.
use Rattle.std.proofs.Common.{◌≡◌, refl, sym, ◌∙◌, ap, subst, ℕ, ℤ, zero, suc, ◌<◌, ◌≤◌, List, [], ◌∷◌, length, drop, filter, get_or, Bool, true, false, not, ◌&&◌, ◌||◌, nat_eq, ltb, Option, Some, None, arith, if◌then◌else◌}
use mathlib.Core.Path.{fun_ext}
use Rattle.std.proofs.lemmas.Bool.{eq-eqb, ne_eqb, ltb-true, ltb-false}
use Rattle.std.proofs.lemmas.Bool.Decides.{Decides-eqb}
use Rattle.std.proofs.lemmas.Cmp.{ranked}
use Rattle.std.specs.declared.cmp.Ordering.{Ordering}
use Rattle.std.specs.declared.cmp.Ordering.TheVariants.{Less, Equal, Greater}
use Rattle.std.specs.List.{AllByRecursion}
use Rattle.std.specs.List.Sorted.{IsStrictlySortedBy, IsPartitionPoint, IsNonDecreasingBy}
use Rattle.std.specs.Ordering.{nat_cmp, ordering_then}
use Rattle.ztarget.specs.declared.database.Entry.{Entry}
use Rattle.ztarget.specs.declared.index.Place.{Place}
use Rattle.ztarget.specs.Asking.{HasPhrase, is_satisfied}
use Rattle.ztarget.specs.Indexing.{is_last, entries_at, is_searched_place}
use Rattle.ztarget.specs.Matching.{is_at_front}
use Rattle.ztarget.specs.Merging.{is_place_among}
use Rattle.ztarget.specs.Narrowing.{IsNarrowed, AreInEntryOrder, has_entry}
use Rattle.ztarget.specs.Phrasing.{phrase_places, place_cmp}
use Rattle.ztarget.specs.Searching.{places_from}
use Rattle.ztarget.proofs.InCommon.{looked_for}
use Rattle.ztarget.proofs.Lookups.{one_found}
use Rattle.ztarget.proofs.Truncations.{sorted_begins}
use Rattle.ztarget.proofs.Walks.{map_all}

-- ---- the places of a word rise

by_entry : (p q : Place) (first rest : Ordering) → nat_cmp p.entry q.entry ≡ first → ordering_then first rest ≡ Less → p.entry ≤ q.entry
by_entry p q Less rest is h = let l : p.entry < q.entry = ranked p.entry q.entry Less (sym is) in omega (arith, l)
by_entry p q Equal rest is h = let l : p.entry ≡ q.entry = ranked p.entry q.entry Equal (sym is) in omega (arith, l)
by_entry p q Greater rest is h = absurd (Prim.cc h)

not_before : (p q : Place) → place_cmp p q ≡ Less → p.entry ≤ q.entry
not_before p q h = by_entry p q (nat_cmp p.entry q.entry) (ordering_then (nat_cmp p.field q.field) (nat_cmp p.word q.word)) refl h

rising : (n : ℕ) (ps : List Place) → IsStrictlySortedBy place_cmp ps → AllByRecursion (λ p. n ≤ p.entry) ps → AreInEntryOrder n ps
unfolding IsStrictlySortedBy
rising n [] sorted low = tt
rising n (p ∷ ps) sorted low = (low.0, rising p.entry ps sorted.1 (map_all (λ q. place_cmp p q ≡ Less) (λ q. p.entry ≤ q.entry) (λ q h. not_before p q h) ps sorted.0))

none_less : (ps : List Place) → AllByRecursion (λ p. 0 ≤ p.entry) ps
none_less [] = tt
none_less (p ∷ ps) = (omega arith, none_less ps)

pub phrases_rise : (truncated : Bool) (asked : List (List ℕ)) (entries : List Entry) → AreInEntryOrder 0 (phrase_places truncated asked entries)
phrases_rise truncated asked entries = rising 0 (phrase_places truncated asked entries) (sorted_begins (is_at_front truncated asked) 0 entries) (none_less (phrase_places truncated asked entries))

least : (n : ℕ) (ps : List Place) → AreInEntryOrder n ps → (j : ℕ) (d : Place) → j < length ps → n ≤ (get_or ps j d).entry
least n [] up j d lt = absurd (omega (arith, lt))
least n (p ∷ ps) up zero d lt = up.0
least n (p ∷ ps) up (suc j) d lt = let later = least p.entry ps up.1 j d (omega (arith, lt)) in omega (arith, up.0, later)

pub not_falling : (n : ℕ) (ps : List Place) → AreInEntryOrder n ps → IsNonDecreasingBy (λ p. p.entry) ps
not_falling n [] up i j d le lt = absurd (omega (arith, lt))
not_falling n (p ∷ ps) up zero zero d le lt = omega arith
not_falling n (p ∷ ps) up zero (suc j) d le lt = let later = least p.entry ps up.1 j d (omega (arith, lt)) in omega (arith, later)
not_falling n (p ∷ ps) up (suc i) zero d le lt = absurd (omega (arith, le))
not_falling n (p ∷ ps) up (suc i) (suc j) d le lt = not_falling p.entry ps up.1 i j d (omega (arith, le)) (omega (arith, lt))

module _ (used : ℤ) (entries : List Entry) where
  -- ---- one entry looked for

  beyond : (n m : ℕ) (ps : List Place) → m < n → AreInEntryOrder n ps → has_entry used entries ps m ≡ false
  beyond n m [] lt up = refl
  beyond n m (p ∷ ps) lt up =
      ap (λ b. (b && is_searched_place used entries p) || has_entry used entries ps m) (ne_eqb p.entry m (λ same. absurd (omega (arith, lt, up.0, same))))
      ∙ beyond p.entry m ps (omega (arith, lt, up.0)) up.1

  pub other_first : (e : ℕ) (d : Place) (ps : List Place) → 1 ≤ length ps → AreInEntryOrder e ps → ((get_or ps 0 d).entry ≡ e → ⊥) → has_entry used entries ps e ≡ false
  other_first e d [] some up other = absurd (omega (arith, some))
  other_first e d (p ∷ ps) some up other =
      ap (λ b. (b && is_searched_place used entries p) || has_entry used entries ps e) (ne_eqb p.entry e (λ same. absurd (other same)))
      ∙ beyond p.entry e ps (omega (arith, up.0, other)) up.1

  dropped : (e n i : ℕ) (ps : List Place) → AreInEntryOrder n ps → ((k : ℕ) (d : Place) → k < i → ltb (get_or ps k d).entry e ≡ true) → ((k : ℕ) (d : Place) → i ≤ k → k < length ps → ltb (get_or ps k d).entry e ≡ false)
      → AreInEntryOrder e (drop i ps) × (has_entry used entries (drop i ps) e ≡ has_entry used entries ps e)
  dropped e n zero [] up below above = (tt, refl)
  dropped e n (suc i) [] up below above = (tt, refl)
  dropped e n zero (p ∷ ps) up below above = let least = ltb-false p.entry e (above 0 p (omega arith) (omega arith)) in ((omega (arith, least), up.1), refl)
  dropped e n (suc i) (p ∷ ps) up below above =
      let less = ltb-true p.entry e (below 0 p (omega arith)) in
      let later = dropped e p.entry i ps up.1 (λ k d lt. below (suc k) d (omega (arith, lt))) (λ k d le lt. above (suc k) d (omega (arith, le)) (omega (arith, lt))) in
      (later.0, later.1 ∙ sym (ap (λ b. (b && is_searched_place used entries p) || has_entry used entries ps e) (ne_eqb p.entry e (λ same. absurd (omega (arith, less, same))))))

  pub first_of_entry : (e i : ℕ) (ps : List Place) → AreInEntryOrder 0 ps → IsPartitionPoint (λ p. ltb p.entry e ≡ true) (λ p. ltb p.entry e ≡ false) ps i
      → AreInEntryOrder e (drop i ps) × (has_entry used entries (drop i ps) e ≡ has_entry used entries ps e)
  first_of_entry e i ps up parted = dropped e 0 i ps up (λ k d lt. parted.0 k d (omega arith) lt) (λ k d le lt. parted.1 k d le lt)

  -- ---- what stands at the places

  last_but : (N S A L : Bool) → (S || N) ≡ (A || N) → ((N || S) || L) ≡ (((N && true) || A) || L)
  last_but true S A L h = refl
  last_but false S A L h = ap (λ b. b || L) (sym (or_none S) ∙ h ∙ or_none A)
    where
      or_none : (b : Bool) → (b || false) ≡ b
      or_none true = refl
      or_none false = refl

  not_looked : (N A L : Bool) → (A || L) ≡ (((N && false) || A) || L)
  not_looked true A L = refl
  not_looked false A L = refl

  again : (N Q A L : Bool) → (N ≡ true → L ≡ true) → (A || L) ≡ (((N && Q) || A) || L)
  again false Q A L h = refl
  again true Q A L h = ap (λ b. A || b) (h refl) ∙ or_true A ∙ sym (ap (λ b. (Q || A) || b) (h refl) ∙ or_true (Q || A))
    where
      or_true : (b : Bool) → (b || true) ≡ true
      or_true true = refl
      or_true false = refl

  same_entry : (n m : ℕ) → nat_eq n m ≡ nat_eq m n
  same_entry n m = by (nat_eq n m) refl
    where
      by : (b : Bool) → nat_eq n m ≡ b → nat_eq n m ≡ nat_eq m n
      by true h = h ∙ sym (eq-eqb m n (sym ((Decides-eqb n m).0 h)))
      by false h = h ∙ sym (ne_eqb m n (λ same. absurd (Prim.cc (sym h ∙ eq-eqb n m (sym same)))))

  abbrev stood : Option ℕ → List Place → ℕ → Bool
  stood last ps n = is_place_among (entries_at (is_searched_place used entries) last ps) n

  listed_from : (last : Option ℕ) (ps : List Place) (n : ℕ) → (stood last ps n || is_last last n) ≡ (has_entry used entries ps n || is_last last n)
  listed_from last [] n = refl
  listed_from last (p ∷ ps) n = by (is_last last p.entry) (is_searched_place used entries p) refl refl (λ o. listed_from o ps n)
    where
      last_position : (last : Option ℕ) → is_last last p.entry ≡ true → nat_eq p.entry n ≡ true → is_last last n ≡ true
      last_position None h same = absurd (Prim.cc h)
      last_position (Some m) h same = eq-eqb m n ((Decides-eqb m p.entry).0 h ∙ (Decides-eqb p.entry n).0 same)

      step : (l b : Bool) → is_last last p.entry ≡ l → is_searched_place used entries p ≡ b → stood last (p ∷ ps) n ≡ is_place_among (if not l && b then p.entry ∷ entries_at (is_searched_place used entries) (Some p.entry) ps else entries_at (is_searched_place used entries) last ps) n
      step l b is looks i = is_place_among (if not (is i) && looks i then p.entry ∷ entries_at (is_searched_place used entries) (Some p.entry) ps else entries_at (is_searched_place used entries) last ps) n

      by : (l b : Bool) → is_last last p.entry ≡ l → is_searched_place used entries p ≡ b → ((o : Option ℕ) → (stood o ps n || is_last o n) ≡ (has_entry used entries ps n || is_last o n)) → (stood last (p ∷ ps) n || is_last last n) ≡ (has_entry used entries (p ∷ ps) n || is_last last n)
      by true b is looks further =
          ap (λ v. v || is_last last n) (step true b is looks)
          ∙ further last
          ∙ again (nat_eq p.entry n) (is_searched_place used entries p) (has_entry used entries ps n) (is_last last n) (last_position last is)
      by false true is looks further =
          ap (λ v. v || is_last last n) (step false true is looks)
          ∙ ap (λ v. (v || stood (Some p.entry) ps n) || is_last last n) (same_entry n p.entry)
          ∙ last_but (nat_eq p.entry n) (stood (Some p.entry) ps n) (has_entry used entries ps n) (is_last last n) (further (Some p.entry))
          ∙ ap (λ v. ((nat_eq p.entry n && v) || has_entry used entries ps n) || is_last last n) (sym looks)
      by false false is looks further =
          ap (λ v. v || is_last last n) (step false false is looks)
          ∙ further last
          ∙ not_looked (nat_eq p.entry n) (has_entry used entries ps n) (is_last last n)
          ∙ ap (λ v. ((nat_eq p.entry n && v) || has_entry used entries ps n) || is_last last n) (sym looks)

  listed : (ps : List Place) (n : ℕ) → is_place_among (entries_at (is_searched_place used entries) None ps) n ≡ has_entry used entries ps n
  listed ps n = sym (or_none (stood None ps n)) ∙ listed_from None ps n ∙ or_none (has_entry used entries ps n)
    where
      or_none : (b : Bool) → (b || false) ≡ b
      or_none true = refl
      or_none false = refl

  -- ---- each of the entries looked for

  pub having_word : (t : Bool) (asked : List (List ℕ)) (w : List ℕ) (places : List Place) (among found : List ℕ) → 1 ≤ length asked → length asked < 2 → w ≡ get_or asked 0 w → t ≡ false
      → places ≡ phrase_places false (w ∷ []) entries → (AreInEntryOrder 0 places → found ≡ filter (has_entry used entries places) among)
      → IsNarrowed (is_satisfied (HasPhrase used t asked)) entries among found
  having_word t asked w places among found some few is whole stand told p amongst =
      let each : has_entry used entries places ≡ is_place_among (entries_at (is_searched_place used entries) None places) = fun_ext (λ n. sym (listed places n)) in
      let listed_are = one_found used entries t asked w places some few is whole stand in
      told (subst (AreInEntryOrder 0) (sym stand) (phrases_rise false (w ∷ []) entries))
      ∙ ap (λ q. filter q among) each
      ∙ ap (λ l. filter (is_place_among l) among) listed_are
      ∙ ap (filter (is_place_among (places_from (is_satisfied (HasPhrase used t asked)) 0 entries))) amongst
      ∙ looked_for p (is_satisfied (HasPhrase used t asked)) 0 entries
