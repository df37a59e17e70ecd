-- How many octets the records of a response have together.
use Rattle.std.proofs.Common.{◌≡◌, ◌⊎◌, inl, inr, ℕ, zero, suc, ◌+◌, ◌-◌, ◌≤◌, true, false, cond, if◌then◌else◌, List, [], ◌∷◌, take, drop, length, Option, filter, refl, sym, ap, subst, ◌∙◌, arith}
use Rattle.std.specs.Prelude.{ℤ, pos, negsuc, nat_le}
use Rattle.std.specs.Int.{int_min}
use Rattle.std.proofs.lemmas.Bool.Decides.{nat_tests}
use Rattle.std.proofs.lemmas.Int.{ints}
use Rattle.zplan.specs.Positions.{IsIn}
use Rattle.zplan.specs.Ranges.{natural}
use Rattle.zapdu.specs.declared.productions.record.Record.{Record}
use Rattle.zorigin.proofs.Members.{of_all, of_filter}
use Rattle.ztarget.specs.declared.database.Database.{Database}
use Rattle.ztarget.specs.declared.settings.TargetSettings.{TargetSettings}
use Rattle.ztarget.specs.Faults as faults
use Rattle.ztarget.specs.Faults.{is_called}
use Rattle.ztarget.specs.Laws.{size_of_all}
use Rattle.ztarget.specs.Matching.{is_matching_entry}
use Rattle.ztarget.specs.Searching.{Found, kept_entry, found_in, searched, called, each_once, result_set}
use Rattle.ztarget.specs.Showing.{size_of, in_syntax, shown_record, surrogate, fitting, records_held}
use Rattle.zquery_rpn.specs.Trees.{Tree}
use Rattle.zoom_laws.specs.Catalogue.{size_given}
use Rattle.zoom_laws.specs.Lengths.{FittingRecordsLaw, ShortNamesLaw}
use Rattle.zoom_laws.proofs.AccordTheory.Members.{in_flat}
use Rattle.zoom_laws.proofs.CatalogueTheory.Members.{of_map}
use Rattle.zoom_laws.proofs.LengthTheory.Replies.{surrogate_size}

-- ---- those that a response holds

fitting_within : (size used m : ℕ) (rs : List Record) → used ≤ m → size ≤ m
    → used + size_of_all (fitting size used rs) ≤ m
fitting_within size used m [] l h = omega arith
fitting_within size used m (r ∷ rs) l h =
    let more = fitting_within size (used + size_of r) m rs in
    elim (nat_le (used + size_of r) size) as (λ b. nat_le (used + size_of r) size ≡ b
    → used + size_of_all (cond b (r ∷ fitting size (used + size_of r) rs) []) ≤ m) [
      | true ↦ λ e.
          let here : used + size_of r ≤ size = grind (arith, nat_tests) in
          let low : used + size_of r ≤ m = omega (arith, here) in
          let rest = more low h in
          omega (arith, rest)
      | false ↦ λ e. omega arith
    ] refl

-- if no record is longer than this, and the size is not, those that a response holds are not together
held_within : (size m : ℕ) (rs : List Record) → size ≤ m → ((r : Record) → IsIn r rs → size_of r ≤ m)
    → size_of_all (records_held size rs) ≤ m
held_within size m [] l h = omega arith
held_within size m (r ∷ rs) l h = fitting_within size (size_of r) m rs (h r (inl refl)) l

natural_less : (z : ℤ) (m : ℕ) → natural (int_min z (pos m)) ≤ m
natural_less (pos n) m = grind (arith, ints)
natural_less (negsuc n) m = grind (arith, ints)

-- at most what Init asks for
size_few : (offers : TargetSettings) → size_given offers ≤ 1048576
size_few offers = natural_less offers.size 1048576

pub held_short : (offers : TargetSettings) (rs : List Record) → ((r : Record) → IsIn r rs → size_of r ≤ 2000158)
    → size_of_all (records_held (size_given offers) rs) ≤ 2000158
held_short offers rs h = held_within (size_given offers) 2000158 rs (omega (arith, size_few offers)) h

-- ---- one of them

-- a record that fits is shown as it is, and a diagnostic replaces any other
pub shown_short : (offers : TargetSettings) (asked : Option (List ℕ)) (f : Found)
    → (size_of (in_syntax asked f) ≤ size_given offers) ⊎ (length f.database ≤ 2000000)
    → size_of (shown_record (size_given offers) asked f) ≤ 2000158
shown_short offers asked f h =
    let size = size_given offers in
    let why = faults.fault 17 [] in
    let most = size_few offers in
    let other = surrogate_size f.database why in
    elim (nat_le (size_of (in_syntax asked f)) size) as (λ b. nat_le (size_of (in_syntax asked f)) size ≡ b
    → size_of (if b then in_syntax asked f else surrogate f.database why) ≤ 2000158) [
      | true ↦ λ e.
          let fits : size_of (in_syntax asked f) ≤ size = grind (arith, nat_tests) in
          omega (arith, fits, most)
      | false ↦ λ e. elim h [
        | inl fits ↦ absurd (let no : nat_le (size_of (in_syntax asked f)) size ≡ true = grind (arith, nat_tests) in
            let never : true ≡ false = sym no ∙ e in cc)
        | inr few ↦ omega (arith, other, few)
      ]
    ] refl

-- an entry at a position shows that the position is in the set
pub in_set : {X : Type 0} (xs : List X) (k : ℕ) (x : X) → IsIn x (take 1 (drop k xs)) → k + 1 ≤ length xs
in_set [] zero x i = absurd i
in_set [] (suc k) x i = absurd i
in_set (y ∷ xs) zero x i = omega arith
in_set (y ∷ xs) (suc k) x i = let more = in_set xs k x i in omega (arith, more)

-- ---- which records are short

pub fitting_law : FittingRecordsLaw
fitting_law q databases settings small takes none p f i j = inl (small takes none p f i j)

-- an entry of a result set is of a database with its name
in_database : (databases : List Database) (names : List (List ℕ)) (tree : Tree) (f : Found)
    → IsIn f (result_set databases names tree) → (d : Database) × IsIn d databases × (f.database ≡ d.name)
in_database databases names tree f i =
    let d = in_flat (found_in tree) (searched databases names) f i in
    let n = in_flat (called databases) (each_once [] names) d.0 d.1 in
    let e = of_map (kept_entry d.0.name) (filter (is_matching_entry tree) d.0.entries) f d.2 in
    (d.0, of_filter (is_called n.0) databases d.0 n.2, ap (λ (z : Found). z.database) e.2)

pub of_take : {X : Type 0} (n : ℕ) (xs : List X) (x : X) → IsIn x (take n xs) → IsIn x xs
of_take zero [] x i = absurd i
of_take zero (y ∷ xs) x i = absurd i
of_take (suc n) [] x i = absurd i
of_take (suc n) (y ∷ xs) x (inl e) = inl e
of_take (suc n) (y ∷ xs) x (inr i) = inr (of_take n xs x i)

pub of_drop : {X : Type 0} (n : ℕ) (xs : List X) (x : X) → IsIn x (drop n xs) → IsIn x xs
of_drop zero [] x i = absurd i
of_drop zero (y ∷ xs) x i = i
of_drop (suc n) [] x i = absurd i
of_drop (suc n) (y ∷ xs) x i = inr (of_drop n xs x i)

pub names_law : ShortNamesLaw
names_law q databases settings few takes none p f i j =
    let all = result_set databases q.databases q.query.root in
    let at = in_flat (λ k. take 1 (drop (k - 1) all)) (p ∷ []) f j in
    let there = of_drop (at.0 - 1) all f (of_take 1 (drop (at.0 - 1) all) f at.2) in
    let d = in_database databases q.databases q.query.root f there in
    let short : length d.0.name ≤ 2000000 = of_all (λ (z : Database). length z.name ≤ 2000000) databases d.0 few d.1 in
    inr (subst (λ z. length z ≤ 2000000) (sym d.2) short)
