-- Which records are taken, where their octets stand, and how many they are.
use Rattle.std.proofs.Common.{◌≡◌, ◌↔◌, ◌⊎◌, ◌≤◌, ◌+◌, ℕ, zero, suc, Bool, true, false, List, [], ◌∷◌, length, Option, cond, refl, sym, ap, subst, ◌∙◌, inl, inr, ⊎_elim, arith}
use Rattle.std.specs.Prelude.{Contains, not, ◌&&◌, is_some, filter, nat_lt}
use Rattle.std.specs.Borrow.{Bor}
use Rattle.std.specs.List.{flat_map, filter_map, count_by}
use Rattle.std.proofs.lemmas.Bool.{ltb-false, le-ltb, and_right}
use Rattle.std.proofs.lemmas.List.Elements.{Contains-append_cases, Contains-append_left, Contains-append_right}
use Rattle.std.proofs.lemmas.List.Sums.{sum_by-cons}
use Rattle.zapdu.specs.declared.productions.record.Record.{Record}
use Rattle.zapdu.specs.declared.productions.record.RecordBody.{RecordBody}
use Rattle.zapdu.specs.declared.productions.record.RecordBody.TheVariants.{Retrieval, Surrogate, Fragment}
use Rattle.zknow.specs.declared.fact.Fact.{Fact}
use Rattle.zknow.specs.declared.fact.Fact.TheVariants.{Seen}
use Rattle.zknow.specs.declared.tables.keys.RowKey.{RowKey}
use Rattle.zknow.specs.Facts.{AreFacts}
use Rattle.zknow.specs.List.Listing.{row_key_of}
use Rattle.zknow.specs.Tables.DistinctLaws.{none_in_nil, in_cons, in_head, in_tail}
use Rattle.zknow.specs.Tables.Keys.{row_cmp, row_total, row_exact}
use Rattle.zknow.proofs.ListTheory.Ascending.{ascending_members}
use Rattle.zknow.proofs.ListTheory.Places.{image_found, records_are, conflict_is}
use Rattle.zknow_records.specs.declared.left_out.LeftOut.{LeftOut}
use Rattle.zknow_records.specs.Records.{opac_in, written_in, external_octets, is_wanted, own_octets, is_surrogate, is_diagnostic, is_other, is_conflict, taken, row_records, rows, all_taken, referenced}
use Rattle.zknow_records.specs.RecordLaws.{IsTakenRecord, count_written}

-- ---- members of lists of lists

module _ {X Y : Type 0} (f : X → List Y) where
  in_flat : (xs : List X) (x : X) (y : Y) → Contains xs x → Contains (f x) y → Contains (flat_map f xs) y
  in_flat [] x y h k = absurd (none_in_nil x h)
  in_flat (z ∷ zs) x y h k = ⊎_elim
      (λ same. Contains-append_left (f z) (flat_map f zs) y (subst (λ w. Contains (f w) y) (sym same) k))
      (λ later. Contains-append_right (f z) (flat_map f zs) y (in_flat zs x y later k))
      (in_cons z zs x h)

  flat_in : (xs : List X) (y : Y) → Contains (flat_map f xs) y → (x : X) × Contains xs x × Contains (f x) y
  flat_in [] y h = absurd (none_in_nil y h)
  flat_in (z ∷ zs) y h = ⊎_elim
      (λ here. (z, in_head z zs, here))
      (λ later. let found = flat_in zs y later in (found.0, in_tail z zs found.0 found.1, found.2))
      (Contains-append_cases (f z) (flat_map f zs) y h)

-- ---- members that pass a test

module _ {X : Type 0} (p : X → Bool) where
  kept_first : (x : X) (xs : List X) (b : Bool) (y : X) → p x ≡ b → p y ≡ true → (x ≡ y) ⊎ Contains (filter p xs) y
      → Contains (cond b (x ∷ filter p xs) (filter p xs)) y
  kept_first x xs true y is passes h = ⊎_elim
      (λ same. subst (Contains (x ∷ filter p xs)) same (in_head x (filter p xs)))
      (λ later. in_tail x (filter p xs) y later)
      h
  kept_first x xs false y is passes h = ⊎_elim
      (λ same. let never : false ≡ true = sym is ∙ ap p same ∙ passes in absurd cc)
      (λ later. later)
      h

  kept : (xs : List X) (y : X) → p y ≡ true → Contains xs y → Contains (filter p xs) y
  kept [] y passes h = absurd (none_in_nil y h)
  kept (x ∷ xs) y passes h =
      kept_first x xs (p x) y refl passes (⊎_elim inl (λ later. inr (kept xs y passes later)) (in_cons x xs y h))

  first_kept : (x : X) (xs : List X) (b : Bool) (y : X) → p x ≡ b
      → Contains (cond b (x ∷ filter p xs) (filter p xs)) y → ((x ≡ y) × (p x ≡ true)) ⊎ Contains (filter p xs) y
  first_kept x xs true y is h = ⊎_elim (λ same. inl (same, is)) inr (in_cons x (filter p xs) y h)
  first_kept x xs false y is h = inr h

  keeps : (xs : List X) (y : X) → Contains (filter p xs) y → Contains xs y × (p y ≡ true)
  keeps [] y h = absurd (none_in_nil y h)
  keeps (x ∷ xs) y h = ⊎_elim
      (λ here. (subst (Contains (x ∷ xs)) here.0 (in_head x xs), subst (λ z. p z ≡ true) here.0 here.1))
      (λ later. let rest = keeps xs y later in (in_tail x xs y rest.0, rest.1))
      (first_kept x xs (p x) y refl h)

-- ---- the records of a position

-- the position is left out
abbrev is_left : Bool → List Record → Bool
is_left conflicts records = is_conflict records && not conflicts

last_true : (b : Bool) → (b && true) ≡ false → b ≡ false
last_true true is = is
last_true false is = refl

below_two : (n : ℕ) → (2 ≤ n → ⊥) → n ≤ 1
below_two zero few = omega arith
below_two (suc zero) few = omega arith
below_two (suc (suc n)) few = absurd (few (omega arith))

few_known : (records : List Record) (conflicts : Bool) → is_left conflicts records ≡ false → conflicts ≡ false
    → length records ≤ 1
few_known records true is never = absurd cc
few_known records false is same = ltb-false 1 (length records) (last_true (nat_lt 1 (length records)) is)

not_left : (records : List Record) (conflicts : Bool) → (conflicts ≡ false → length records ≤ 1)
    → is_left conflicts records ≡ false
not_left records true few = and_right (nat_lt 1 (length records)) false refl
not_left records false few = ap (λ b. b && true) (le-ltb 1 (length records) (few refl))

module _ (asked : Option (List ℕ)) (conflicts : Bool) where
  -- the position is not left out, and the record is one that is known there and wanted
  abbrev IsOneOf : List Record → Record → Type 0
  IsOneOf records r = (is_left conflicts records ≡ false) × Contains records r × (is_wanted asked r ≡ true)

  taken_by : (records : List Record) (b : Bool) (r : Record) → is_left conflicts records ≡ b
      → Contains (cond b [] (filter (is_wanted asked) records)) r → IsOneOf records r
  taken_by records true r is h = absurd (none_in_nil r h)
  taken_by records false r is h = let k = keeps (is_wanted asked) records r h in (is, k.0, k.1)

  taken_out : (records : List Record) (r : Record) → Contains (taken asked conflicts records) r → IsOneOf records r
  taken_out records r h = taken_by records (is_left conflicts records) r refl h

  taken_in : (records : List Record) (r : Record) → IsOneOf records r → Contains (taken asked conflicts records) r
  taken_in records r one = rw one.0 (kept (is_wanted asked) records r one.2 one.1)

-- ---- the records of all positions

module _ (asked : Option (List ℕ)) (conflicts : Bool) (facts : List Fact) (good : AreFacts facts) where
  abbrev taken_at : RowKey → List Record
  taken_at k = taken asked conflicts (row_records facts k)

  taken_is_seen : (r : Record) → Contains (all_taken asked conflicts facts) r → IsTakenRecord asked conflicts facts r
  taken_is_seen r h =
      let at = flat_in taken_at (rows facts) r h in
      let k : RowKey = at.0 in
      let found = taken_out asked conflicts (row_records facts k) r at.2 in
      record {
        row = k;
        seen = (records_are k.target k.set facts k.position r).0 found.1;
        wanted = found.2;
        alone = λ no two. let few = few_known (row_records facts k) conflicts found.0 no in
            let many = (conflict_is k.target k.set k.position facts good).1 two in
            omega (arith, few, many);
      }

  row_there : (k : RowKey) (r : Record) → Contains facts (Seen k.target k.set k.position r) → Contains (rows facts) k
  row_there k r seen =
      (ascending_members row_cmp row_total row_exact (filter_map row_key_of facts) k).1
      (image_found row_key_of facts (Seen k.target k.set k.position r) k seen refl)

  seen_is_taken : (r : Record) → IsTakenRecord asked conflicts facts r → Contains (all_taken asked conflicts facts) r
  seen_is_taken r t =
      let k : RowKey = t.row in
      let records : List Record = row_records facts k in
      let two = (conflict_is k.target k.set k.position facts good).0 in
      let few = λ (no : conflicts ≡ false). below_two (length records) (λ many. t.alone no (two many)) in
      let here = (records_are k.target k.set facts k.position r).1 t.seen in
      in_flat taken_at (rows facts) k r (row_there k r t.seen)
      (taken_in asked conflicts records r (not_left records conflicts few, here, t.wanted))

  pub members_are : (r : Record) → Contains (all_taken asked conflicts facts) r ↔ IsTakenRecord asked conflicts facts r
  members_are r = (taken_is_seen r, seen_is_taken r)

-- ---- how many they are

with_octets : (b : Bool) → cond b 1 0 + cond false 1 0 + cond (not b && not false) 1 0 ≡ 1
with_octets true = refl
with_octets false = refl

-- the octets that are written for what a target sent
abbrev octets_in : RecordBody → Option (List ℕ)
octets_in b = external_octets (written_in b (opac_in b))

one_of_three : (b : RecordBody) → cond (is_some (octets_in b)) 1 0 + cond (is_surrogate b) 1 0
    + cond (not (is_some (octets_in b)) && not (is_surrogate b)) 1 0 ≡ 1
one_of_three (Retrieval v) = with_octets (is_some (octets_in (Retrieval v)))
one_of_three (Surrogate d) = refl
one_of_three (Fragment m) = refl

counted_next : (p : Record → Bool) (r : Record) (rs : List Record)
    → count_by p (r ∷ rs) ≡ cond (p r) 1 0 + count_by p rs
counted_next p r rs = sum_by-cons (λ x. cond (p x) 1 0) r rs

pub all_counted : (rs : List Record) → count_written rs + count_by is_diagnostic rs + count_by is_other rs ≡ length rs
all_counted [] = refl
all_counted (r ∷ rs) =
    let octets = counted_next (λ x. is_some (own_octets x)) r rs in
    let diagnostics = counted_next is_diagnostic r rs in
    let others = counted_next is_other r rs in
    let one = one_of_three r.body in
    let rest = all_counted rs in
    omega (arith, octets, diagnostics, others, one, rest)

pub same_left : (a b c d e f g h : ℕ) → a ≡ e → b ≡ f → c ≡ g → d ≡ h
    → ◌≡◌ {A = LeftOut} (record { conflicts = a; syntaxes = b; diagnostics = c; others = d }) (record { conflicts = e; syntaxes = f; diagnostics = g; others = h })
same_left a b c d e f g h p q r s = rw (p, q, r, s) refl

pub taken_counted : (f : Record → Bool) (asked : Option (List ℕ)) (conflicts : Bool) (facts : List Fact) (n : ℕ) (shown items : List (Bor Record))
    (keys seen : List RowKey) → n ≡ count_by f (referenced shown) → shown ≡ items
    → referenced items ≡ flat_map (λ k. taken asked conflicts (row_records facts k)) seen → seen ≡ keys → keys ≡ rows facts
    → n ≡ count_by f (all_taken asked conflicts facts)
taken_counted f asked conflicts facts n shown items keys seen counted same is look at =
    counted ∙ ap (λ z. count_by f (referenced z)) same ∙ ap (count_by f) is
    ∙ ap (λ z. count_by f (flat_map (λ k. taken asked conflicts (row_records facts k)) z)) (look ∙ at)
