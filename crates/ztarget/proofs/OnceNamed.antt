-- The names so far, and one more; the databases so far, and one more.
use Rattle.std.proofs.Common.{◌≡◌, refl, sym, ◌∙◌, ap, ℕ, ◌+◌, ◌<◌, List, [], ◌∷◌, ◌++◌, length, drop, get_or, append-nil, append_assoc, Bool, true, false, ◌||◌, cond, if◌then◌else◌}
use Rattle.std.proofs.lemmas.List.{drop_more}
use Rattle.std.proofs.lemmas.Map.Text.{is_eq-slice_cmp}
use Rattle.std.specs.BTreeMap.{is_at}
use Rattle.std.specs.Cmp.Lexicographic.{slice_cmp}
use Rattle.std.specs.List.{flat_map}
use Rattle.std.specs.Ordering.{nat_cmp}
use Rattle.std.specs.Str.{bytes_eq}
use Rattle.ztarget.specs.declared.database.Database.{Database}
use Rattle.ztarget.specs.Faults.{is_called}
use Rattle.ztarget.specs.Searching.{is_name_among, each_once, called}
use Rattle.ztarget.proofs.FewEntries.{among_more}

-- what a set of the names before tells of them with one more
pub membership_more : (before after : List (List ℕ)) (name q : List ℕ) (old new : Bool) → after ≡ before ++ name ∷ [] → old ≡ is_name_among before q
    → new ≡ cond (is_at (slice_cmp nat_cmp name) q) true old → new ≡ is_name_among after q
membership_more before after name q old new is told added =
    let either : (a b : Bool) → cond b true a ≡ (a || b) = λ a b. elim b as (λ b. cond b true a ≡ (a || b)) [
      | true ↦ elim a as (λ a. true ≡ (a || true)) [ true ↦ refl | false ↦ refl ]
      | false ↦ elim a as (λ a. a ≡ (a || false)) [ true ↦ refl | false ↦ refl ]
    ] in
    added
    ∙ ap (λ b. cond b true old) (is_eq-slice_cmp name q)
    ∙ either old (bytes_eq name q)
    ∙ ap (λ b. b || bytes_eq name q) told
    ∙ sym (among_more before name q)
    ∙ ap (λ names. is_name_among names q) (sym is)

module _ (ds : List Database) (before left after behind : List (List ℕ)) (name : List ℕ) (is : left ≡ name ∷ behind) (next : after ≡ before ++ name ∷ []) where
  one_step : flat_map (called ds) (each_once before left) ≡ flat_map (called ds) (if is_name_among before name then each_once after behind else name ∷ each_once after behind)
  one_step =
      ap (λ names. flat_map (called ds) (each_once before names)) is
      ∙ ap (λ names. flat_map (called ds) (if is_name_among before name then each_once names behind else name ∷ each_once names behind)) (sym next)

  -- a name that is new
  pub new_name : is_name_among before name ≡ false → flat_map (called ds) (each_once before left) ≡ called ds name ++ flat_map (called ds) (each_once after behind)
  new_name h = one_step ∙ ap (λ b. flat_map (called ds) (if b then each_once after behind else name ∷ each_once after behind)) h

  -- one that is not
  pub old_name : is_name_among before name ≡ true → flat_map (called ds) (each_once before left) ≡ flat_map (called ds) (each_once after behind)
  old_name h = one_step ∙ ap (λ b. flat_map (called ds) (if b then each_once after behind else name ∷ each_once after behind)) h

-- the databases of a name among those from a number on
pub called_more : (ds : List Database) (name : List ℕ) (i : ℕ) (d : Database) → i < length ds → d ≡ get_or ds i d
    → (before : List Database) → (before ++ called (d ∷ []) name) ++ called (drop (i + 1) ds) name ≡ before ++ called (drop i ds) name
called_more ds name i d within is before =
    let left : drop i ds ≡ d ∷ drop (i + 1) ds = drop_more ds i d within ∙ ap (λ (x : Database). x ∷ drop (i + 1) ds) (sym is) in
    let rest = called (drop (i + 1) ds) name in
    let either : (b : Bool) → (before ++ cond b (d ∷ []) []) ++ rest ≡ before ++ cond b (d ∷ rest) rest = λ b. elim b as (λ b. (before ++ cond b (d ∷ []) []) ++ rest ≡ before ++ cond b (d ∷ rest) rest) [
      | true ↦ append_assoc before (d ∷ []) rest
      | false ↦ ap (λ l. l ++ rest) (append-nil before)
    ] in
    either (is_called name d) ∙ ap (λ l. before ++ called l name) (sym left)
