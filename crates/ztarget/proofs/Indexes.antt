-- What is found at the places where a phrase begins, entry by entry.
use Rattle.std.proofs.Common.{◌≡◌, refl, sym, ◌∙◌, ap, subst, ℕ, ℤ, suc, ◌+◌, ◌≤◌, ◌<◌, List, [], ◌∷◌, ◌++◌, Bool, true, false, not, ◌&&◌, ◌||◌, nat_eq, Option, Some, None, if◌then◌else◌, append_assoc, arith}
use Rattle.std.proofs.lemmas.Bool.{eq-eqb, ne_eqb}
use Rattle.std.specs.List.{list_any}
use Rattle.std.specs.Prelude.{slice_get}
use Rattle.ztarget.specs.declared.database.Entry.{Entry}
use Rattle.ztarget.specs.declared.database.Field.{Field}
use Rattle.ztarget.specs.declared.index.Place.{Place}
use Rattle.ztarget.specs.Asking.{HasPhrase, is_satisfied}
use Rattle.ztarget.specs.Matching.{is_searched_field, is_at_front, is_contained, field_has}
use Rattle.ztarget.specs.Phrasing.{word_starts, field_starts, entry_starts, phrase_places}
use Rattle.ztarget.specs.Searching.{places_from}
use Rattle.ztarget.specs.Words.{words}
use Rattle.ztarget.specs.Indexing.{place, picked_places, is_last, entries_at, is_searched_place, field_in, has_searched_field}

pub picked_append : (p : List ℕ → Bool) (os ps : List (List ℕ × Place)) → picked_places p (os ++ ps) ≡ picked_places p os ++ picked_places p ps
picked_append p [] ps = refl
picked_append p (o ∷ os) ps = elim (p o.0) as (λ b. (if b then o.1 ∷ picked_places p (os ++ ps) else picked_places p (os ++ ps)) ≡ (if b then o.1 ∷ picked_places p os else picked_places p os) ++ picked_places p ps) [
  | true ↦ ap (λ l. o.1 ∷ l) (picked_append p os ps)
  | false ↦ picked_append p os ps
]

same_number : (n : ℕ) → nat_eq n n ≡ true
same_number n = eq-eqb n n refl

apart : (n m : ℕ) → n < m → nat_eq n m ≡ false
apart n m lt = ne_eqb n m (λ same. absurd (omega (arith, lt, same)))

-- whether places are looked at is told by their fields
module _ (passes : Place → Bool) (sought : ℤ) where
  abbrev pub Tells : ℕ → ℕ → List Field → Type 0
  Tells e f [] = Unit {0}
  Tells e f (x ∷ xs) = ((j : ℕ) → passes (place e f j) ≡ is_searched_field sought x) × Tells e (f + 1) xs

  abbrev pub TellsAll : ℕ → List Entry → Type 0
  TellsAll e [] = Unit {0}
  TellsAll e (x ∷ xs) = Tells e 0 x.fields × TellsAll (e + 1) xs

module _ (used : ℤ) (entries : List Entry) where
  tells_fields : (e f : ℕ) (x : Entry) (fs : List Field) → slice_get entries e ≡ Some x → ((k : ℕ) → slice_get x.fields (f + k) ≡ slice_get fs k) → Tells (is_searched_place used entries) used e f fs
  tells_fields e f x [] here at = tt
  tells_fields e f x (y ∷ ys) here at = (
    λ j. ap (λ o. has_searched_field used (field_in o f)) here ∙ ap (has_searched_field used) (subst (λ n. slice_get x.fields n ≡ Some y) (omega arith) (at 0)),
    tells_fields e (f + 1) x ys here (λ k. subst (λ n. slice_get x.fields n ≡ slice_get ys k) (omega arith) (at (suc k))),
  )

  pub tells_all : (n : ℕ) (es : List Entry) → ((i : ℕ) → slice_get entries (n + i) ≡ slice_get es i) → TellsAll (is_searched_place used entries) used n es
  tells_all n [] at = tt
  tells_all n (x ∷ xs) at = (
    tells_fields n 0 x x.fields (subst (λ m. slice_get entries m ≡ Some x) (omega arith) (at 0)) (λ k. let same : 0 + k ≡ k = omega arith in ap (slice_get x.fields) same),
    tells_all (n + 1) xs (λ i. subst (λ m. slice_get entries m ≡ slice_get xs i) (omega arith) (at (suc i))),
  )

module _ (t : Bool) (w : List ℕ) (asked : List (List ℕ)) (passes : Place → Bool) where
  -- what follows places of an entry that is there already
  again_words : (e f k : ℕ) (vs : List (List ℕ)) (rest : List Place) → entries_at passes (Some e) (word_starts (is_at_front t (w ∷ asked)) e f k vs ++ rest) ≡ entries_at passes (Some e) rest
  again_words e f k [] rest = refl
  again_words e f k (v ∷ vs) rest =
      let later = word_starts (is_at_front t (w ∷ asked)) e f (k + 1) vs in
      elim (is_at_front t (w ∷ asked) (v ∷ vs)) as (λ b. entries_at passes (Some e) ((if b then place e f k ∷ later else later) ++ rest) ≡ entries_at passes (Some e) rest) [
        | true ↦ ap (λ b. if not b && passes (place e f k) then e ∷ entries_at passes (Some e) (later ++ rest) else entries_at passes (Some e) (later ++ rest)) (same_number e) ∙ again_words e f (k + 1) vs rest
        | false ↦ again_words e f (k + 1) vs rest
      ]

  again_fields : (e f : ℕ) (fs : List Field) (rest : List Place) → entries_at passes (Some e) (field_starts (is_at_front t (w ∷ asked)) e f fs ++ rest) ≡ entries_at passes (Some e) rest
  again_fields e f [] rest = refl
  again_fields e f (x ∷ xs) rest =
      let here = word_starts (is_at_front t (w ∷ asked)) e f 0 (words x.text) in
      let later = field_starts (is_at_front t (w ∷ asked)) e (f + 1) xs in
      ap (entries_at passes (Some e)) (append_assoc here later rest)
      ∙ again_words e f 0 (words x.text) (later ++ rest)
      ∙ again_fields e (f + 1) xs rest

  -- the words of a field that is not looked at
  unused_words : (e f k : ℕ) (vs : List (List ℕ)) (last : Option ℕ) (rest : List Place) → ((j : ℕ) → passes (place e f j) ≡ false) → entries_at passes last (word_starts (is_at_front t (w ∷ asked)) e f k vs ++ rest) ≡ entries_at passes last rest
  unused_words e f k [] last rest unused = refl
  unused_words e f k (v ∷ vs) last rest unused =
      let later = word_starts (is_at_front t (w ∷ asked)) e f (k + 1) vs in
      let more = later ++ rest in
      elim (is_at_front t (w ∷ asked) (v ∷ vs)) as (λ b. entries_at passes last ((if b then place e f k ∷ later else later) ++ rest) ≡ entries_at passes last rest) [
        | true ↦ elim (is_last last e) as (λ b. (if not b && passes (place e f k) then e ∷ entries_at passes (Some e) more else entries_at passes last more) ≡ entries_at passes last rest) [
          | true ↦ unused_words e f (k + 1) vs last rest unused
          | false ↦ ap (λ b. if b then e ∷ entries_at passes (Some e) more else entries_at passes last more) (unused k) ∙ unused_words e f (k + 1) vs last rest unused
        ]
        | false ↦ unused_words e f (k + 1) vs last rest unused
      ]

  -- those of one that is
  used_words : (e f k : ℕ) (vs : List (List ℕ)) (last : Option ℕ) (rest : List Place) → is_last last e ≡ false → ((j : ℕ) → passes (place e f j) ≡ true)
      → entries_at passes last (word_starts (is_at_front t (w ∷ asked)) e f k vs ++ rest) ≡ (if is_contained t (w ∷ asked) vs then e ∷ entries_at passes (Some e) rest else entries_at passes last rest)
  used_words e f k [] last rest new used = refl
  used_words e f k (v ∷ vs) last rest new used =
      let later = word_starts (is_at_front t (w ∷ asked)) e f (k + 1) vs in
      let more = later ++ rest in
      elim (is_at_front t (w ∷ asked) (v ∷ vs)) as (λ b. entries_at passes last ((if b then place e f k ∷ later else later) ++ rest) ≡ (if b || is_contained t (w ∷ asked) vs then e ∷ entries_at passes (Some e) rest else entries_at passes last rest)) [
        | true ↦ ap (λ b. if not b && passes (place e f k) then e ∷ entries_at passes (Some e) more else entries_at passes last more) new
            ∙ ap (λ b. if b then e ∷ entries_at passes (Some e) more else entries_at passes last more) (used k)
            ∙ ap (λ l. e ∷ l) (again_words e f (k + 1) vs rest)
        | false ↦ used_words e f (k + 1) vs last rest new used
      ]

  module _ (sought : ℤ) where
    one_field : (e f : ℕ) (x : Field) (last : Option ℕ) (rest : List Place) (b : Bool) → is_searched_field sought x ≡ b → is_last last e ≡ false → ((j : ℕ) → passes (place e f j) ≡ is_searched_field sought x)
        → entries_at passes last (word_starts (is_at_front t (w ∷ asked)) e f 0 (words x.text) ++ rest) ≡ (if field_has sought t (w ∷ asked) x then e ∷ entries_at passes (Some e) rest else entries_at passes last rest)
    one_field e f x last rest true is new tells =
        used_words e f 0 (words x.text) last rest new (λ j. tells j ∙ is)
        ∙ ap (λ b. if b && is_contained t (w ∷ asked) (words x.text) then e ∷ entries_at passes (Some e) rest else entries_at passes last rest) (sym is)
    one_field e f x last rest false is new tells =
        unused_words e f 0 (words x.text) last rest (λ j. tells j ∙ is)
        ∙ ap (λ b. if b && is_contained t (w ∷ asked) (words x.text) then e ∷ entries_at passes (Some e) rest else entries_at passes last rest) (sym is)

    all_fields : (e f : ℕ) (fs : List Field) (last : Option ℕ) (rest : List Place) → is_last last e ≡ false → Tells passes sought e f fs
        → entries_at passes last (field_starts (is_at_front t (w ∷ asked)) e f fs ++ rest) ≡ (if list_any (field_has sought t (w ∷ asked)) fs then e ∷ entries_at passes (Some e) rest else entries_at passes last rest)
    all_fields e f [] last rest new tells = refl
    all_fields e f (x ∷ xs) last rest new tells =
        let here = word_starts (is_at_front t (w ∷ asked)) e f 0 (words x.text) in
        let after = field_starts (is_at_front t (w ∷ asked)) e (f + 1) xs in
        let later = after ++ rest in
        let others = list_any (field_has sought t (w ∷ asked)) xs in
        ap (entries_at passes last) (append_assoc here after rest)
        ∙ one_field e f x last later _ refl new tells.0
        ∙ (elim (field_has sought t (w ∷ asked) x) as (λ b. (if b then e ∷ entries_at passes (Some e) later else entries_at passes last later) ≡ (if b || others then e ∷ entries_at passes (Some e) rest else entries_at passes last rest)) [
          | true ↦ ap (λ l. e ∷ l) (again_fields e (f + 1) xs rest)
          | false ↦ all_fields e (f + 1) xs last rest new tells.1
        ])

    pub all_entries : (n : ℕ) (es : List Entry) (last : Option ℕ) → ((m : ℕ) → n ≤ m → is_last last m ≡ false) → TellsAll passes sought n es
        → entries_at passes last (entry_starts (is_at_front t (w ∷ asked)) n es) ≡ places_from (is_satisfied (HasPhrase sought t (w ∷ asked))) n es
    all_entries n [] last below tells = refl
    all_entries n (e ∷ es) last below tells =
        let later = entry_starts (is_at_front t (w ∷ asked)) (n + 1) es in
        let found = places_from (is_satisfied (HasPhrase sought t (w ∷ asked))) (n + 1) es in
        all_fields n 0 e.fields last later (below n (omega arith)) tells.0
        ∙ (elim (is_satisfied (HasPhrase sought t (w ∷ asked)) e) as (λ b. (if b then n ∷ entries_at passes (Some n) later else entries_at passes last later) ≡ (if b then n ∷ found else found)) [
          | true ↦ ap (λ l. n ∷ l) (all_entries (n + 1) es (Some n) (λ m le. apart n m (omega (arith, le))) tells.1)
          | false ↦ all_entries (n + 1) es last (λ m le. below m (omega (arith, le))) tells.1
        ])

-- what is found at the places of a phrase
pub with_phrase_found : (used : ℤ) (entries : List Entry) (t : Bool) (w : List ℕ) (asked : List (List ℕ))
    → entries_at (is_searched_place used entries) None (phrase_places t (w ∷ asked) entries) ≡ places_from (is_satisfied (HasPhrase used t (w ∷ asked))) 0 entries
with_phrase_found used entries t w asked =
    all_entries t w asked (is_searched_place used entries) used 0 entries None (λ m le. refl) (tells_all used entries 0 entries (λ i. let same : 0 + i ≡ i = omega arith in ap (slice_get entries) same))

-- no words stand nowhere
no_field : (used : ℤ) (t : Bool) (fs : List Field) → list_any (field_has used t []) fs ≡ false
no_field used t [] = refl
no_field used t (f ∷ fs) = elim (is_searched_field used f) as (λ b. ((b && false) || list_any (field_has used t []) fs) ≡ false) [ true ↦ no_field used t fs | false ↦ no_field used t fs ]

pub no_words : (used : ℤ) (t : Bool) (n : ℕ) (es : List Entry) → places_from (is_satisfied (HasPhrase used t [])) n es ≡ []
no_words used t n [] = refl
no_words used t n (e ∷ es) = ap (λ b. if b then n ∷ places_from (is_satisfied (HasPhrase used t [])) (n + 1) es else places_from (is_satisfied (HasPhrase used t [])) (n + 1) es) (no_field used t e.fields) ∙ no_words used t (n + 1) es
