-- Walking the places of one word with those of a phrase gives those of the phrase with the word before it.
use Rattle.std.proofs.Common.{length, get_or, drop, ◌≡◌, refl, sym, ◌∙◌, ap, ◌⊎◌, inl, inr, ℕ, ◌+◌, ◌<◌, ◌≤◌, List, [], ◌∷◌, ◌++◌, Bool, true, false, ◌&&◌, if◌then◌else◌, append_assoc, arith}
use Rattle.std.specs.declared.cmp.Ordering.TheVariants.{Less, Equal, Greater}
use Rattle.std.proofs.lemmas.List.{drop_more}
use Rattle.std.proofs.Math.Seq.{drop-length}
use Rattle.std.specs.Cmp.{nat_cmp_is}
use Rattle.std.specs.List.{AllByRecursion, starts_with}
use Rattle.std.specs.Ordering.{nat_cmp, ordering_then, match_ordering}
use Rattle.std.specs.Prelude.{nat_eq}
use Rattle.std.specs.Str.{bytes_eq}
use Rattle.ztarget.specs.declared.database.Entry.{Entry}
use Rattle.ztarget.specs.declared.database.Field.{Field}
use Rattle.ztarget.specs.declared.index.Place.{Place}
use Rattle.ztarget.specs.Indexing.{place}
use Rattle.ztarget.specs.Matching.{is_at_front}
use Rattle.ztarget.specs.Phrasing.{word_starts, field_starts, entry_starts, phrase_places, place_cmp, next_place, preceding_step, preceding}
use Rattle.ztarget.specs.Words.{words}

-- numbers in order
pub less : (n m : ℕ) → n < m → nat_cmp n m ≡ Less
less n m lt = sym (nat_cmp_is n m Less lt)

pub equal : (n : ℕ) → nat_cmp n n ≡ Equal
equal n = sym (nat_cmp_is n n Equal refl)

pub greater : (n m : ℕ) → m < n → nat_cmp n m ≡ Greater
greater n m lt = sym (nat_cmp_is n m Greater lt)

-- a place behind the field
abbrev pub Behind : ℕ → ℕ → Place → Type 0
Behind e f p = (e < p.entry) ⊎ ((p.entry ≡ e) × (f < p.field))

-- places in one field
module _ (e f j k : ℕ) where
  pub word_less : j < k → place_cmp (place e f j) (place e f k) ≡ Less
  word_less lt =
      ap (λ o. ordering_then o (ordering_then (nat_cmp f f) (nat_cmp j k))) (equal e)
      ∙ ap (λ o. ordering_then o (nat_cmp j k)) (equal f) ∙ less j k lt

  pub word_same : j ≡ k → place_cmp (place e f j) (place e f k) ≡ Equal
  word_same is =
      ap (λ o. ordering_then o (ordering_then (nat_cmp f f) (nat_cmp j k))) (equal e)
      ∙ ap (λ o. ordering_then o (nat_cmp j k)) (equal f) ∙ ap (λ n. nat_cmp j n) (sym is) ∙ equal j

  pub word_greater : k < j → place_cmp (place e f j) (place e f k) ≡ Greater
  word_greater lt =
      ap (λ o. ordering_then o (ordering_then (nat_cmp f f) (nat_cmp j k))) (equal e)
      ∙ ap (λ o. ordering_then o (nat_cmp j k)) (equal f) ∙ greater j k lt

-- and in others
module _ (e f j k : ℕ) (p : Place) where
  pub behind_less : Behind e f p → place_cmp (place e f j) (place p.entry p.field k) ≡ Less
  behind_less (inl lt) = ap (λ o. ordering_then o (ordering_then (nat_cmp f p.field) (nat_cmp j k))) (less e p.entry lt)
  behind_less (inr h) =
      ap (λ o. ordering_then o (ordering_then (nat_cmp f p.field) (nat_cmp j k))) (ap (λ n. nat_cmp e n) h.0 ∙ equal e)
      ∙ ap (λ o. ordering_then o (nat_cmp j k)) (less f p.field h.1)

  pub behind_greater : Behind e f p → place_cmp (place p.entry p.field k) (place e f j) ≡ Greater
  behind_greater (inl lt) = ap (λ o. ordering_then o (ordering_then (nat_cmp p.field f) (nat_cmp k j))) (greater p.entry e lt)
  behind_greater (inr h) =
      ap (λ o. ordering_then o (ordering_then (nat_cmp p.field f) (nat_cmp k j))) (ap (λ n. nat_cmp n e) h.0 ∙ equal e)
      ∙ ap (λ o. ordering_then o (nat_cmp k j)) (greater p.field f h.1)

-- what each place has
module _ (P : Place → Type 0) (q : List (List ℕ) → Bool) where
  pub all_words : (e f k : ℕ) (vs : List (List ℕ)) (rest : List Place) → ((j : ℕ) → k ≤ j → P (place e f j)) → AllByRecursion P rest → AllByRecursion P (word_starts q e f k vs ++ rest)
  all_words e f k [] rest each all = all
  all_words e f k (v ∷ vs) rest each all =
      let later = all_words e f (k + 1) vs rest (λ j le. each j (omega (arith, le))) all in
      elim (q (v ∷ vs)) as (λ b. AllByRecursion P ((if b then place e f k ∷ word_starts q e f (k + 1) vs else word_starts q e f (k + 1) vs) ++ rest)) [
        | true ↦ (each k (omega arith), later)
        | false ↦ later
      ]

module _ (P : Place → Type 0) (q : List (List ℕ) → Bool) where
  moved : (ps qs rs : List Place) → AllByRecursion P (ps ++ (qs ++ rs)) → AllByRecursion P ((ps ++ qs) ++ rs)
  moved [] qs rs all = all
  moved (a ∷ ps) qs rs all = (all.0, moved ps qs rs all.1)

  pub all_fields : (e f : ℕ) (fs : List Field) (rest : List Place) → ((g j : ℕ) → f ≤ g → P (place e g j)) → AllByRecursion P rest → AllByRecursion P (field_starts q e f fs ++ rest)
  all_fields e f [] rest each all = all
  all_fields e f (x ∷ xs) rest each all =
      moved (word_starts q e f 0 (words x.text)) (field_starts q e (f + 1) xs) rest
      (all_words P q e f 0 (words x.text) (field_starts q e (f + 1) xs ++ rest) (λ j le. each f j (omega arith))
      (all_fields e (f + 1) xs rest (λ g j le. each g j (omega (arith, le))) all))

  pub all_entries : (n : ℕ) (es : List Entry) → ((e g j : ℕ) → n ≤ e → P (place e g j)) → AllByRecursion P (entry_starts q n es)
  all_entries n [] each = tt
  all_entries n (x ∷ xs) each =
      all_fields n 0 x.fields (entry_starts q (n + 1) xs) (λ g j le. each n g j (omega arith))
      (all_entries (n + 1) xs (λ e g j le. each e g j (omega (arith, le))))

pub map_all : (P Q : Place → Type 0) → ((p : Place) → P p → Q p) → (ps : List Place) → AllByRecursion P ps → AllByRecursion Q ps
map_all P Q f [] all = tt
map_all P Q f (p ∷ ps) all = (f p all.0, map_all P Q f ps all.1)

none_preceding : (ps : List Place) → preceding ps [] ≡ []
none_preceding [] = refl
none_preceding (p ∷ ps) = refl

-- a place of the phrase that no word of the one list stands before
passed_over : (q : Place) (ps qs : List Place) → AllByRecursion (λ p. place_cmp q (next_place p) ≡ Less) ps → preceding ps (q ∷ qs) ≡ preceding ps qs
passed_over q [] qs all = refl
passed_over q (p ∷ ps) qs all = ap (λ o. match_ordering o (preceding_step p (preceding ps) qs) (p ∷ preceding ps (q ∷ qs)) (preceding ps (q ∷ qs))) all.0

-- a word with none of the phrase behind it
left_out : (p : Place) (ps qs : List Place) → AllByRecursion (λ q. place_cmp q (next_place p) ≡ Greater) qs → preceding (p ∷ ps) qs ≡ preceding ps qs
left_out p ps [] all = sym (none_preceding ps)
left_out p ps (q ∷ qs) all = ap (λ o. match_ordering o (preceding_step p (preceding ps) qs) (p ∷ preceding ps (q ∷ qs)) (preceding ps (q ∷ qs))) all.0

-- a word with the phrase behind it
taken : (p : Place) (ps : List Place) (q : Place) (qs : List Place) → place_cmp q (next_place p) ≡ Equal → preceding (p ∷ ps) (q ∷ qs) ≡ p ∷ preceding ps (q ∷ qs)
taken p ps q qs is = ap (λ o. match_ordering o (preceding_step p (preceding ps) qs) (p ∷ preceding ps (q ∷ qs)) (preceding ps (q ∷ qs))) is

module _ (q r : List (List ℕ) → Bool) (none : r [] ≡ false) where
  -- the word passes, and what is behind it
  abbrev both : List (List ℕ) → Bool
  both [] = false
  both (v ∷ vs) = q (v ∷ vs) && r vs

  -- the first word of a field passes
  first_passes : (e f k : ℕ) (vs : List (List ℕ)) (ps qs all : List Place) → AllByRecursion (Behind e f) qs
      → preceding ps (word_starts r e f (k + 1) vs ++ qs) ≡ all
      → preceding (place e f k ∷ ps) (word_starts r e f (k + 1) vs ++ qs) ≡ (if r vs then place e f k ∷ all else all)
  first_passes e f k [] ps qs all behind rest =
      left_out (place e f k) ps qs (map_all (Behind e f) (λ b. place_cmp b (next_place (place e f k)) ≡ Greater) (λ b h. behind_greater e f (k + 1) b.word b h) qs behind)
      ∙ rest ∙ ap (λ b. if b then place e f k ∷ all else all) (sym none)
  first_passes e f k (v ∷ vs) ps qs all behind rest =
      let later = word_starts r e f ((k + 1) + 1) vs ++ qs in
      let beyond : AllByRecursion (λ b. place_cmp b (next_place (place e f k)) ≡ Greater) later =
      all_words (λ b. place_cmp b (next_place (place e f k)) ≡ Greater) r e f ((k + 1) + 1) vs qs (λ j le. word_greater e f j (k + 1) (omega (arith, le)))
      (map_all (Behind e f) (λ b. place_cmp b (next_place (place e f k)) ≡ Greater) (λ b h. behind_greater e f (k + 1) b.word b h) qs behind) in
      (elim (r (v ∷ vs)) as (λ b. preceding ps ((if b then place e f (k + 1) ∷ word_starts r e f ((k + 1) + 1) vs else word_starts r e f ((k + 1) + 1) vs) ++ qs) ≡ all
      → preceding (place e f k ∷ ps) ((if b then place e f (k + 1) ∷ word_starts r e f ((k + 1) + 1) vs else word_starts r e f ((k + 1) + 1) vs) ++ qs) ≡ (if b then place e f k ∷ all else all)) [
        | true ↦ (λ rest. taken (place e f k) ps (place e f (k + 1)) later (word_same e f (k + 1) (k + 1) refl) ∙ ap (λ l. place e f k ∷ l) rest)
        | false ↦ (λ rest. left_out (place e f k) ps later beyond ∙ rest)
      ]) rest

  walk_words : (e f k : ℕ) (vs : List (List ℕ)) (ps qs : List Place) → AllByRecursion (Behind e f) ps → AllByRecursion (Behind e f) qs
      → preceding (word_starts q e f k vs ++ ps) (word_starts r e f k vs ++ qs) ≡ word_starts both e f k vs ++ preceding ps qs
  walk_words e f k [] ps qs behind_as behind_bs = refl
  walk_words e f k (v ∷ vs) ps qs behind_as behind_bs =
      let mine = word_starts q e f (k + 1) vs ++ ps in
      let theirs = word_starts r e f (k + 1) vs ++ qs in
      let all = word_starts both e f (k + 1) vs ++ preceding ps qs in
      let next = walk_words e f (k + 1) vs ps qs behind_as behind_bs in
      let low : AllByRecursion (λ p. place_cmp (place e f k) (next_place p) ≡ Less) mine =
      all_words (λ p. place_cmp (place e f k) (next_place p) ≡ Less) q e f (k + 1) vs ps (λ j le. word_less e f k (j + 1) (omega (arith, le)))
      (map_all (Behind e f) (λ p. place_cmp (place e f k) (next_place p) ≡ Less) (λ p h. behind_less e f k (p.word + 1) p h) ps behind_as) in
      let here : place_cmp (place e f k) (next_place (place e f k)) ≡ Less = word_less e f k (k + 1) (omega arith) in
      let without : (a : Bool) → preceding ((if a then place e f k ∷ word_starts q e f (k + 1) vs else word_starts q e f (k + 1) vs) ++ ps) theirs ≡ (if a && r vs then place e f k ∷ word_starts both e f (k + 1) vs else word_starts both e f (k + 1) vs) ++ preceding ps qs =
      λ a. elim a as (λ a. preceding ((if a then place e f k ∷ word_starts q e f (k + 1) vs else word_starts q e f (k + 1) vs) ++ ps) theirs ≡ (if a && r vs then place e f k ∷ word_starts both e f (k + 1) vs else word_starts both e f (k + 1) vs) ++ preceding ps qs) [
        | true ↦ first_passes e f k vs mine qs all behind_bs next
            ∙ elim (r vs) as (λ b. (if b then place e f k ∷ all else all) ≡ (if b then place e f k ∷ word_starts both e f (k + 1) vs else word_starts both e f (k + 1) vs) ++ preceding ps qs) [ true ↦ refl | false ↦ refl ]
        | false ↦ next
      ] in
      let low_too : (a : Bool) → AllByRecursion (λ p. place_cmp (place e f k) (next_place p) ≡ Less) ((if a then place e f k ∷ word_starts q e f (k + 1) vs else word_starts q e f (k + 1) vs) ++ ps) =
      λ a. elim a as (λ a. AllByRecursion (λ p. place_cmp (place e f k) (next_place p) ≡ Less) ((if a then place e f k ∷ word_starts q e f (k + 1) vs else word_starts q e f (k + 1) vs) ++ ps)) [ true ↦ (here, low) | false ↦ low ] in
      elim (r (v ∷ vs)) as (λ b. preceding ((if q (v ∷ vs) then place e f k ∷ word_starts q e f (k + 1) vs else word_starts q e f (k + 1) vs) ++ ps) ((if b then place e f k ∷ word_starts r e f (k + 1) vs else word_starts r e f (k + 1) vs) ++ qs) ≡ (if q (v ∷ vs) && r vs then place e f k ∷ word_starts both e f (k + 1) vs else word_starts both e f (k + 1) vs) ++ preceding ps qs) [
        | true ↦ passed_over (place e f k) ((if q (v ∷ vs) then place e f k ∷ word_starts q e f (k + 1) vs else word_starts q e f (k + 1) vs) ++ ps) theirs (low_too (q (v ∷ vs))) ∙ without (q (v ∷ vs))
        | false ↦ without (q (v ∷ vs))
      ]

  walk_fields : (e f : ℕ) (fs : List Field) (ps qs : List Place) → AllByRecursion (λ p. e < p.entry) ps → AllByRecursion (λ p. e < p.entry) qs
      → preceding (field_starts q e f fs ++ ps) (field_starts r e f fs ++ qs) ≡ field_starts both e f fs ++ preceding ps qs
  walk_fields e f [] ps qs behind_as behind_bs = refl
  walk_fields e f (x ∷ xs) ps qs behind_as behind_bs =
      let vs = words x.text in
      let behind : (g j : ℕ) → f + 1 ≤ g → Behind e f (place e g j) = λ g j le. inr (refl, omega (arith, le)) in
      let in_as = all_fields (Behind e f) q e (f + 1) xs ps behind (map_all (λ p. e < p.entry) (Behind e f) (λ p lt. inl lt) ps behind_as) in
      let in_bs = all_fields (Behind e f) r e (f + 1) xs qs behind (map_all (λ p. e < p.entry) (Behind e f) (λ p lt. inl lt) qs behind_bs) in
      ap (λ l. preceding l ((word_starts r e f 0 vs ++ field_starts r e (f + 1) xs) ++ qs)) (append_assoc (word_starts q e f 0 vs) (field_starts q e (f + 1) xs) ps)
      ∙ ap (λ l. preceding (word_starts q e f 0 vs ++ (field_starts q e (f + 1) xs ++ ps)) l) (append_assoc (word_starts r e f 0 vs) (field_starts r e (f + 1) xs) qs)
      ∙ walk_words e f 0 vs (field_starts q e (f + 1) xs ++ ps) (field_starts r e (f + 1) xs ++ qs) in_as in_bs
      ∙ ap (λ l. word_starts both e f 0 vs ++ l) (walk_fields e (f + 1) xs ps qs behind_as behind_bs)
      ∙ sym (append_assoc (word_starts both e f 0 vs) (field_starts both e (f + 1) xs) (preceding ps qs))

  walk_entries : (n : ℕ) (es : List Entry) → preceding (entry_starts q n es) (entry_starts r n es) ≡ entry_starts both n es
  walk_entries n [] = refl
  walk_entries n (x ∷ xs) =
      let behind : (e g j : ℕ) → n + 1 ≤ e → n < e = λ e g j le. omega (arith, le) in
      walk_fields n 0 x.fields (entry_starts q (n + 1) xs) (entry_starts r (n + 1) xs) (all_entries (λ p. n < p.entry) q (n + 1) xs behind) (all_entries (λ p. n < p.entry) r (n + 1) xs behind)
      ∙ ap (λ l. field_starts both n 0 x.fields ++ l) (walk_entries (n + 1) xs)

-- two tests that tell the same give the same places
module _ (q r : List (List ℕ) → Bool) (same : (v : List ℕ) (vs : List (List ℕ)) → q (v ∷ vs) ≡ r (v ∷ vs)) where
  same_words : (e f k : ℕ) (vs : List (List ℕ)) → word_starts q e f k vs ≡ word_starts r e f k vs
  same_words e f k [] = refl
  same_words e f k (v ∷ vs) =
      ap (λ b. if b then place e f k ∷ word_starts q e f (k + 1) vs else word_starts q e f (k + 1) vs) (same v vs)
      ∙ ap (λ l. if r (v ∷ vs) then place e f k ∷ l else l) (same_words e f (k + 1) vs)

  same_fields : (e f : ℕ) (fs : List Field) → field_starts q e f fs ≡ field_starts r e f fs
  same_fields e f [] = refl
  same_fields e f (x ∷ xs) = ap (λ l. l ++ field_starts q e (f + 1) xs) (same_words e f 0 (words x.text)) ∙ ap (λ l. word_starts r e f 0 (words x.text) ++ l) (same_fields e (f + 1) xs)

  pub same_begins : (n : ℕ) (es : List Entry) → entry_starts q n es ≡ entry_starts r n es
  same_begins n [] = refl
  same_begins n (x ∷ xs) = ap (λ l. l ++ entry_starts q (n + 1) xs) (same_fields n 0 x.fields) ∙ ap (λ l. field_starts r n 0 x.fields ++ l) (same_begins (n + 1) xs)

-- the word before a phrase is not truncated
with_first : (t same begun rest : Bool) → ((same && true) && rest) ≡ ((if t && false then begun else same) && rest)
with_first true true begun rest = refl
with_first true false begun rest = refl
with_first false true begun rest = refl
with_first false false begun rest = refl

-- the phrase with a word before it
module _ (t : Bool) (w u : List ℕ) (asked : List (List ℕ)) where
  first_word : (v : List ℕ) (vs : List (List ℕ)) → both (is_at_front false (w ∷ [])) (is_at_front t (u ∷ asked)) refl (v ∷ vs) ≡ is_at_front t (w ∷ u ∷ asked) (v ∷ vs)
  first_word v vs = with_first t (bytes_eq w v) (starts_with nat_eq v w) (is_at_front t (u ∷ asked) vs)

  pub walked_phrase : (n : ℕ) (es : List Entry) → preceding (entry_starts (is_at_front false (w ∷ [])) n es) (entry_starts (is_at_front t (u ∷ asked)) n es) ≡ entry_starts (is_at_front t (w ∷ u ∷ asked)) n es
  walked_phrase n es =
      walk_entries (is_at_front false (w ∷ [])) (is_at_front t (u ∷ asked)) refl n es
      ∙ same_begins (both (is_at_front false (w ∷ [])) (is_at_front t (u ∷ asked)) refl) (is_at_front t (w ∷ u ∷ asked)) first_word n es

-- the last word of a phrase
pub last_dropped : (asked : List (List ℕ)) (n : ℕ) (w : List ℕ) → n + 1 ≡ length asked → w ≡ get_or asked n w → drop n asked ≡ w ∷ []
last_dropped asked n w whole is =
    drop_more asked n w (omega (arith, whole))
    ∙ ap (λ v. v ∷ drop (n + 1) asked) (sym is)
    ∙ ap (λ m. w ∷ drop m asked) whole
    ∙ ap (λ l. w ∷ l) (drop-length asked)

-- the word before the i-th
pub walked_drop : (t : Bool) (asked : List (List ℕ)) (i : ℕ) (w : List ℕ) (entries : List Entry) (places found : List Place) → i + 1 < length asked → w ≡ get_or asked i w
    → places ≡ phrase_places false (w ∷ []) entries → found ≡ phrase_places t (drop (i + 1) asked) entries → preceding places found ≡ phrase_places t (drop i asked) entries
walked_drop t asked i w entries places found lt is stand follow =
    let u = get_or asked (i + 1) w in
    let behind : drop (i + 1) asked ≡ u ∷ drop ((i + 1) + 1) asked = drop_more asked (i + 1) w lt in
    let here : drop i asked ≡ w ∷ drop (i + 1) asked = drop_more asked i w (omega (arith, lt)) ∙ ap (λ v. v ∷ drop (i + 1) asked) (sym is) in
    ap (λ l. preceding l found) stand
    ∙ ap (preceding (phrase_places false (w ∷ []) entries)) (follow ∙ ap (λ l. phrase_places t l entries) behind)
    ∙ walked_phrase t w u (drop ((i + 1) + 1) asked) 0 entries
    ∙ ap (λ l. phrase_places t (w ∷ l) entries) (sym behind)
    ∙ ap (λ l. phrase_places t l entries) (sym here)
