-- The places at which a phrase begins, looked up word by word, in order of entries, fields and words.
use Rattle.std.specs.Prelude.{ℕ, ℤ, ◌+◌, List, [], ◌∷◌, ◌++◌, Bool, nat_eq, if◌then◌else◌}
use Rattle.std.specs.declared.cmp.Ordering.{Ordering}
use Rattle.std.specs.List.{starts_with}
use Rattle.std.specs.Ordering.{nat_cmp, ordering_then, match_ordering}
use Rattle.ztarget.specs.declared.database.Entry.{Entry}
use Rattle.ztarget.specs.declared.database.Field.{Field}
use Rattle.ztarget.specs.declared.index.Place.{Place}
use Rattle.ztarget.specs.Asking.{HasPhrase, is_satisfied}
use Rattle.ztarget.specs.Indexing.{place}
use Rattle.ztarget.specs.Matching.{is_at_front}
use Rattle.ztarget.specs.Searching.{places_from}
use Rattle.ztarget.specs.Words.{words}

-- the places of a field from which on its words pass, where the first word has number k
abbrev pub word_starts : (List (List ℕ) → Bool) → ℕ → ℕ → ℕ → List (List ℕ) → List Place
word_starts q e f k [] = []
word_starts q e f k (v ∷ vs) =
    if q (v ∷ vs) then place e f k ∷ word_starts q e f (k + 1) vs else
    word_starts q e f (k + 1) vs

-- those of an entry's fields, where the first field has number f
abbrev pub field_starts : (List (List ℕ) → Bool) → ℕ → ℕ → List Field → List Place
field_starts q e f [] = []
field_starts q e f (x ∷ xs) = word_starts q e f 0 (words x.text) ++ field_starts q e (f + 1) xs

-- those of entries, where the first entry has number e
abbrev pub entry_starts : (List (List ℕ) → Bool) → ℕ → List Entry → List Place
entry_starts q e [] = []
entry_starts q e (x ∷ xs) = field_starts q e 0 x.fields ++ entry_starts q (e + 1) xs

-- the places from which on the words asked for follow one another
abbrev pub phrase_places : Bool → List (List ℕ) → List Entry → List Place
phrase_places truncated asked entries = entry_starts (is_at_front truncated asked) 0 entries

-- the places of the entries that have the phrase, in order
abbrev pub with_phrase : ℤ → Bool → List (List ℕ) → List Entry → List ℕ
with_phrase used truncated asked entries = places_from (is_satisfied (HasPhrase used truncated asked)) 0 entries

-- by entry, then field, then word
abbrev pub place_cmp : Place → Place → Ordering
place_cmp p q =
    ordering_then (nat_cmp p.entry q.entry)
    (ordering_then (nat_cmp p.field q.field) (nat_cmp p.word q.word))

-- the place of the next word of the field
abbrev pub next_place : Place → Place
next_place p = place p.entry p.field (p.word + 1)

-- one step: p counts if the place of its next word is in the other list; `rest` walks the places behind p
abbrev pub preceding_step : Place → (List Place → List Place) → List Place → List Place
preceding_step p rest [] = []
preceding_step p rest (q ∷ qs) =
    match_ordering (place_cmp q (next_place p))
    (preceding_step p rest qs)
    (p ∷ rest (q ∷ qs))
    (rest (q ∷ qs))

-- the places of the one list, in order, whose next word has its place in the other
abbrev pub preceding : List Place → List Place → List Place
preceding [] qs = []
preceding (p ∷ ps) qs = preceding_step p (preceding ps) qs

-- word v begins with w
abbrev pub is_begun_by : List ℕ → List ℕ → Bool
is_begun_by w v = starts_with nat_eq v w
