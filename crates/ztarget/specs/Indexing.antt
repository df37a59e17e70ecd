-- An index of entries: each word with its places, in order of entries, fields and words.
use Rattle.std.specs.Prelude.{◌≡◌, ℕ, ℤ, ◌+◌, List, [], ◌∷◌, ◌++◌, Bool, false, not, ◌&&◌, nat_eq, filter, Option, Some, None, if◌then◌else◌, unwrap_or, slice_get}
use Rattle.std.specs.BTreeMap.{is_at}
use Rattle.std.specs.Cmp.Lexicographic.{slice_cmp}
use Rattle.std.specs.List.{flat_map, starts_with}
use Rattle.std.specs.Map.{lookup}
use Rattle.std.specs.Ordering.{nat_cmp}
use Rattle.std.specs.Str.{bytes_eq}
use Rattle.ztarget.specs.declared.database.Entry.{Entry}
use Rattle.ztarget.specs.declared.database.Field.{Field}
use Rattle.ztarget.specs.declared.index.Place.{Place}
use Rattle.ztarget.specs.Matching.{is_searched_field}
use Rattle.ztarget.specs.Words.{words}

-- where a word is: the numbers of the entry, of the field in the entry, and of the word in the field, each from 0
abbrev pub place : ℕ → ℕ → ℕ → Place
place entry field word = record { entry = entry; field = field; word = word }

-- the words of a field, each with its place, where the first word has number k
abbrev pub word_places : ℕ → ℕ → ℕ → List (List ℕ) → List (List ℕ × Place)
word_places e f k [] = []
word_places e f k (w ∷ ws) = (w, place e f k) ∷ word_places e f (k + 1) ws

-- the words of an entry's fields, where the first field has number f
abbrev pub field_places : ℕ → ℕ → List Field → List (List ℕ × Place)
field_places e f [] = []
field_places e f (x ∷ xs) = word_places e f 0 (words x.text) ++ field_places e (f + 1) xs

-- the words of entries, where the first entry has number e
abbrev pub entry_places : ℕ → List Entry → List (List ℕ × Place)
entry_places e [] = []
entry_places e (x ∷ xs) = field_places e 0 x.fields ++ entry_places (e + 1) xs

-- the places of those words that pass
abbrev pub picked_places : (List ℕ → Bool) → List (List ℕ × Place) → List Place
picked_places p [] = []
picked_places p (o ∷ os) = if p o.0 then o.1 ∷ picked_places p os else picked_places p os

-- the places of one word
abbrev pub at_word : List ℕ → List (List ℕ × Place) → List Place
at_word w os = picked_places (bytes_eq w) os

-- the places that an index has for a word
abbrev pub indexed_places : List (List ℕ × List Place) → List ℕ → List Place
indexed_places index w = unwrap_or (lookup (is_at (slice_cmp nat_cmp w)) index) []

-- the index has for each word exactly its places among the entries, in order
abbrev pub IsIndexOf : List Entry → List (List ℕ × List Place) → Type 0
IsIndexOf entries index = (w : List ℕ) → indexed_places index w ≡ at_word w (entry_places 0 entries)

-- the words of an index that begin with this one
abbrev pub begun : List ℕ → List (List ℕ × List Place) → List (List ℕ × List Place)
begun w index = filter (λ e. starts_with nat_eq e.0 w) index

-- the places of words, one word after the other
abbrev pub all_indexed_places : List (List ℕ × List Place) → List Place
all_indexed_places index = flat_map (λ e. e.1) index

-- the field of a place
abbrev pub field_in : Option Entry → ℕ → Option Field
field_in None k = None
field_in (Some e) k = slice_get e.fields k

-- there is a field, and searches with this Use look in it
abbrev pub has_searched_field : ℤ → Option Field → Bool
has_searched_field used None = false
has_searched_field used (Some f) = is_searched_field used f

-- searches with this Use look in the field of the place
abbrev pub is_searched_place : ℤ → List Entry → Place → Bool
is_searched_place used entries p = has_searched_field used (field_in (slice_get entries p.entry) p.field)

-- n is the last number
abbrev pub is_last : Option ℕ → ℕ → Bool
is_last None n = false
is_last (Some m) n = nat_eq m n

-- the entries of the places that pass; of places that pass and follow one another in an entry, one counts
abbrev pub entries_at : (Place → Bool) → Option ℕ → List Place → List ℕ
entries_at passes last [] = []
entries_at passes last (p ∷ ps) =
    if not (is_last last p.entry) && passes p then p.entry ∷ entries_at passes (Some p.entry) ps else
    entries_at passes last ps
