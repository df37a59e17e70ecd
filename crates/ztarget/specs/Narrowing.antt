-- Narrowing places in order to those whose entries pass one more test.
use Rattle.std.specs.Prelude.{◌≡◌, ℕ, ℤ, ◌≤◌, List, [], ◌∷◌, filter}
use Rattle.std.specs.Prelude.{Bool, true, false, ◌&&◌, nat_eq, nat_le, Option, Some, None, if◌then◌else◌}
use Rattle.std.specs.List.{list_any}
use Rattle.ztarget.specs.declared.database.Entry.{Entry}
use Rattle.ztarget.specs.declared.index.Place.{Place}
use Rattle.ztarget.specs.declared.needed_words.Needed.{Needed}
use Rattle.ztarget.specs.Asking.{HasPhrase, is_satisfied}
use Rattle.ztarget.specs.Indexing.{is_searched_place}
use Rattle.ztarget.specs.Searching.{places_from}

-- for every test: if `among` are the places of the entries that pass it, `found` are those of the entries that pass it
-- and q
abbrev pub IsNarrowed : (Entry → Bool) → List Entry → List ℕ → List ℕ → Type 0
IsNarrowed q entries among found =
    (p : Entry → Bool) → among ≡ places_from p 0 entries → found ≡ places_from (λ e. p e && q e) 0 entries

-- the same, if `second` are the places of the entries that pass q
abbrev pub IsBoth : List ℕ → List ℕ → List ℕ → Type 0
IsBoth first second found =
    (entries : List Entry) (q : Entry → Bool) → second ≡ places_from q 0 entries → IsNarrowed q entries first found

-- the places are in order of their entries, and none is in an entry before n
abbrev pub AreInEntryOrder : ℕ → List Place → Type 0
AreInEntryOrder n [] = Unit {0}
AreInEntryOrder n (p ∷ ps) = (n ≤ p.entry) × AreInEntryOrder p.entry ps

-- the place is in entry n, in a field that searches with this Use look in
abbrev pub is_at_entry : ℤ → List Entry → ℕ → Place → Bool
is_at_entry used entries n p = nat_eq p.entry n && is_searched_place used entries p

-- one of the places is such
abbrev pub has_entry : ℤ → List Entry → List Place → ℕ → Bool
has_entry used entries places n = list_any (is_at_entry used entries n) places

-- if the places are in order of their entries, `found` are those of `among` whose entries have one of the places
abbrev pub AreEntriesAtPlaces : ℤ → List Entry → List Place → List ℕ → List ℕ → Type 0
AreEntriesAtPlaces used entries places among found =
    AreInEntryOrder 0 places → found ≡ filter (has_entry used entries places) among

-- no entry passes without the words in a field of the Use
abbrev pub IsNeeded : (Entry → Bool) → Needed → Type 0
IsNeeded q n = (e : Entry) → q e ≡ true → is_satisfied (HasPhrase n.used false n.asked.now) e ≡ true

-- the words that have fewer places
abbrev pub rarer : Option Needed → Option Needed → Option Needed
rarer None second = second
rarer (Some a) None = Some a
rarer (Some a) (Some b) = if nat_le a.places b.places then Some a else Some b
