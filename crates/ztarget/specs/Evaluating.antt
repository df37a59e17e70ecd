-- What is known while a criterion is evaluated: the list of places of each phrase that was looked up.
use Rattle.std.specs.Prelude.{◌≡◌, ℕ, List, Bool, Some}
use Rattle.std.specs.BTreeMap.{is_at}
use Rattle.std.specs.Cmp.Lexicographic.{slice_cmp}
use Rattle.std.specs.Map.{lookup}
use Rattle.std.specs.Ordering.{nat_cmp, int_cmp, bool_cmp, ordering_then}
use Rattle.std.specs.declared.cmp.Ordering.{Ordering}
use Rattle.ztarget.specs.declared.database.Entry.{Entry}
use Rattle.ztarget.specs.declared.evaluation.Sought.{Sought}
use Rattle.ztarget.specs.Asking.{HasPhrase, is_satisfied}
use Rattle.ztarget.specs.Searching.{places_from}

-- the entry has the phrase
abbrev pub has_sought : Sought → Entry → Bool
has_sought s = is_satisfied (HasPhrase s.used s.truncated s.asked.now)

-- by Use, then truncation, then words
abbrev pub sought_cmp : Sought → Sought → Ordering
sought_cmp s t =
    ordering_then (int_cmp s.used t.used)
    (ordering_then (bool_cmp s.truncated t.truncated) (slice_cmp (slice_cmp nat_cmp) s.asked.now t.asked.now))

-- the list has the places of the entries that have the phrase, in order
abbrev pub IsListOf : List Entry → Sought → List ℕ → Type 0
IsListOf entries s list = list ≡ places_from (has_sought s) 0 entries

-- each list is that of its phrase
abbrev pub AreLists : List Entry → List (Sought × List ℕ) → Type 0
AreLists entries lists =
    (s : Sought) (list : List ℕ) → lookup (is_at (sought_cmp s)) lists ≡ Some list → IsListOf entries s list
