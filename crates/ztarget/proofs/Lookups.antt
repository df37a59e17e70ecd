-- What is found for the words asked for: none, one, or more.
use Rattle.std.proofs.Common.{◌≡◌, sym, ◌∙◌, ap, ℕ, ℤ, ◌<◌, ◌≤◌, List, [], ◌∷◌, length, get_or, Bool, false, None, arith}
use Rattle.ztarget.specs.declared.database.Entry.{Entry}
use Rattle.ztarget.specs.declared.index.Place.{Place}
use Rattle.ztarget.specs.Asking.{HasPhrase, is_satisfied}
use Rattle.ztarget.specs.Indexing.{is_searched_place, entries_at}
use Rattle.ztarget.specs.Phrasing.{phrase_places}
use Rattle.ztarget.specs.Searching.{places_from}
use Rattle.ztarget.proofs.Indexes.{with_phrase_found, no_words}

module _ (used : ℤ) (entries : List Entry) (t : Bool) where
  pub none_found : (asked : List (List ℕ)) → length asked < 1 → [] ≡ places_from (is_satisfied (HasPhrase used t asked)) 0 entries
  none_found [] few = sym (no_words used t 0 entries)
  none_found (w ∷ asked) few = absurd (omega (arith, few))

  pub phrase_found : (asked : List (List ℕ)) → 1 ≤ length asked → entries_at (is_searched_place used entries) None (phrase_places t asked entries) ≡ places_from (is_satisfied (HasPhrase used t asked)) 0 entries
  phrase_found [] some = absurd (omega (arith, some))
  phrase_found (w ∷ asked) some = with_phrase_found used entries t w asked

  pub one_found : (asked : List (List ℕ)) (w : List ℕ) (places : List Place) → 1 ≤ length asked → length asked < 2 → w ≡ get_or asked 0 w → t ≡ false
      → places ≡ phrase_places false (w ∷ []) entries → entries_at (is_searched_place used entries) None places ≡ places_from (is_satisfied (HasPhrase used t asked)) 0 entries
  one_found [] w places some few is whole stand = absurd (omega (arith, some))
  one_found (v ∷ u ∷ asked) w places some few is whole stand = absurd (omega (arith, few))
  one_found (v ∷ []) w places some few is whole stand =
      ap (entries_at (is_searched_place used entries) None) stand
      ∙ with_phrase_found used entries false w []
      ∙ ap (λ b. places_from (is_satisfied (HasPhrase used b (w ∷ []))) 0 entries) (sym whole)
      ∙ ap (λ x. places_from (is_satisfied (HasPhrase used t (x ∷ []))) 0 entries) is
