-- What narrows places, put together from what narrows them for its parts; and what an entry needs.
use Rattle.std.proofs.Common.{◌≡◌, refl, sym, ◌∙◌, ℕ, List, [], Bool, true, false, not, ◌&&◌, ◌||◌, nat_le, Option, Some, None, if◌then◌else◌}
use Rattle.std.proofs.lemmas.Bool.{true≢false}
use Rattle.std.specs.Prelude.{IfSome}
use Rattle.ztarget.specs.declared.database.Entry.{Entry}
use Rattle.ztarget.specs.declared.needed_words.Needed.{Needed}
use Rattle.ztarget.specs.Asking.{HasPhrase, is_satisfied}
use Rattle.ztarget.specs.Merging.{merged}
use Rattle.ztarget.specs.Narrowing.{IsNarrowed, IsNeeded, rarer}
use Rattle.ztarget.specs.Searching.{places_from}
use Rattle.ztarget.proofs.Merges.{places_same, none_places, either_places, without_places}

-- ---- truth values

regrouped : (p a b : Bool) → ((p && a) && b) ≡ (p && (a && b))
regrouped true a b = refl
regrouped false a b = refl

shared : (p a b : Bool) → ((p && a) || (p && b)) ≡ (p && (a || b))
shared true a b = refl
shared false a b = refl

left_over : (p a b : Bool) → ((p && a) && not ((p && a) && b)) ≡ (p && (a && not b))
left_over true true b = refl
left_over true false b = refl
left_over false a b = refl

dropped_of : (a b : Bool) → (a && not (a && b)) ≡ (a && not b)
dropped_of true b = refl
dropped_of false b = refl

nothing : (p : Bool) → (p && false) ≡ false
nothing true = refl
nothing false = refl

first_true : (a b : Bool) → (a && b) ≡ true → a ≡ true
first_true true b h = refl
first_true false b h = h

second_true : (a b : Bool) → (a && b) ≡ true → b ≡ true
second_true true b h = h
second_true false b h = absurd (true≢false (sym h))

needless : (p q : Bool) → (q ≡ true → p ≡ true) → (p && q) ≡ q
needless true q h = refl
needless false true h = h refl
needless false false h = refl

-- ---- narrowing

module _ (a b : Entry → Bool) (entries : List Entry) where
  pub kept_by_both : (among kept found : List ℕ) → IsNarrowed a entries among kept → IsNarrowed b entries kept found → IsNarrowed (λ e. a e && b e) entries among found
  kept_by_both among kept found first second p are =
      second (λ e. p e && a e) (first p are)
      ∙ places_same (λ e. (p e && a e) && b e) (λ e. p e && (a e && b e)) (λ e. regrouped (p e) (a e) (b e)) 0 entries

  pub kept_by_either : (among left right : List ℕ) → IsNarrowed a entries among left → IsNarrowed b entries among right
      → IsNarrowed (λ e. a e || b e) entries among (merged (record { both = true; first = true; second = true }) left right)
  kept_by_either among left right first second p are =
      (λ i. merged (record { both = true; first = true; second = true }) (first p are i) (second p are i))
      ∙ either_places (λ e. p e && a e) (λ e. p e && b e) 0 entries
      ∙ places_same (λ e. (p e && a e) || (p e && b e)) (λ e. p e && (a e || b e)) (λ e. shared (p e) (a e) (b e)) 0 entries

  pub kept_without : (among kept dropped : List ℕ) → IsNarrowed a entries among kept → IsNarrowed b entries kept dropped
      → IsNarrowed (λ e. a e && not (b e)) entries among (merged (record { both = false; first = true; second = false }) kept dropped)
  kept_without among kept dropped first second p are =
      (λ i. merged (record { both = false; first = true; second = false }) (first p are i) (second (λ e. p e && a e) (first p are) i))
      ∙ without_places (λ e. p e && a e) (λ e. (p e && a e) && b e) 0 entries
      ∙ places_same (λ e. (p e && a e) && not ((p e && a e) && b e)) (λ e. p e && (a e && not (b e))) (λ e. left_over (p e) (a e) (b e)) 0 entries

  pub found_without : (kept dropped : List ℕ) → kept ≡ places_from a 0 entries → IsNarrowed b entries kept dropped
      → merged (record { both = false; first = true; second = false }) kept dropped ≡ places_from (λ e. a e && not (b e)) 0 entries
  found_without kept dropped are second =
      (λ i. merged (record { both = false; first = true; second = false }) (are i) (second a are i))
      ∙ without_places a (λ e. a e && b e) 0 entries
      ∙ places_same (λ e. a e && not (a e && b e)) (λ e. a e && not (b e)) (λ e. dropped_of (a e) (b e)) 0 entries

pub none_kept : (entries : List Entry) (among : List ℕ) → IsNarrowed (λ e. false) entries among []
none_kept entries among p are = sym (places_same (λ e. p e && false) (λ e. false) (λ e. nothing (p e)) 0 entries ∙ none_places 0 entries)

-- ---- needs

pub kept_of_needed : (q : Entry → Bool) (n : Needed) (entries : List Entry) (among found : List ℕ) → IsNeeded q n → among ≡ places_from (is_satisfied (HasPhrase n.used false n.asked.now)) 0 entries
    → IsNarrowed q entries among found → found ≡ places_from q 0 entries
kept_of_needed q n entries among found needs are narrows =
    narrows (is_satisfied (HasPhrase n.used false n.asked.now)) are
    ∙ places_same (λ e. is_satisfied (HasPhrase n.used false n.asked.now) e && q e) q (λ e. needless (is_satisfied (HasPhrase n.used false n.asked.now) e) (q e) (needs e)) 0 entries

module _ (a b : Entry → Bool) where
  needed_first : (n : Option Needed) → IfSome n (IsNeeded a) → IfSome n (IsNeeded (λ e. a e && b e))
  needed_first None h = tt
  needed_first (Some n) h = λ e both. h e (first_true (a e) (b e) both)

  needed_second : (n : Option Needed) → IfSome n (IsNeeded b) → IfSome n (IsNeeded (λ e. a e && b e))
  needed_second None h = tt
  needed_second (Some n) h = λ e both. h e (second_true (a e) (b e) both)

  pub needed_for_both : (first second : Option Needed) → IfSome first (IsNeeded a) → IfSome second (IsNeeded b) → IfSome (rarer first second) (IsNeeded (λ e. a e && b e))
  needed_for_both None second h k = needed_second second k
  needed_for_both (Some m) None h k = needed_first (Some m) h
  needed_for_both (Some m) (Some n) h k = elim (nat_le m.places n.places) as (λ v. IfSome (if v then Some m else Some n) (IsNeeded (λ e. a e && b e))) [
    | true ↦ needed_first (Some m) h
    | false ↦ needed_second (Some n) k
  ]

  pub needed_for_without : (n : Option Needed) → IfSome n (IsNeeded a) → IfSome n (IsNeeded (λ e. a e && not (b e)))
  needed_for_without None h = tt
  needed_for_without (Some n) h = λ e both. h e (first_true (a e) (not (b e)) both)
