-- What an association with a target has after the requests for one search: the size that is given, and what the search
-- finds.
use Rattle.std.proofs.Common.{◌≡◌, ℕ, Bool, true, false, cond, if◌then◌else◌, List, [], ◌∷◌, Option, None, Some, refl, sym, subst}
use Rattle.std.specs.Prelude.{not, ◌&&◌}
use Rattle.std.specs.Cmp.Lexicographic.{slice_cmp}
use Rattle.std.specs.declared.cmp.Ordering.TheVariants.{Less, Equal, Greater}
use Rattle.std.specs.List.{find, AllByRecursion}
use Rattle.std.specs.Option.{option_map}
use Rattle.std.specs.Ordering.{nat_cmp, match_ordering}
use Rattle.zapdu.specs.declared.apdu.Apdu.{Apdu}
use Rattle.zapdu.specs.declared.apdu.Apdu.TheVariants as apdus
use Rattle.zapdu.specs.declared.productions.init_request.InitRequest.{InitRequest}
use Rattle.zapdu.specs.declared.productions.search_request.SearchRequest.{SearchRequest}
use Rattle.zapdu.specs.declared.productions.search_query.SearchQuery.TheVariants.{Rpn}
use Rattle.zorigin.specs.declared.settings.Ask.{Ask}
use Rattle.zorigin.specs.declared.settings.Settings.{Settings}
use Rattle.zorigin.specs.Sending.{init_value, search_value}
use Rattle.ztarget.specs.declared.database.Database.{Database}
use Rattle.ztarget.specs.declared.settings.TargetSettings.{TargetSettings}
use Rattle.ztarget.specs.Faults.{Bib1Fault, first_of_faults, match_fault}
use Rattle.ztarget.specs.Initialising.{is_accepted, terms}
use Rattle.ztarget.specs.Replies.{owed_in_state, next_association, association_after, owed_to_search_unless, after_init}
use Rattle.ztarget.specs.Responding.{search_fault, name_fault, kept_fault}
use Rattle.ztarget.specs.Searching.{Found, result_set}
use Rattle.ztarget.specs.Standing.{Terms, State, Fresh, Open, Ended, NamedSet, Association, is_named, found_of, set_named, put_set}
use Rattle.zoom_laws.specs.Catalogue.{size_given}
use Rattle.zoom_laws.proofs.LengthTheory.Errands.{IsRequestFor}

-- ---- sets by name

all_put : (P : NamedSet → Type 0) (sets : List NamedSet) (set : NamedSet) → AllByRecursion P sets → P set
    → AllByRecursion P (put_set sets set)
all_put P [] set h p = (p, tt)
all_put P (s ∷ sets) set h p =
    let more = all_put P sets set h.1 p in
    elim (slice_cmp nat_cmp set.name s.name) as (λ o. AllByRecursion P
    (match_ordering o (set ∷ s ∷ sets) (set ∷ sets) (s ∷ put_set sets set))) [
      | Less ↦ (p, h)
      | Equal ↦ (p, h.1)
      | Greater ↦ (h.0, more)
    ]

pub of_named : (P : NamedSet → Type 0) (sets : List NamedSet) (name : List ℕ) (found : List Found)
    → AllByRecursion P sets → set_named sets name ≡ Some found → (set : NamedSet) × P set × (set.found ≡ found)
of_named P [] name found h e = absurd cc
of_named P (s ∷ sets) name found h e =
    let more = of_named P sets name found h.1 in
    elim (is_named name s) as (λ b. option_map found_of (cond b (Some s) (find (is_named name) sets)) ≡ Some found
    → (set : NamedSet) × P set × (set.found ≡ found)) [
      | true ↦ λ g. (s, h.0, (let same : s.found ≡ found = cc in same))
      | false ↦ λ g. more g
    ] e

-- ---- faults

pub first_fault : (a b : Option Bib1Fault) → first_of_faults a b ≡ None → b ≡ None
first_fault None b e = e
first_fault (Some f) b e = absurd cc

-- ---- the association

module _ (databases : List Database) (offers : TargetSettings) (ask : Ask) where
  abbrev pub found_here : List Found
  found_here = result_set databases ask.databases ask.query.root

  abbrev pub fault_here : Option Bib1Fault
  fault_here = match_fault databases ask.databases ask.query

  -- if the association is open, the target does not refuse, and the size is the given one
  abbrev pub IsOnTerms : State → Type 0
  IsOnTerms Fresh = Unit {0}
  IsOnTerms (Open terms) = (offers.refuse ≡ false) × (terms.size ≡ size_given offers)
  IsOnTerms Ended = Unit {0}

  -- the set is what the search finds, and the search has no fault
  abbrev pub IsFoundSet : NamedSet → Type 0
  IsFoundSet set = (set.found ≡ found_here) × (fault_here ≡ None)

  pub record IsAssociated (s : Association) : Type 0 where
    pub state : IsOnTerms s.state
    pub sets : AllByRecursion IsFoundSet s.sets

  opened : (settings : Settings) (b : Bool) → (b ≡ true → offers.refuse ≡ false)
      → IsOnTerms (if b then Open (terms offers (init_value settings)) else Ended)
  opened settings true h = (h refl, refl)
  opened settings false h = tt

  not_refused : (refuse b : Bool) → not refuse && b ≡ true → refuse ≡ false
  not_refused true b e = absurd cc
  not_refused false b e = refl

  after_opening : (settings : Settings) → IsOnTerms (after_init offers (init_value settings))
  after_opening settings =
      opened settings (is_accepted offers (init_value settings).protocol_version) (not_refused offers.refuse _)

  after_search : (named : Bool) (op set : ℕ) (terms : Terms) (sets : List NamedSet) (o : Option Bib1Fault)
      → IsOnTerms (Open terms) → AllByRecursion IsFoundSet sets → (o ≡ None → fault_here ≡ None)
      → IsAssociated (owed_to_search_unless terms sets (search_value named op set ask) found_here o).association
  after_search named op set terms sets None on all none =
      record { state = on; sets = all_put IsFoundSet sets _ all (refl, none refl) }
  after_search named op set terms sets (Some reason) on all none = record { state = on; sets = all }

  search_none : (named : Bool) (op set : ℕ) (terms : Terms) (sets : List NamedSet)
      → search_fault databases sets terms (search_value named op set ask) (Rpn ask.query) ≡ None → fault_here ≡ None
  search_none named op set terms sets e =
      let r = search_value named op set ask in
      let kept = kept_fault r.replace_indicator r.result_set_name (set_named sets r.result_set_name) in
      first_fault kept fault_here
      (first_fault (name_fault terms.named r.result_set_name) (first_of_faults kept fault_here) e)

  -- after one more request
  next : (s : Association) (state : State) (sets : List NamedSet) (v : Apdu) → IsRequestFor ask v → IsAssociated s
      → IsOnTerms state → AllByRecursion IsFoundSet sets
      → IsAssociated (next_association s (owed_in_state databases offers state sets v))
  next s Fresh sets (apdus.InitRequest r) is a on all =
      subst (λ (z : InitRequest). IsAssociated (record { state = after_init offers z; sets = sets })) (sym is.1)
      (record { state = after_opening is.0; sets = all })
  next s (Open terms) sets (apdus.InitRequest r) is a on all = a
  next s Ended sets (apdus.InitRequest r) is a on all = a
  next s Fresh sets (apdus.SearchRequest r) is a on all = a
  next s (Open terms) sets (apdus.SearchRequest r) is a on all =
      subst (λ (z : SearchRequest). IsAssociated (next_association s
      (owed_in_state databases offers (Open terms) sets (apdus.SearchRequest z)))) (sym is.3)
      (after_search is.0 is.1 is.2 terms sets
      (search_fault databases sets terms (search_value is.0 is.1 is.2 ask) (Rpn ask.query)) on all
      (search_none is.0 is.1 is.2 terms sets))
  next s Ended sets (apdus.SearchRequest r) is a on all = a
  next s Fresh sets (apdus.PresentRequest r) is a on all = a
  next s (Open terms) sets (apdus.PresentRequest r) is a on all = record { state = on; sets = all }
  next s Ended sets (apdus.PresentRequest r) is a on all = a
  next s Fresh sets (apdus.Close c) is a on all = record { state = tt; sets = all }
  next s (Open terms) sets (apdus.Close c) is a on all = record { state = tt; sets = all }
  next s Ended sets (apdus.Close c) is a on all = a
  next s state sets (apdus.InitResponse r) is a on all = a
  next s state sets (apdus.SearchResponse r) is a on all = a
  next s state sets (apdus.PresentResponse r) is a on all = a

  pub associated : (received : List Apdu) → AllByRecursion (IsRequestFor ask) received
      → IsAssociated (association_after databases offers received)
  associated [] all = record { state = tt; sets = tt }
  associated (v ∷ received) all =
      let a = associated received all.1 in
      let s = association_after databases offers received in
      next s s.state s.sets v all.0 a a.state a.sets
