-- What stands at the hits of a search is what it keeps.
use Rattle.std.proofs.Common.{◌≡◌, refl, sym, ◌∙◌, ap, subst, ℕ, suc, ◌+◌, List, [], ◌∷◌, ◌++◌, map, filter, cond, Bool, true, false, length, Some, unwrap_or, slice_get, arith, if◌then◌else◌}
use Rattle.std.proofs.lemmas.List.{length-map, map-append}
use Rattle.std.proofs.lemmas.List.Elements.{All-head, All-tail}
use Rattle.std.specs.List.{All}
use Rattle.std.specs.Option.{IsSome, option_map}
use Rattle.ztarget.specs.declared.database.Entry.{Entry}
use Rattle.ztarget.specs.declared.database.Database.{Database}
use Rattle.ztarget.specs.declared.found.Hit.{Hit}
use Rattle.ztarget.specs.declared.searched_databases.Numbered.{Numbered}
use Rattle.ztarget.specs.Counting.{kept_in, kept_by}
use Rattle.ztarget.specs.Keeping.{hit, entry_in, entry_at, AreHits, no_entry, found_at, all_found_at, AreAt, IsNumberedDatabase, databases_of, hits_in, hits_by}
use Rattle.ztarget.specs.Searching.{Found, kept_entry, places_from}

module _ (databases : List Database) where
  -- one hit more
  one_more : (h : Hit) (f : Found) (hits : List Hit) (founds : List Found) → entry_at databases h ≡ Some f → AreAt databases hits founds → AreAt databases (h ∷ hits) (f ∷ founds)
  one_more h f hits founds is rest = record {
    stand = (subst IsSome (sym is) refl, rest.stand);
    found = ap (λ o. unwrap_or o no_entry ∷ all_found_at databases hits) is ∙ ap (λ (l : List Found). f ∷ l) rest.found;
  }

  pub as_many : (hits : List Hit) (founds : List Found) → AreAt databases hits founds → length hits ≡ length founds
  as_many hits founds a = sym (length-map hits (found_at databases)) ∙ ap (λ (l : List Found). length l) a.found

  none_at : AreAt databases [] []
  none_at = record { stand = tt; found = refl }

  all_stand : (hits more : List Hit) → AreHits databases hits → AreHits databases more → AreHits databases (hits ++ more)
  all_stand [] more a b = b
  all_stand (h ∷ hits) more a b = (a.0, all_stand hits more a.1 b)

  both_at : (hits more : List Hit) (founds others : List Found) → AreAt databases hits founds → AreAt databases more others → AreAt databases (hits ++ more) (founds ++ others)
  both_at hits more founds others a b = record {
    stand = all_stand hits more a.stand b.stand;
    found = map-append (found_at databases) hits more ∙ ap (λ (l : List Found). l ++ all_found_at databases more) a.found ∙ ap (λ (l : List Found). founds ++ l) b.found;
  }

  module _ (p : Entry → Bool) (n : ℕ) (d : Database) (numbered : slice_get databases n ≡ Some d) where
    here : (i : ℕ) (e : Entry) → slice_get d.entries i ≡ Some e → entry_at databases (hit n i) ≡ Some (kept_entry d.name e)
    here i e is = ap (λ o. entry_in o i) numbered ∙ ap (option_map (kept_entry d.name)) is

    kept_from : (i : ℕ) (es : List Entry) → ((k : ℕ) → slice_get d.entries (i + k) ≡ slice_get es k) → AreAt databases (map (hit n) (places_from p i es)) (map (kept_entry d.name) (filter p es))
    kept_from i [] at = none_at
    kept_from i (e ∷ es) at =
        let first : slice_get d.entries i ≡ Some e = subst (λ m. slice_get d.entries m ≡ Some e) (omega arith) (at 0) in
        let later = kept_from (i + 1) es (λ k. subst (λ m. slice_get d.entries m ≡ slice_get es k) (omega arith) (at (suc k))) in
        elim (p e) as (λ b. AreAt databases (map (hit n) (if b then i ∷ places_from p (i + 1) es else places_from p (i + 1) es)) (map (kept_entry d.name) (cond b (e ∷ filter p es) (filter p es)))) [
          | true ↦ one_more (hit n i) (kept_entry d.name e) _ _ (here i e first) later
          | false ↦ later
        ]

    kept_here : AreAt databases (map (hit n) (places_from p 0 d.entries)) (kept_in p d)
    kept_here = kept_from 0 d.entries (λ k. let same : 0 + k ≡ k = omega arith in ap (slice_get d.entries) same)

  pub kept_at : (p : Entry → Bool) (ns : List Numbered) → All (IsNumberedDatabase databases) ns → AreAt databases (hits_by p ns) (kept_by p (databases_of ns))
  kept_at p [] all = none_at
  kept_at p (n ∷ ns) all =
      both_at (hits_in p n) (hits_by p ns) (kept_in p n.database.now) (kept_by p (databases_of ns))
      (kept_here p n.number n.database.now (All-head (IsNumberedDatabase databases) n ns all))
      (kept_at p ns (All-tail (IsNumberedDatabase databases) n ns all))
