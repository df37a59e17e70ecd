-- The records of a row are those that accepted replies show.
use Rattle.std.proofs.Common.{◌≡◌, ◌↔◌, ⊎_elim, ℕ, ℤ, pos, ◌+◌, ◌+ℤ◌, Bool, true, false, cond, List, [], ◌∷◌, ◌++◌, map, refl, sym, ap, subst, ◌∙◌}
use Rattle.std.specs.Prelude.{Contains}
use Rattle.std.specs.List.{enumerate_from}
use Rattle.std.proofs.lemmas.List.Elements.{Contains-append_cases}
use Rattle.zapdu.specs.declared.apdu.Apdu.{Apdu}
use Rattle.zapdu.specs.declared.apdu.Apdu.TheVariants as apdus
use Rattle.zapdu.specs.declared.productions.record.Record.{Record}
use Rattle.zapdu.specs.declared.productions.diagnostic.DiagRec.{DiagRec}
use Rattle.zknow.specs.Tables.DistinctLaws.{none_in_nil, in_cons}
use Rattle.zknow.specs.declared.fact.Fact.{Fact}
use Rattle.zknow.specs.declared.fact.Fact.TheVariants.{Failed, Seen}
use Rattle.zknow.specs.Facts.{fact_target}
use Rattle.zknow.specs.List.ListLaws.{PlaceLaws, ListLaws}
use Rattle.zorigin.specs.declared.answer.What.{What}
use Rattle.zorigin.specs.declared.answer.What.TheVariants as what
use Rattle.zorigin.specs.Fitting.{records_in, diagnostics_in}
use Rattle.zplan.specs.Positions.{first_of}
use Rattle.zplan.specs.Ranges.{positions}
use Rattle.zorigin_facts.specs.Facts.{seen_at, diagnostic_facts, count_or_failed, facts_by, facts_of}
use Rattle.zoom_pool.specs.Transcripts.{Transcript}
use Rattle.zoom_pool.specs.History.{accepted, IsKnown}
use Rattle.zoom_pool.specs.Conflicts.{IsShownBy, DifferingRecords, ConflictLaw}
use Rattle.zoom_pool.proofs.Orders.{from_answer, of_answer}
use Rattle.zoom_pool.proofs.Pools.{known_exactly}

-- all these facts are of the target
abbrev AreOf : ℕ → List Fact → Type 0
AreOf c facts = (q : Fact) → Contains facts q → fact_target q ≡ c

none_of : (c : ℕ) → AreOf c []
none_of c q h = absurd (none_in_nil q h)

one_of : (c : ℕ) (f : Fact) (fs : List Fact) → fact_target f ≡ c → AreOf c fs → AreOf c (f ∷ fs)
one_of c f fs e rest q h = ⊎_elim (λ same. ap fact_target (sym same) ∙ e) (rest q) (in_cons f fs q h)

both_of : (c : ℕ) (xs ys : List Fact) → AreOf c xs → AreOf c ys → AreOf c (xs ++ ys)
both_of c xs ys x y q h = ⊎_elim (x q) (y q) (Contains-append_cases xs ys q h)

seen_of : (c set : ℕ) (first : ℤ) (n : ℕ) (records : List Record)
    → AreOf c (map (λ (e : ℕ × Record). Seen c set (first +ℤ pos e.0) e.1) (enumerate_from n records))
seen_of c set first n [] = none_of c
seen_of c set first n (r ∷ records) = one_of c _ _ refl (seen_of c set first (n + 1) records)

there_of : (c set : ℕ) (asked : List ℕ) (records : List Record) → AreOf c (seen_at c set asked records)
there_of c set [] records = none_of c
there_of c set (p ∷ ps) [] = none_of c
there_of c set (p ∷ ps) (r ∷ records) = one_of c _ _ refl (there_of c set ps records)

take_result_of_verdict : (c set : ℕ) (place : ℤ) (diags : List DiagRec) → AreOf c (diagnostic_facts c set place diags)
take_result_of_verdict c set place [] = none_of c
take_result_of_verdict c set place (d ∷ diags) = one_of c _ _ refl (take_result_of_verdict c set place diags)

counted_of : (c set : ℕ) (status : Bool) (count : ℤ) → fact_target (count_or_failed c set status count) ≡ c
counted_of c set true count = refl
counted_of c set false count = refl

init_of : (c : ℕ) (b : Bool) → AreOf c (cond b [] (Failed c 0 ∷ []))
init_of c true = none_of c
init_of c false = one_of c (Failed c 0) [] refl (none_of c)

by_of : (c set : ℕ) (w : What) (reply : Apdu) → AreOf c (facts_by c set w reply)
by_of c set what.Init (apdus.InitRequest v) = none_of c
by_of c set what.Init (apdus.InitResponse v) = init_of c v.result
by_of c set what.Init (apdus.SearchRequest v) = none_of c
by_of c set what.Init (apdus.SearchResponse v) = none_of c
by_of c set what.Init (apdus.PresentRequest v) = none_of c
by_of c set what.Init (apdus.PresentResponse v) = none_of c
by_of c set what.Init (apdus.Close v) = none_of c
by_of c set what.Search (apdus.InitRequest v) = none_of c
by_of c set what.Search (apdus.InitResponse v) = none_of c
by_of c set what.Search (apdus.SearchRequest v) = none_of c
by_of c set what.Search (apdus.SearchResponse v) =
    one_of c _ _ (counted_of c set v.search_status v.result_count)
    (both_of c _ _ (seen_of c set (pos 1) 0 (records_in v.records)) (take_result_of_verdict c set (pos 0) (diagnostics_in v.records)))
by_of c set what.Search (apdus.PresentRequest v) = none_of c
by_of c set what.Search (apdus.PresentResponse v) = none_of c
by_of c set what.Search (apdus.Close v) = none_of c
by_of c set (what.Present ranges) (apdus.InitRequest v) = none_of c
by_of c set (what.Present ranges) (apdus.InitResponse v) = none_of c
by_of c set (what.Present ranges) (apdus.SearchRequest v) = none_of c
by_of c set (what.Present ranges) (apdus.SearchResponse v) = none_of c
by_of c set (what.Present ranges) (apdus.PresentRequest v) = none_of c
by_of c set (what.Present ranges) (apdus.PresentResponse v) =
    both_of c _ _ (there_of c set (positions ranges) (records_in v.records)) (take_result_of_verdict c set (pos (first_of (positions ranges))) (diagnostics_in v.records))
by_of c set (what.Present ranges) (apdus.Close v) = none_of c

-- a record that is known is shown by an accepted reply of its connection
shown : (transcript : ℕ → Transcript) (c set : ℕ) (position : ℤ) (r : Record)
    → IsKnown transcript (Seen c set position r) → IsShownBy transcript c set position r
shown transcript c set position r known =
    let d = known.0 in
    let from = from_answer d (accepted (transcript d)) (Seen c set position r) known.1 in
    let same : c ≡ d = by_of d from.0.asked.set from.0.asked.what from.0.reply (Seen c set position r) from.2 in
    record {
      answer = from.0;
      among = subst (λ k. Contains (accepted (transcript k)) from.0) (sym same) from.1;
      shows = subst (λ k. Contains (facts_of k from.0) (Seen c set position r)) (sym same) from.2;
    }

known : (transcript : ℕ → Transcript) (c set : ℕ) (position : ℤ) (r : Record)
    → IsShownBy transcript c set position r → IsKnown transcript (Seen c set position r)
known transcript c set position r s =
    (c, of_answer c (accepted (transcript c)) s.answer (Seen c set position r) s.among s.shows)

pub conflicts : PlaceLaws → ListLaws → ConflictLaw
conflicts places lists settings h pool a c set position =
    let facts = pool.knowledge in
    let laws = places.records c set position facts in
    let seen : (r : Record) → Contains facts (Seen c set position r) ↔ IsShownBy a.transcript c set position r =
    λ r. (
      λ has. shown a.transcript c set position r ((known_exactly settings h pool a (Seen c set position r)).0 has),
      λ s. (known_exactly settings h pool a (Seen c set position r)).1 (known a.transcript c set position r s),
    ) in
    let two = laws.conflict a.lawful in
    let back : DifferingRecords a.transcript c set position → _ =
    λ d. two.1 (record {
      one = d.one;
      other = d.other;
      differ = d.differ;
      sees_one = (seen d.one).1 d.shows_one;
      sees_other = (seen d.other).1 d.shows_other;
    }) in
    record {
      records = λ r. (λ has. (seen r).0 ((laws.members r).0 has), λ s. (laws.members r).1 ((seen r).1 s));
      conflict = (
        λ many.
            (let x = two.0 many in
            record {
              one = x.one;
              other = x.other;
              differ = x.differ;
              shows_one = (seen x.one).0 x.sees_one;
              shows_other = (seen x.other).0 x.sees_other;
            }),
        back,
      );
      printed = λ d names mode.
          lists.conflict names mode facts (record { position = position; target = c; set = set }) (back d);
    }
