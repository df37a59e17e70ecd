-- The facts of an answer are about the target of its connection.
use Rattle.std.proofs.Common.{◌≡◌, ⊎_elim, ℕ, ℤ, pos, ◌+◌, ◌+ℤ◌, Bool, true, false, cond, List, [], ◌∷◌, ◌++◌, map, refl, sym, ap, ◌∙◌}
use Rattle.std.specs.Prelude.{Contains}
use Rattle.std.specs.List.{enumerate_from}
use Rattle.std.proofs.lemmas.List.Elements.{Contains-append_cases}
use Rattle.zapdu.specs.declared.apdu.Apdu.{Apdu}
use Rattle.zapdu.specs.declared.apdu.Apdu.TheVariants as apdus
use Rattle.zapdu.specs.declared.productions.record.Record.{Record}
use Rattle.zapdu.specs.declared.productions.diagnostic.DiagRec.{DiagRec}
use Rattle.zknow.specs.declared.fact.Fact.{Fact}
use Rattle.zknow.specs.declared.fact.Fact.TheVariants.{Failed, Seen}
use Rattle.zknow.specs.Facts.{fact_target}
use Rattle.zknow.specs.Tables.DistinctLaws.{none_in_nil, in_cons}
use Rattle.zorigin.specs.declared.answer.What.{What}
use Rattle.zorigin.specs.declared.answer.What.TheVariants as what
use Rattle.zorigin.specs.Fitting.{records_in, diagnostics_in}
use Rattle.zorigin_facts.specs.Facts.{seen_at, diagnostic_facts, count_or_failed, facts_by}
use Rattle.zoom_pool.specs.Transcripts.{Transcript}
use Rattle.zoom_pool.specs.History.{accepted, facts_at}
use Rattle.zoom_pool.proofs.Orders.{from_answer}

-- all these facts are about the target
abbrev AreAbout : ℕ → List Fact → Type 0
AreAbout c facts = (f : Fact) → Contains facts f → fact_target f ≡ c

no_facts : (c : ℕ) → AreAbout c []
no_facts c f h = absurd (none_in_nil f h)

one_fact : (c : ℕ) (g : Fact) (gs : List Fact) → fact_target g ≡ c → AreAbout c gs → AreAbout c (g ∷ gs)
one_fact c g gs e others f h = ⊎_elim (λ same. ap fact_target (sym same) ∙ e) (others f) (in_cons g gs f h)

both_facts : (c : ℕ) (xs ys : List Fact) → AreAbout c xs → AreAbout c ys → AreAbout c (xs ++ ys)
both_facts c xs ys x y f h = ⊎_elim (x f) (y f) (Contains-append_cases xs ys f h)

seen_facts : (c set : ℕ) (first : ℤ) (n : ℕ) (records : List Record)
    → AreAbout c (map (λ (e : ℕ × Record). Seen c set (first +ℤ pos e.0) e.1) (enumerate_from n records))
seen_facts c set first n [] = no_facts c
seen_facts c set first n (r ∷ records) = one_fact c _ _ refl (seen_facts c set first (n + 1) records)

placed_facts : (c set : ℕ) (asked : List ℕ) (records : List Record) → AreAbout c (seen_at c set asked records)
placed_facts c set [] records = no_facts c
placed_facts c set (p ∷ ps) [] = no_facts c
placed_facts c set (p ∷ ps) (r ∷ records) = one_fact c _ _ refl (placed_facts c set ps records)

diag_facts : (c set : ℕ) (place : ℤ) (diags : List DiagRec) → AreAbout c (diagnostic_facts c set place diags)
diag_facts c set place [] = no_facts c
diag_facts c set place (d ∷ diags) = one_fact c _ _ refl (diag_facts c set place diags)

count_fact : (c set : ℕ) (status : Bool) (count : ℤ) → fact_target (count_or_failed c set status count) ≡ c
count_fact c set true count = refl
count_fact c set false count = refl

opened_facts : (c : ℕ) (b : Bool) → AreAbout c (cond b [] (Failed c 0 ∷ []))
opened_facts c true = no_facts c
opened_facts c false = one_fact c (Failed c 0) [] refl (no_facts c)

reply_facts : (c set : ℕ) (w : What) (reply : Apdu) → AreAbout c (facts_by c set w reply)
reply_facts c set what.Init (apdus.InitRequest v) = no_facts c
reply_facts c set what.Init (apdus.InitResponse v) = opened_facts c v.result
reply_facts c set what.Init (apdus.SearchRequest v) = no_facts c
reply_facts c set what.Init (apdus.SearchResponse v) = no_facts c
reply_facts c set what.Init (apdus.PresentRequest v) = no_facts c
reply_facts c set what.Init (apdus.PresentResponse v) = no_facts c
reply_facts c set what.Init (apdus.Close v) = no_facts c
reply_facts c set what.Search (apdus.InitRequest v) = no_facts c
reply_facts c set what.Search (apdus.InitResponse v) = no_facts c
reply_facts c set what.Search (apdus.SearchRequest v) = no_facts c
reply_facts c set what.Search (apdus.SearchResponse v) =
    one_fact c _ _ (count_fact c set v.search_status v.result_count)
    (both_facts c _ _ (seen_facts c set (pos 1) 0 (records_in v.records)) (diag_facts c set (pos 0) (diagnostics_in v.records)))
reply_facts c set what.Search (apdus.PresentRequest v) = no_facts c
reply_facts c set what.Search (apdus.PresentResponse v) = no_facts c
reply_facts c set what.Search (apdus.Close v) = no_facts c
reply_facts c set (what.Present ranges) (apdus.InitRequest v) = no_facts c
reply_facts c set (what.Present ranges) (apdus.InitResponse v) = no_facts c
reply_facts c set (what.Present ranges) (apdus.SearchRequest v) = no_facts c
reply_facts c set (what.Present ranges) (apdus.SearchResponse v) = no_facts c
reply_facts c set (what.Present ranges) (apdus.PresentRequest v) = no_facts c
reply_facts c set (what.Present ranges) (apdus.PresentResponse v) =
    both_facts c _ _ (placed_facts c set _ (records_in v.records)) (diag_facts c set _ (diagnostics_in v.records))
reply_facts c set (what.Present ranges) (apdus.Close v) = no_facts c

-- the facts of a connection's answers are about its target
pub facts_about : (c : ℕ) (p : Transcript) (f : Fact) → Contains (facts_at c p) f → fact_target f ≡ c
facts_about c p f h =
    let x = from_answer c (accepted p) f h in
    reply_facts c x.0.asked.set x.0.asked.what x.0.reply f x.2
