-- The records by position before any was read.
use Rattle.std.proofs.Common.{◌≡◌, ◌⊎◌, ◌↔◌, ◌+◌, ◌<◌, ◌≤ℤ◌, ℕ, ℤ, List, [], ◌∷◌, ◌++◌, length, take, get_or, Option, None, sym, ap, append-nil, subst, ◌∙◌, inl, inr, ⊎_elim}
use Rattle.std.proofs.lemmas.List.{take_more}
use Rattle.std.proofs.lemmas.List.Elements.{Contains-append_left, Contains-append_right, Contains-append_cases, Contains-push_cases, Contains-push}
use Rattle.std.specs.Prelude.{Contains, IfSome}
use Rattle.zknow.specs.declared.fact.Fact.{Fact}
use Rattle.zknow.specs.Facts.{AreFacts}
use Rattle.zknow.specs.Tables.DistinctLaws.{none_in_nil, in_cons, in_head, in_tail}
use Rattle.zknow_forms.specs.Forms.{IsTold}
use Rattle.zknow_forms.proofs.FormTheory.{form_laws_hold}
use Rattle.zknow_runs.proofs.UnionTheory.{no_facts}
use Rattle.zknow_runs.specs.declared.rows.Next.{Next}
use Rattle.zknow_runs.specs.declared.rows.Rows.{Rows}
use Rattle.zknow_runs.specs.declared.rows.Taking.{Taking}
use Rattle.zknow_runs.specs.declared.run.Run.{Run}
use Rattle.zknow_runs.specs.OpenRuns.{IsPutAmong}
use Rattle.zknow_runs.specs.RowSteps.{AreSameRuns}
use Rattle.zknow_runs.specs.Rows.{AreAllWanted, next_run, left_runs, kept_octets, HoldsRows}

-- ---- runs are put

pub put_cases : (old new : List Run) (run r : Run) → IsPutAmong old new run → Contains new r ↔ (Contains old r ⊎
    (run ≡ r))
put_cases old new run r put = (
  λ here. ⊎_elim
      (λ early. inl (subst (λ (l : List Run). Contains l r) (sym put.was)
      (Contains-append_left put.before put.after r early)))
      (λ late. ⊎_elim inr
      (λ behind. inl (subst (λ (l : List Run). Contains l r) (sym put.was)
      (Contains-append_right put.before put.after r behind)))
      (in_cons run put.after r late))
      (Contains-append_cases put.before (run ∷ put.after) r (subst (λ (l : List Run). Contains l r) put.is here)),
  λ one. subst (λ (l : List Run). Contains l r) (sym put.is) (⊎_elim
      (λ had. ⊎_elim
      (λ early. Contains-append_left put.before (run ∷ put.after) r early)
      (λ late. Contains-append_right put.before (run ∷ put.after) r (in_tail run put.after r late))
      (Contains-append_cases put.before put.after r (subst (λ (l : List Run). Contains l r) put.was had)))
      (λ same. subst (Contains (put.before ++ run ∷ put.after)) same
      (Contains-append_right put.before (run ∷ put.after) run (in_head run put.after)))
      one),
)

pub same_none : AreSameRuns [] []
same_none r = (λ here. here, λ here. here)

pub same_more : (runs waiting more : List Run) (i : ℕ) (d : Run) → i < length runs → AreSameRuns (take i runs) waiting
    → IsPutAmong waiting more (get_or runs i d) → AreSameRuns (take (i + 1) runs) more
same_more runs waiting more i d lt same put r =
    let run : Run = get_or runs i d in
    let taken : take (i + 1) runs ≡ take i runs ++ run ∷ [] = take_more runs i d lt in (
      λ here. (put_cases waiting more run r put).1 (⊎_elim
          (λ early. inl ((same r).0 early)) inr
          (Contains-push_cases (take i runs) run r (subst (λ (l : List Run). Contains l r) taken here))),
      λ here. subst (λ (l : List Run). Contains l r) (sym taken) (⊎_elim
          (λ had. Contains-append_left (take i runs) (run ∷ []) r ((same r).1 had))
          (λ one. subst (Contains (take i runs ++ run ∷ [])) one (Contains-push (take i runs) run))
          ((put_cases waiting more run r put).0 here)),
    )

-- ---- nothing was read

pub begun : (files : ℕ → Option (List ℕ)) (wanted : Fact → Type 0) (unknown : Type 0) (t : Taking) (runs : List Run)
    (rows : Rows) → rows.chosen ≡ t.chosen → rows.form ≡ t.form → rows.next ≡ None → rows.gathered ≡ []
    → rows.position ≡ None
    → kept_octets rows ≡ t.head.items → IsTold t.form.now [] rows.tally → AreSameRuns runs rows.runs
    → AreAllWanted files wanted unknown runs
    → HoldsRows files wanted unknown t [] [] rows
begun files wanted unknown t runs rows chosen form next gathered position octets told same all =
    let nothing : (f : Fact) → Contains rows.gathered f → ⊥ = λ f here. none_in_nil f (subst
    (λ (l : List Fact). Contains l f) gathered here) in
    record {
      chosen = chosen;
      form = form;
      low_facts = no_facts;
      gathered_facts = subst AreFacts (sym gathered) no_facts;
      complete = λ f is. let one = all.complete f is in inr (inr (one.0, back one.0 one.1, one.2));
      sound = λ f here. ⊎_elim (λ none. absurd (none_in_nil f none)) (λ none. absurd (nothing f none)) here;
      covered = λ r here. all.covered r (there r here);
      some = λ r here. all.some r (there r here);
      first = λ r here. all.first r ((same r).1 here);
      due = λ n is due. absurd cc;
      below = λ f none. absurd (none_in_nil f none);
      at = λ f none. absurd (nothing f none);
      above = λ r here. subst (λ (o : Option ℤ). IfSome o (λ q. q ≤ℤ r.position)) (sym position) tt;
      least = λ n r is due here. absurd cc;
      written =
          octets
          ∙ sym (append-nil t.head.items)
          ∙ ap (λ (l : List ℕ). t.head.items ++ l) (sym (form_laws_hold.empty t.form.now).text);
      told = told;
    }
  where
    left_is : left_runs rows ≡ rows.runs
    left_is = ap (λ (n : Option Next). next_run n ++ rows.runs) next

    there : (r : Run) → Contains (left_runs rows) r → Contains runs r
    there r here = (same r).1 (subst (λ (l : List Run). Contains l r) left_is here)

    back : (r : Run) → Contains runs r → Contains (left_runs rows) r
    back r here = subst (λ (l : List Run). Contains l r) (sym left_is) ((same r).0 here)
