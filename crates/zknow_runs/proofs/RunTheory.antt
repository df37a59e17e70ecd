-- A record goes on with a run, or begins one.
use Rattle.std.proofs.Common.{◌≡◌, ◌≤ℤ◌, ℕ, ℤ, List, [], ◌∷◌, ◌++◌, Option, Some, None, refl, sym, ap, subst, ◌∙◌, append_assoc}
use Rattle.std.specs.Prelude.{Result, Ok, Err, OnErr}
use Rattle.std.proofs.lemmas.List.{append-nil}
use Rattle.std.proofs.lemmas.Grind.{flat_map-append}
use Rattle.zknow_runs.specs.declared.run.OpenEnd.{OpenEnd}
use Rattle.zknow_runs.specs.declared.run.Run.{Run}
use Rattle.zknow_runs.specs.declared.run.RunList.{RunList}
use Rattle.zknow_runs.specs.Runs.{AreBetween, DoNotFall, BeginsAt, IsRunOf, AreRunsOf, all_of, AreAllRuns, GoesOn, IsEndOf, HoldsRuns}

pub err_any : {T E : Type 0} {P : Type 0} (r : Result T E) → P → OnErr r P
err_any (Ok x) h = tt
err_any (Err e) h = h

-- ---- one run

between_push : (file begin end : ℕ) (ps : List Run) (p : Run) → AreBetween file begin end ps → end ≡ p.begin
    → file ≡ p.file → AreBetween file begin p.end (ps ++ p ∷ [])
between_push file begin end [] p is at in_file = (sym in_file, sym at ∙ sym is, refl)
between_push file begin end (q ∷ ps) p is at in_file =
    (is.0, is.1, between_push file q.end end ps p is.2 at in_file)

fall_push : (front : List Run) (q p : Run) → DoNotFall (front ++ q ∷ []) → q.position ≤ℤ p.position
    → DoNotFall ((front ++ q ∷ []) ++ p ∷ [])
fall_push [] q p rise above = (above, tt)
fall_push (x ∷ []) q p rise above = (rise.0, (above, tt))
fall_push (x ∷ y ∷ front) q p rise above = (rise.0, fall_push (y ∷ front) q p rise.1 above)

first_push : (position : ℤ) (ps : List Run) (p : Run) → BeginsAt position ps → BeginsAt position (ps ++ p ∷ [])
first_push position [] p first = absurd first
first_push position (q ∷ ps) p first = first

one_run : (r : Run) → IsRunOf r (r ∷ [])
one_run r = record { first = refl; between = (refl, refl, refl); rise = tt }

-- ---- several runs

runs_push : (rs : List Run) (parts : List (List Run)) (r : Run) (part : List Run) → AreRunsOf rs parts
    → IsRunOf r part → AreRunsOf (rs ++ r ∷ []) (parts ++ part ∷ [])
runs_push [] [] r part are is = (is, tt)
runs_push [] (p ∷ ps) r part are is = absurd are
runs_push (q ∷ rs) [] r part are is = absurd are
runs_push (q ∷ rs) (p ∷ ps) r part are is = (are.0, runs_push rs ps r part are.1 is)

all_push : (parts : List (List Run)) (part : List Run) → all_of (parts ++ part ∷ []) ≡ all_of parts ++ part
all_push parts part =
    flat_map-append (λ p. p) parts (part ∷ []) ∙ ap (λ (l : List Run). all_of parts ++ l) (append-nil part)

-- ---- a record is put

pub first_put : (l : RunList) (r : Run) → l.last ≡ None → (records : List Run) → HoldsRuns records l
    → HoldsRuns (records ++ r ∷ []) (record l { last = Some (record { run = r; last = r }) })
first_put l r none records h =
    let empty : h.last ≡ [] = subst (λ (o : Option OpenEnd). IsEndOf o h.last) none h.end in
    record {
      parts = h.parts;
      last = r ∷ [];
      closed = h.closed;
      end = (one_run r, ([], refl));
      all = ap (λ (ps : List Run). ps ++ r ∷ [])
          (h.all ∙ ap (λ (ps : List Run). all_of h.parts ++ ps) empty ∙ append-nil (all_of h.parts));
    }

module _ (l : RunList) (o : OpenEnd) (p : Run) (open_now : l.last ≡ Some o) where
  end_of : (records : List Run) (h : HoldsRuns records l) → IsEndOf (Some o) h.last
  end_of records h = subst (λ (e : Option OpenEnd). IsEndOf e h.last) open_now h.end

  pub put_on : GoesOn o p → (records : List Run) → HoldsRuns records l → HoldsRuns (records ++ p ∷ [])
      (record l { last = Some (record { run = record o.run { end = p.end }; last = p }) })
  put_on on records h =
      let e = end_of records h in
      let run = e.0 in
      let front : List Run = e.1.0 in
      let q : Run = o.last in
      let is : h.last ≡ front ++ q ∷ [] = e.1.1 in
      let rise : DoNotFall (front ++ q ∷ []) = subst DoNotFall is run.rise in
      record {
        parts = h.parts;
        last = h.last ++ p ∷ [];
        closed = h.closed;
        end = (
          record {
            first = first_push o.run.position h.last p run.first;
            between = between_push o.run.file o.run.begin o.run.end h.last p run.between on.behind on.file;
            rise = subst (λ (ps : List Run). DoNotFall (ps ++ p ∷ [])) (sym is) (fall_push front q p rise on.above);
          },
          (h.last, refl),
        );
        all = ap (λ (ps : List Run). ps ++ p ∷ []) h.all ∙ append_assoc (all_of h.parts) h.last (p ∷ []);
      }

  pub put_new : (closed : List Run) → closed ≡ l.closed.items ++ o.run ∷ [] → (records : List Run)
      → HoldsRuns records l → (m : RunList) → m.closed.items ≡ closed
      → m.last ≡ Some (record { run = p; last = p }) → HoldsRuns (records ++ p ∷ []) m
  put_new closed pushed records h m is_closed is_last =
      let e = end_of records h in
      record {
        parts = h.parts ++ h.last ∷ [];
        last = p ∷ [];
        closed = subst (λ (rs : List Run). AreRunsOf rs (h.parts ++ h.last ∷ [])) (sym (is_closed ∙ pushed))
            (runs_push l.closed.items h.parts o.run h.last h.closed e.0);
        end = subst (λ (z : Option OpenEnd). IsEndOf z (p ∷ [])) (sym is_last)
            (one_run p, ([], refl));
        all = ap (λ (ps : List Run). ps ++ p ∷ []) (h.all ∙ sym (all_push h.parts h.last));
      }

-- ---- all are put

pub finished_none : (l : RunList) → l.last ≡ None → (records : List Run) → HoldsRuns records l
    → AreAllRuns l.closed.items records
finished_none l none records h =
    let empty : h.last ≡ [] = subst (λ (o : Option OpenEnd). IsEndOf o h.last) none h.end in
    (h.parts, h.closed, h.all ∙ ap (λ (ps : List Run). all_of h.parts ++ ps) empty ∙ append-nil (all_of h.parts))

pub finished_some : (l : RunList) (o : OpenEnd) (runs : List Run) → l.last ≡ Some o
    → runs ≡ l.closed.items ++ o.run ∷ [] → (records : List Run) → HoldsRuns records l → AreAllRuns runs records
finished_some l o runs some pushed records h =
    let e = subst (λ (z : Option OpenEnd). IsEndOf z h.last) some h.end in (
      h.parts ++ h.last ∷ [],
      subst (λ (rs : List Run). AreRunsOf rs (h.parts ++ h.last ∷ [])) (sym pushed)
          (runs_push l.closed.items h.parts o.run h.last h.closed e.0),
      h.all ∙ sym (all_push h.parts h.last),
    )

-- ---- nothing was put

pub held : (l m : RunList) → m.closed.items ≡ l.closed.items → m.last ≡ l.last → (records : List Run)
    → HoldsRuns records l → HoldsRuns records m
held l m closed last records h = record {
  parts = h.parts;
  last = h.last;
  closed = subst (λ (rs : List Run). AreRunsOf rs h.parts) (sym closed) h.closed;
  end = subst (λ (o : Option OpenEnd). IsEndOf o h.last) (sym last) h.end;
  all = h.all;
}
