-- What was noticed of hosts, entry by entry.
use Rattle.std.proofs.Common.{◌≡◌, refl, sym, ◌∙◌, ap, subst, ℕ, suc, ◌<◌, ◌==◌, cond, Bool, true, false, List, [], ◌∷◌, ◌++◌, length, get_or, set, replicate, inl, inr, arith}
use Rattle.std.proofs.lemmas.Bool.{cond-true, cond-false, eq-eqb, ne_eqb, cases_eq}
use Rattle.std.proofs.lemmas.List.{get_or-set_same, get_or-set_other, get_or-replicate, length-set, length-replicate}
use Rattle.zoom_trace.specs.declared.entry.Traced.{Traced}
use Rattle.zoom_trace.specs.declared.entry.Traced.TheVariants as traced
use Rattle.zoom_trace.specs.declared.entry.TraceEntry.{TraceEntry}
use Rattle.zoom_trace.specs.declared.notice.Notice.{Notice}
use Rattle.zoom_trace.specs.declared.notice.Notice.TheVariants.{Nothing}
use Rattle.zoom_trace.specs.Notices.{noticed_with, noticed_after, IsNotedWith, AreNotices}

-- a notice was put into its place
pub noted : (d : ℕ) (notice : Notice) (old new : List Notice) → new ≡ set old d notice
    → IsNotedWith (traced.Noticed d notice) old new
noted d notice old new e = record {
  size = ap length e ∙ length-set old d notice;
  each = λ c within. ap (λ (xs : List Notice). get_or xs c Nothing) e
      ∙ elim (cases_eq c d) [
        | inl same ↦
            (rw same (get_or-set_same old d notice Nothing (subst (λ k. k < length old) same within)))
            ∙ sym (cond-true (d == c) notice (get_or old c Nothing) (eq-eqb d c (sym same)))
        | inr other ↦
            get_or-set_other old d c notice Nothing other
            ∙ sym (cond-false (d == c) notice (get_or old c Nothing) (ne_eqb d c (λ s. other (sym s))))
      ];
}

-- nothing is noticed of so many hosts
pub none_noticed : (count : ℕ) (noticed : List Notice) → noticed ≡ replicate count Nothing → AreNotices count [] noticed
none_noticed count noticed e = record {
  size = ap length e ∙ length-replicate count Nothing;
  each = λ c within. ap (λ (xs : List Notice). get_or xs c Nothing) e ∙ get_or-replicate count c Nothing Nothing within;
}

after_more : (c : ℕ) (es : List TraceEntry) (e : TraceEntry) (before : Notice)
    → noticed_after c (es ++ e ∷ []) before ≡ noticed_with c e.what (noticed_after c es before)
after_more c [] e before = refl
after_more c (x ∷ xs) e before = after_more c xs e (noticed_with c x.what before)

-- one entry more was noted
pub more_noticed : (count : ℕ) (es more : List TraceEntry) (e : TraceEntry) (old new : List Notice)
    → more ≡ es ++ e ∷ [] → AreNotices count es old → IsNotedWith e.what old new → AreNotices count more new
more_noticed count es more e old new m a n = record {
  size = n.size ∙ a.size;
  each = λ c within.
      n.each c (subst (λ k. c < k) (sym a.size) within)
      ∙ ap (noticed_with c e.what) (a.each c within)
      ∙ sym (after_more c es e Nothing)
      ∙ sym (ap (λ (xs : List TraceEntry). noticed_after c xs Nothing) m);
}
