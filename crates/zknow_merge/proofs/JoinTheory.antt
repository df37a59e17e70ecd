-- Files have one join, whatever their order, repetition and grouping.
use Rattle.std.proofs.Common.{◌≡◌, ℕ, List, [], ◌∷◌, ◌++◌, sym, ap, subst, ◌∙◌, ⊎_elim}
use Rattle.std.specs.Prelude.{◌↔◌, Contains}
use Rattle.std.proofs.lemmas.List.Elements.{Contains-append_cases, Contains-append_left, Contains-append_right}
use Rattle.zknow.specs.declared.fact.Fact.{Fact}
use Rattle.zknow.specs.Facts.{fact_cmp}
use Rattle.zknow.specs.FactLaws.{fact_total}
use Rattle.zknow.specs.Saved.Saved.{saved, IsSaved}
use Rattle.zknow.specs.Tables.DistinctLaws.{none_in_nil, in_cons, in_head, in_tail, same_sorted}
use Rattle.zknow.proofs.SavedTheory.LoadExact.{saved_once}
use Rattle.zknow_merge.specs.Joins.{HasNames, IsFactIn, IsJoin}
use Rattle.zknow_merge.specs.Laws.{JoinLaws}

-- a fact of a saved file is one of its facts
of_file : (names others : List (List ℕ)) (facts more : List Fact) (file : List ℕ) (f : Fact) → IsSaved names facts file → IsSaved others more file → Contains facts f → Contains more f
of_file names others facts more file f is of_others here =
    subst (λ (l : List Fact). Contains l f) (saved_once file names others facts more is of_others).1 here

fact_among : (files others : List (List ℕ)) (f : Fact) → ((file : List ℕ) → Contains files file → Contains others file) → IsFactIn files f → IsFactIn others f
fact_among files others f sub h = record {
  file = h.file;
  among = sub h.file h.among;
  names = h.names;
  facts = h.facts;
  saved = h.saved;
  has = h.has;
}

one_join : (files : List (List ℕ)) (a b : List ℕ) → IsJoin files a → IsJoin files b → a ≡ b
one_join files a b of_a of_b =
    let x = of_a.each of_a.some.0 of_a.some.1 in
    let y = of_b.each of_a.some.0 of_a.some.1 in
    let names : of_a.names ≡ of_b.names = (saved_once of_a.some.0 of_a.names of_b.names x.0 y.0 x.1 y.1).0 in
    let facts : of_a.facts ≡ of_b.facts =
    same_sorted fact_cmp fact_total of_a.facts of_b.facts of_a.saved.ordered of_b.saved.ordered
    (λ f. (λ h. (of_b.union f).1 ((of_a.union f).0 h), λ h. (of_a.union f).1 ((of_b.union f).0 h))) in
    of_a.saved.octets ∙ ap (λ (n : List (List ℕ)). saved n of_a.facts) names
    ∙ ap (λ (l : List Fact). saved of_b.names l) facts ∙ sym of_b.saved.octets

reordered : (files others : List (List ℕ)) (a : List ℕ) → ((file : List ℕ) → Contains files file ↔ Contains others file) → IsJoin files a → IsJoin others a
reordered files others a same of_a = record {
  names = of_a.names;
  facts = of_a.facts;
  saved = of_a.saved;
  some = (of_a.some.0, (same of_a.some.0).0 of_a.some.1);
  each = λ file here. of_a.each file ((same file).1 here);
  union = λ f. (
    λ h. fact_among files others f (λ file. (same file).0) ((of_a.union f).0 h),
    λ h. (of_a.union f).1 (fact_among others files f (λ file. (same file).1) h),
  );
}

only : (a b : List ℕ) → Contains (a ∷ []) b → a ≡ b
only a b here = ⊎_elim (λ same. same) (λ never. absurd (none_in_nil b never)) (in_cons a [] b here)

alone : (names : List (List ℕ)) (facts : List Fact) (file : List ℕ) → IsSaved names facts file → IsJoin (file ∷ []) file
alone names facts file is = record {
  names = names;
  facts = facts;
  saved = is;
  some = (file, in_head file []);
  each = λ other here. (facts, subst (IsSaved names facts) (only file other here) is);
  union = λ f. (
    λ h. record { file = file; among = in_head file []; names = names; facts = facts; saved = is; has = h },
    λ h. of_file h.names names h.facts facts file f (subst (IsSaved h.names h.facts) (sym (only file h.file h.among)) h.saved) is h.has,
  );
}

module _ (files others : List (List ℕ)) (a b : List ℕ) (of_a : IsJoin files a) (of_b : IsJoin (a ∷ others) b) where
  inner : HasNames of_b.names a
  inner = of_b.each a (in_head a others)

  names_same : of_a.names ≡ of_b.names
  names_same = (saved_once a of_a.names of_b.names of_a.facts inner.0 of_a.saved inner.1).0

  from_inner : (f : Fact) → IsFactIn (a ∷ others) f → IsFactIn (files ++ others) f
  from_inner f h = ⊎_elim
      (λ same.
      let here = of_file h.names of_a.names h.facts of_a.facts a f (subst (IsSaved h.names h.facts) (sym same) h.saved) of_a.saved h.has in
      fact_among files (files ++ others) f (λ file. Contains-append_left files others file) ((of_a.union f).0 here))
      (λ later. record {
        file = h.file;
        among = Contains-append_right files others h.file later;
        names = h.names;
        facts = h.facts;
        saved = h.saved;
        has = h.has;
      })
      (in_cons a others h.file h.among)

  to_inner : (f : Fact) → IsFactIn (files ++ others) f → IsFactIn (a ∷ others) f
  to_inner f h = ⊎_elim
      (λ first. record {
        file = a;
        among = in_head a others;
        names = of_a.names;
        facts = of_a.facts;
        saved = of_a.saved;
        has = (of_a.union f).1 (record { file = h.file; among = first; names = h.names; facts = h.facts; saved = h.saved; has = h.has });
      })
      (λ later. record {
        file = h.file;
        among = in_tail a others h.file later;
        names = h.names;
        facts = h.facts;
        saved = h.saved;
        has = h.has;
      })
      (Contains-append_cases files others h.file h.among)

  nested : IsJoin (files ++ others) b
  nested = record {
    names = of_b.names;
    facts = of_b.facts;
    saved = of_b.saved;
    some = (of_a.some.0, Contains-append_left files others of_a.some.0 of_a.some.1);
    each = λ file here. ⊎_elim
        (λ first. subst (λ (n : List (List ℕ)). HasNames n file) names_same (of_a.each file first))
        (λ later. of_b.each file (in_tail a others file later))
        (Contains-append_cases files others file here);
    union = λ f. (λ h. from_inner f ((of_b.union f).0 h), λ h. (of_b.union f).1 (to_inner f h));
  }

pub join_laws : JoinLaws
join_laws = record { one = one_join; order = reordered; alone = alone; nested = nested }
