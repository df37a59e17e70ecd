use Rattle.std.proofs.Common.{List, ℕ, [], ◌++◌, Some, refl, sym, ap, subst, ◌∙◌}
use Rattle.std.proofs.lemmas.List.{append-nil}
use Rattle.zknow_merge.specs.declared.source.Source.{Source}
use Rattle.zknow_merge.specs.Sources.{IsElementOption}
use Rattle.zknow_merge.specs.Merges.{IsHeadElement, IsNextElement, shown}
use Rattle.zknow_merge.proofs.StepTheory.{same_reads}
use Rattle.zknow_merge.proofs.PassTheory.{pass_skipped, pass_written}
use Rattle.zknow_merge.proofs.merge.Merge.merge.Goals as goal

pub returns-in-None-clause-ok : goal.returns-in-None-clause-ok
returns-in-None-clause-ok c = λ inputs written was settled named least.
    let m = c.args.self.now in
    let next = subst (IsNextElement m.last c.index.result.now) c.in-None.is c.in_ok-next_element.ensures in
    let same = same_reads m.sources.items c.args.k c.requires.among c.index.result.now c.index_mut.result.now c.index.ensures c.index_mut.ensures.value in
    record {
      more = [];
      out = sym (append-nil c.args.out.now.items);
      merge = pass_skipped inputs written m was settled named c.args.k least c.index_mut.result.now c.index_mut.ensures.value _ refl refl named
          (subst (λ (s : Source). (octets : List ℕ) → IsHeadElement s.last octets → IsElementOption m.last octets) same next) refl;
    }

pub returns-in_ok-put_element-in-Some-clause-ok : goal.returns-in_ok-put_element-in-Some-clause-ok
returns-in_ok-put_element-in-Some-clause-ok c = λ inputs written was settled named least.
    let m = c.args.self.now in
    let e = c.in-Some.element in
    let next = subst (IsNextElement m.last c.index.result.now) c.in-Some.is c.in_ok-next_element.ensures in
    let same = same_reads m.sources.items c.args.k c.requires.among c.index.result.now c.index_mut-in-Some.result.now c.index.ensures c.index_mut-in-Some.ensures.value in
    record {
      more = shown m.refusal e.items;
      out = c.in_ok-put_element-in-Some.ensures.ok ∙ ap (λ (l : List ℕ). c.args.out.now.items ++ shown m.refusal l) c.as_slice.ensures.value;
      merge = pass_written inputs written m was settled named c.args.k least c.index_mut-in-Some.result.now c.index_mut-in-Some.ensures.value _ refl refl named
          e (subst (λ (s : Source). IsNextElement m.last s (Some e)) same next) refl;
    }
