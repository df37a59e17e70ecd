use Rattle.std.proofs.Common.{List, [], length, refl, sym, subst}
use Rattle.std.proofs.lemmas.List.{append-nil}
use Rattle.zknow_merge.specs.declared.source.Source.{Source}
use Rattle.zknow_merge.specs.Sources.{IsFirstSourceOfOtherNames, AreSame}
use Rattle.zknow_merge.specs.Merges.{ArePutNames}
use Rattle.zknow_merge.proofs.BeginTheory.{all_begun, cut_begun}
use Rattle.zknow_merge.proofs.merge.Merge.begin.Goals as goal

pub returns-in-Some-clause-ok : goal.returns-in-Some-clause-ok
returns-in-Some-clause-ok c = λ inputs written was settled unnamed. record {
  more = [];
  out = sym (append-nil c.args.out.now.items);
  merge = cut_begun inputs written c.args.self.now was settled unnamed c.in-Some.k
      (subst (λ (l : List Source). IsFirstSourceOfOtherNames l c.in-Some.k) c.deref.ensures.value c.in-Some.ensures.some) _ c.truncate.ensures.items refl;
}

pub returns-in_ok-put_names-in-None-clause-ok : goal.returns-in_ok-put_names-in-None-clause-ok
returns-in_ok-put_names-in-None-clause-ok c = λ inputs written was settled unnamed.
    let m = c.args.self.now in
    let p = subst (λ (l : List Source). ArePutNames m.refusal l c.args.out.now.items c.put_names.new.out.items) c.deref-in-None.ensures.value c.in_ok-put_names-in-None.ensures.ok in
    let same = subst (λ (l : List Source). AreSame l (length l)) c.deref.ensures.value c.in-None.ensures.none in
    record {
      more = p.more;
      out = p.out;
      merge = all_begun inputs written m was settled unnamed c.args.out.now.items c.put_names.new.out.items p same;
    }
