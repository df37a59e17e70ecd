use Rattle.std.proofs.Common.{◌+◌, ◌∷◌, [], length, drop, take, sym, subst, ap, inr, arith, length-append, length-drop}
use Rattle.zknow.specs.Saved.Fronts.{IsFrontFault, IsTakenFront}
use Rattle.zknow.specs.Saved.SavedFacts.{saved_fact}
use Rattle.zknow.specs.Saved.Saved.{IsSaved}
use Rattle.zknow.specs.Saved.Loaded.{IsLoadFault}
use Rattle.zknow.proofs.SavedTheory.LoadSteps.{sound_to, later_fault, said_is_fact, above_sorted, sorted_above, added_last, begins_taken, saved_next, taken_some}
use Rattle.zknow.proofs.saved.loading.Loading.load_fact.Goals as goal

pub returns-in-Err-clause-fault : goal.returns-in-Err-clause-fault
returns-in-Err-clause-fault c =
    let s = c.args.self.now in
    let file = c.args.file.now in
    let here = subst (λ l. IsFrontFault saved_fact l c.in-Err.error) c.split_at.ensures.back c.in-Err.ensures.fault in
    subst (IsLoadFault file) (sym c.at.ensures) (later_fault file s.names s.knowledge (drop s.at file) (s.count + 1) c.in-Err.error (sound_to s.names s.knowledge file s.at c.requires.loaded.saved c.requires.more) (ap (λ n. n + 1) c.requires.loaded.count) here)

pub returns-then-not-branch-clause-fault : goal.returns-then-not-branch-clause-fault
returns-then-not-branch-clause-fault c =
    let s = c.args.self.now in
    let file = c.args.file.now in
    let fact = c.in-Ok.taken.0 in
    let size = c.in-Ok.taken.1 in
    let taken = subst (λ l. IsTakenFront saved_fact l fact size) c.split_at.ensures.back c.in-Ok.ensures.taken in
    inr (record {
      names = s.names;
      facts = s.knowledge;
      rest = drop s.at file;
      sound = sound_to s.names s.knowledge file s.at c.requires.loaded.saved c.requires.more;
      place = ap (λ n. n + 1) c.requires.loaded.count;
      fact = fact;
      spelling = take size (drop s.at file);
      after = drop size (drop s.at file);
      begins = begins_taken s.names s.knowledge file s.at c.requires.loaded.saved fact size taken;
      odd = inr (λ sorted. let above = c.in_ok-is_above.ensures.1 (above_sorted s.knowledge fact s.last c.requires.loaded.last sorted) in let not = c.if-not-branch.true in cc);
    })

pub add-requires : goal.add-requires
add-requires c = said_is_fact c.in-Ok.taken.0 c.in-Ok.ensures.taken.element.node c.in-Ok.ensures.taken.element.says

pub returns-clause-ok : goal.returns-clause-ok
returns-clause-ok c =
    let s = c.args.self.now in
    let file = c.args.file.now in
    let fact = c.in-Ok.taken.0 in
    let size = c.in-Ok.taken.1 in
    let taken = subst (λ l. IsTakenFront saved_fact l fact size) c.split_at.ensures.back c.in-Ok.ensures.taken in
    let saved = c.requires.loaded.saved in
    let sorted = sorted_above s.knowledge fact s.last c.requires.loaded.last (c.in_ok-is_above.ensures.0 c.if-not-branch.false) saved.ordered in
    let new_is = added_last s.knowledge fact c.add.new.self c.in_ok-add.ensures.ok c.lawful.ensures.ordered sorted in
    let some = taken_some saved_fact (drop s.at file) fact size taken in
    record {
      within = omega (arith, taken.within, length-drop s.at file, c.requires.more);
      saved = subst (λ l. IsSaved s.names l (take (s.at + size) file)) (sym new_is) (saved_next s.names s.knowledge file s.at saved fact size taken sorted);
      last = (s.knowledge, new_is);
      count = omega (arith, ap length new_is, length-append s.knowledge (fact ∷ []), c.requires.loaded.count);
      some = omega (arith, some, c.requires.loaded.some);
    }
