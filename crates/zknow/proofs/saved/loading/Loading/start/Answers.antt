use Rattle.std.proofs.Common.{[], length, take, sym, subst, ap}
use Rattle.zknow.specs.Saved.SavedFacts.{saved_names}
use Rattle.zknow.specs.Saved.Saved.{IsSaved}
use Rattle.zknow.proofs.SavedTheory.LoadSteps.{saved_first, taken_some}
use Rattle.zknow.proofs.saved.loading.Loading.start.Goals as goal

pub returns-in-Ok-clause-ok : goal.returns-in-Ok-clause-ok
returns-in-Ok-clause-ok c =
    let file = c.args.file.now in
    let size = c.in-Ok.at in
    let first = saved_first file c.in-Ok.names size c.in-Ok.ensures.taken in
    let named = subst (λ n. IsSaved n [] (take size file)) (sym c.into_names.ensures) first in
    record {
      within = c.in-Ok.ensures.taken.within;
      saved = subst (λ l. IsSaved c.into_names.result l (take size file)) (sym c.new.ensures) named;
      last = c.new.ensures;
      count = sym (ap length c.new.ensures);
      some = taken_some saved_names file c.in-Ok.names size c.in-Ok.ensures.taken;
    }
