use Rattle.std.proofs.Common.{◌∙◌, ap, refl, ◌+◌, ◌++◌, drop}
use Rattle.std.proofs.lemmas.Option.{slice_get_read}
use Rattle.ztarget.specs.Keeping.{databases_of}
use Rattle.ztarget.specs.Searching.{called}
use Rattle.ztarget.proofs.OnceNamed.{called_more}
use Rattle.ztarget.proofs.searched_databases.put_called.Goals as goal

pub loop-number-preserved : goal.loop-number-preserved
loop-number-preserved c =
    let ds = c.args.databases.now in
    let i = c.loop-number.number in
    let d = c.index-databases-number.result in
    record {
      called =
          ap (λ l. l ++ called (drop (i + 1) ds) c.args.name.now) c.in_ok-put_if_called.ensures.called
          ∙ called_more ds c.args.name.now i d c.loop-number-test.true c.index-databases-number.is (databases_of c.loop-number.out.items)
          ∙ c.loop-number.invariant.called;
      numbered = λ all. c.in_ok-put_if_called.ensures.numbered ds (slice_get_read ds _ i d refl c.loop-number-test.true c.index-databases-number.is) (c.loop-number.invariant.numbered all);
    }
