use Rattle.std.proofs.Common.{ℕ, ◌<◌, ◌≤◌, ◌^◌, List, length, Result, Ok, Err, IfOk, arith}
use Rattle.ztarget.specs.declared.database.Database.{Database}
use Rattle.ztarget.specs.declared.found.Hit.{Hit}
use Rattle.ztarget.specs.Keeping.{AreAt}
use Rattle.ztarget.specs.Searching.{Found, entries_in}
use Rattle.ztarget.proofs.FewEntries.{few_found}
use Rattle.ztarget.proofs.KeptAt.{as_many}
use Rattle.ztarget.proofs.query.find_hits.Goals as goal

few : {A E : Type 0} (items : A → List Hit) (limit : ℕ) (ds : List Database) (founds : List Found) (r : Result A E)
    → length founds ≤ length (entries_in ds) → length (entries_in ds) < limit → IfOk r (λ x. AreAt ds (items x) founds) → IfOk r (λ x. length (items x) < limit)
few items limit ds founds (Ok x) within low a = omega (arith, as_many ds (items x) founds a, within, low)
few items limit ds founds (Err e) within low a = tt

pub returns-in-Rpn-clause-few : goal.returns-in-Rpn-clause-few
returns-in-Rpn-clause-few c =
    let ds = c.args.databases.now in
    few (λ v. v.items) (2 ^ 32) ds _ c.result_set.result (few_found ds c.as_slice.result.now c.in-Rpn.query.root) c.requires c.result_set.ensures
