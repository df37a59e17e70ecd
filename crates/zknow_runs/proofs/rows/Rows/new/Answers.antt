use Rattle.std.proofs.Common.{◌≡◌, List, [], take, sym, refl, subst, rules, arith}
use Rattle.std.specs.Prelude.{true, Contains}
use Rattle.std.proofs.lemmas.List.{take_all}
use Rattle.zknow_runs.specs.declared.run.Run.{Run}
use Rattle.zknow_runs.specs.RowSteps.{AreSameRuns}
use Rattle.zknow_runs.proofs.BeginTheory.{same_none, same_more, begun}
use Rattle.zknow_runs.proofs.rows.Rows.new.Goals as goal

pub loop-number-init : goal.loop-number-init
loop-number-init c = subst (AreSameRuns []) (sym c.new-waiting.ensures) same_none

pub loop-number-preserved : goal.loop-number-preserved
loop-number-preserved c =
    same_more c.args.runs.now c.loop-number.waiting c.put.new.self c.loop-number.number _ (omega
    (arith, c.loop-number-test.true))
    c.loop-number.invariant c.in_ok-put.ensures.ok

pub returns : goal.returns
returns c = λ s all.
    let taken : take c.loop-number.number c.args.runs.now ≡ c.args.runs.now =
    take_all c.loop-number.number c.args.runs.now (search rules) in (
      [],
      begun s.files (Contains s.known) (s.unknown ≡ true) c.args.taking c.args.runs.now _ refl refl refl c.new.ensures
          refl refl (c.new-2.ensures c.args.taking.form.now)
          (subst (λ (l : List Run). AreSameRuns l c.loop-number.waiting) taken c.loop-number.invariant) all,
    )
