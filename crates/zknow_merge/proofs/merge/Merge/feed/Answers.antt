use Rattle.std.proofs.Common.{◌<◌, ◌≤◌, length, refl, arith}
use Rattle.zknow_merge.specs.Inputs.{fed, input_at}
use Rattle.zknow_merge.proofs.InputTheory.{fed_grown}
use Rattle.zknow_merge.proofs.SourceTheory.{on_ok, on_err}
use Rattle.zknow_merge.proofs.StepTheory.{step_source, step_same, late_changed}
use Rattle.zknow_merge.proofs.merge.Merge.feed.Goals as goal

pub returns-then-input-len-clause-ok : goal.returns-then-input-len-clause-ok
returns-then-input-len-clause-ok c =
    let lt : c.args.input < length c.args.self.now.sources.items = omega (arith, c.if-input-len.true, c.len.ensures) in
    on_ok c.feed.result
    (λ reads inputs written was among. step_source inputs written c.args.self.now _ was c.args.input lt (fed c.args.piece.now) (fed_grown c.args.piece.now (input_at inputs c.args.input))
    c.index_mut.result.now c.feed.new.self c.index_mut.ensures.value refl refl (λ _. c.feed.ensures.names) reads)
    c.feed.ensures.ok

pub returns-then-input-len-clause-err : goal.returns-then-input-len-clause-err
returns-then-input-len-clause-err c =
    let lt : c.args.input < length c.args.self.now.sources.items = omega (arith, c.if-input-len.true, c.len.ensures) in
    on_err c.feed.result
    (λ reads inputs written was. step_same inputs written c.args.self.now _ was c.args.input lt
    c.index_mut.result.now c.feed.new.self c.index_mut.ensures.value refl refl (λ _. c.feed.ensures.names) reads)
    c.feed.ensures.err

pub returns-clause-ok : goal.returns-clause-ok
returns-clause-ok c = λ inputs written was among.
    let late : length c.args.self.now.sources.items ≤ c.args.input = omega (arith, c.if-input-len.false, c.len.ensures) in
    late_changed inputs written c.args.self.now was c.args.input among late (fed c.args.piece.now) (fed_grown c.args.piece.now (input_at inputs c.args.input))
