use Rattle.std.proofs.Common.{◌<◌, ◌≤◌, length, refl, arith}
use Rattle.zknow_merge.specs.Inputs.{at_end, input_at}
use Rattle.zknow_merge.proofs.InputTheory.{end_grown}
use Rattle.zknow_merge.proofs.StepTheory.{step_source, late_changed}
use Rattle.zknow_merge.proofs.merge.Merge.end.Goals as goal

pub returns-then-input-len : goal.returns-then-input-len
returns-then-input-len c = λ inputs written was among.
    let lt : c.args.input < length c.args.self.now.sources.items = omega (arith, c.if-input-len.true, c.len.ensures) in
    step_source inputs written c.args.self.now _ was c.args.input lt at_end (end_grown (input_at inputs c.args.input))
    c.index_mut.result.now c.end.new.self c.index_mut.ensures.value refl refl (λ _. c.end.ensures.names) c.end.ensures.ended

pub returns-else-input-len : goal.returns-else-input-len
returns-else-input-len c = λ inputs written was among.
    let late : length c.args.self.now.sources.items ≤ c.args.input = omega (arith, c.if-input-len.false, c.len.ensures) in
    late_changed inputs written c.args.self.now was c.args.input among late at_end (end_grown (input_at inputs c.args.input))
