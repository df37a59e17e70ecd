use Rattle.std.proofs.Common.{refl, ◌∙◌}
use Rattle.std.proofs.lemmas.List.{take-set}
use Rattle.zknow_merge.specs.declared.source.Read.TheVariants.{Need, Fault, Element}
use Rattle.zknow_merge.specs.Inputs.{input_at}
use Rattle.zknow_merge.proofs.SourceTheory.{err_any}
use Rattle.zknow_merge.proofs.ReadTheory.{after_is}
use Rattle.zknow_merge.proofs.StepTheory.{step_same, old_read, among_inputs, cut_off}
use Rattle.zknow_merge.proofs.merge.Merge.read.Goals as goal

pub returns-in_err-read-clause-err : goal.returns-in_err-read-clause-err
returns-in_err-read-clause-err c = err_any c.from_residual.result (λ inputs written was.
    step_same inputs written c.args.self.now _ was c.args.k c.requires.among c.index_mut.result.now c.read.new.self c.index_mut.ensures.value refl refl
    c.read.ensures.names c.in_err-read.ensures.step)

pub returns-in-Need-clause-ok : goal.returns-in-Need-clause-ok
returns-in-Need-clause-ok c = λ inputs written was.
    let m = c.args.self.now in
    let after = after_is c.index_mut.result.now c.read.new.self c.in_ok-read.field-0 Need c.in-Need.is c.in_ok-read.ensures.step in (
      step_same inputs written m _ was c.args.k c.requires.among c.index_mut.result.now c.read.new.self c.index_mut.ensures.value refl refl
          c.read.ensures.names (λ merged i r. (after merged i r).0),
      (
        among_inputs inputs written m was c.args.k c.requires.among,
        (after was.merged (input_at inputs c.args.k) (old_read inputs written m was c.args.k c.requires.among c.index_mut.result.now c.index_mut.ensures.value)).1,
      ),
    )

pub returns-in-Element-clause-ok : goal.returns-in-Element-clause-ok
returns-in-Element-clause-ok c = λ inputs written was.
    let after = after_is c.index_mut.result.now c.read.new.self c.in_ok-read.field-0 Element c.in-Element.is c.in_ok-read.ensures.step in (
      step_same inputs written c.args.self.now _ was c.args.k c.requires.among c.index_mut.result.now c.read.new.self c.index_mut.ensures.value refl refl
          c.read.ensures.names after,
      tt,
    )

pub returns-in-Fault-clause-ok : goal.returns-in-Fault-clause-ok
returns-in-Fault-clause-ok c = λ inputs written was.
    let m = c.args.self.now in
    let after = after_is c.index_mut.result.now c.read.new.self c.in_ok-read.field-0 (Fault c.in-Fault.fault) c.in-Fault.is c.in_ok-read.ensures.step in (
      cut_off inputs written m _ was c.args.k c.requires.among c.in-Fault.fault
          (after was.merged (input_at inputs c.args.k) (old_read inputs written m was c.args.k c.requires.among c.index_mut.result.now c.index_mut.ensures.value))
          refl (c.truncate.ensures.items ∙ take-set m.sources.items c.args.k c.read.new.self),
      tt,
    )
