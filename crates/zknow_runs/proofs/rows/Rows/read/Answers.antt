use Rattle.std.proofs.Common.{rules}
use Rattle.zknow_runs.proofs.ExcuseTheory.{unfit_by, unfinished_by, taken_excused}
use Rattle.zknow_runs.proofs.StepTheory.{read_taken}
use Rattle.zknow_runs.proofs.TieTheory.{is_fact_of}
use Rattle.zknow_runs.proofs.rows.Rows.read.Goals as goal

pub take_fact-requires : goal.take_fact-requires
take_fact-requires c = record { fact = is_fact_of c.in-Ok.fact c.in-Ok.ensures.ok.element }

pub returns-in-Ok-clause-holds : goal.returns-in-Ok-clause-holds
returns-in-Ok-clause-holds c =
    read_taken c.args.self.now c.take_fact.new.self c.in-Some.next c.args.octets.now c.in-Ok.fact c.in-Ok.size
    c.take_fact.result c.in-Some.is c.in-Ok.ensures.ok c.take_fact.ensures

pub returns-in-Ok-clause-excused : goal.returns-in-Ok-clause-excused
returns-in-Ok-clause-excused c =
    taken_excused c.args.self.now c.take_fact.new.self c.in-Some.next c.args.octets.now c.in-Ok.fact c.in-Ok.size
    c.take_fact.result c.in-Some.is c.in-Ok.ensures.ok c.take_fact.ensures

pub returns-in-Err-Unfinished-clause-excused : goal.returns-in-Err-Unfinished-clause-excused
returns-in-Err-Unfinished-clause-excused c =
    unfinished_by c.args.self.now c.in-Some.next c.args.octets.now c.in-Err-Unfinished.field-0 c.in-Some.is
    (search rules) c.in-Err-Unfinished.ensures.err

pub returns-in-Err-NotFact-clause-excused : goal.returns-in-Err-NotFact-clause-excused
returns-in-Err-NotFact-clause-excused c =
    unfit_by c.args.self.now c.in-Some.next c.args.octets.now c.in-Err-NotFact.field-0 c.in-Some.is (search rules)
    c.in-Err-NotFact.ensures.err
