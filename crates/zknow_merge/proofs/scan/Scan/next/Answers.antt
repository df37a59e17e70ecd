use Rattle.zknow_merge.specs.declared.source.Read.TheVariants.{Need, Fault}
use Rattle.zknow_merge.proofs.SourceTheory.{err_any}
use Rattle.zknow_merge.proofs.ScanTheory.{scan_done, read_is}
use Rattle.zknow_merge.proofs.scan.Scan.next.Goals as goal

pub returns-then-not-is_wanting-clause-ok : goal.returns-then-not-is_wanting-clause-ok
returns-then-not-is_wanting-clause-ok c =
    scan_done c.args.self.now
    (λ wants. let a = c.is_wanting.ensures.1 wants in let b = c.if-not-is_wanting.true in absurd cc)

pub returns-in-Need-clause-ok : goal.returns-in-Need-clause-ok
returns-in-Need-clause-ok c =
    read_is c.args.self.now c.read.new.self c.in_ok-read.field-0 Need c.in-Need.is c.in_ok-read.ensures.ok

pub returns-in-Fault-clause-ok : goal.returns-in-Fault-clause-ok
returns-in-Fault-clause-ok c =
    read_is c.args.self.now c.read.new.self c.in_ok-read.field-0 (Fault c.in-Fault.fault) c.in-Fault.is
    c.in_ok-read.ensures.ok

pub returns-in_err-read-clause-err : goal.returns-in_err-read-clause-err
returns-in_err-read-clause-err c = err_any c.from_residual.result c.in_err-read.ensures.err
