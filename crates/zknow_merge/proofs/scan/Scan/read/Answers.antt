use Rattle.zknow_merge.proofs.ScanTheory.{read_ok, read_err}
use Rattle.zknow_merge.proofs.scan.Scan.read.Goals as goal

pub returns-clause-ok : goal.returns-clause-ok
returns-clause-ok c =
    read_ok c.args.self.now c.read-read.new.self c.read-read.result c.read-read.ensures.step c.read-read.ensures.names c.read-read.ensures.first
    c.read-read.ensures.next c.read-read.ensures.still

pub returns-clause-err : goal.returns-clause-err
returns-clause-err c =
    read_err c.args.self.now c.read-read.new.self c.read-read.result c.read-read.ensures.step c.read-read.ensures.names c.read-read.ensures.still
