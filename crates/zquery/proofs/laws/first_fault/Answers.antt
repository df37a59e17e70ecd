use Rattle.zquery.proofs.NotationTheory.Refusing.{first-fault_left-of}
use Rattle.zquery.proofs.laws.first_fault.Goals as goal

pub returns : goal.returns
returns c = first-fault_left-of
