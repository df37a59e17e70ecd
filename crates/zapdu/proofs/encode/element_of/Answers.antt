use Rattle.zapdu.proofs.Written.{place_written}
use Rattle.zapdu.proofs.encode.element_of.Goals as goal

pub returns-clause-written : goal.returns-clause-written
returns-clause-written g c = place_written g.T.Tagged.place c.args.value.now c.to_element.result c.to_element.ensures
