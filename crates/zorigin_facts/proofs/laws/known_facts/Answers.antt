use Rattle.zorigin_facts.proofs.KnownFacts.{known_facts}
use Rattle.zorigin_facts.proofs.SpelledRecords.{spelled_records}
use Rattle.zorigin_facts.proofs.laws.known_facts.Goals as goal

pub returns : goal.returns
returns c = λ target answer n showable written. known_facts target answer showable (spelled_records answer.reply n written)
