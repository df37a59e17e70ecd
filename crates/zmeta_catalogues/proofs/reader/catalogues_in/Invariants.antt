use Rattle.zmeta_catalogues.proofs.MemberErrors.{ReadSoFar}
use Rattle.zmeta_catalogues.proofs.reader.catalogues_in.Given as goal

abbrev pub invariant-members : goal.invariant-members
invariant-members l = ReadSoFar l.source.text.now l.top.entries l.name-iterator l.read.items
