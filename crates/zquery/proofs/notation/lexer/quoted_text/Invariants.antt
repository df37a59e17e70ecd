use Rattle.std.proofs.Common.{length}
use Rattle.zquery.proofs.NotationTheory.Quoting.{QuotedPieces}
use Rattle.zquery.proofs.notation.lexer.quoted_text.Given as goal

abbrev pub invariant-loop-octet : goal.invariant-loop-octet
invariant-loop-octet l = QuotedPieces l.octets l.text.items l.left

abbrev pub decreases-loop-octet : goal.decreases-loop-octet
decreases-loop-octet l = length l.left
