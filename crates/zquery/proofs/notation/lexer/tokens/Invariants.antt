use Rattle.std.proofs.Common.{length}
use Rattle.zquery.proofs.NotationTheory.TokenLists.{LexedFront}
use Rattle.zquery.proofs.notation.lexer.tokens.Given as goal

abbrev pub invariant-loop-octet : goal.invariant-loop-octet
invariant-loop-octet l = LexedFront l.text l.out.items l.left

abbrev pub decreases-loop-octet : goal.decreases-loop-octet
decreases-loop-octet l = length l.left
