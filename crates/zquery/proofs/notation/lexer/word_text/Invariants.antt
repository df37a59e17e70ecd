use Rattle.std.proofs.Common.{◌≡◌, ◌++◌, length, false}
use Rattle.zquery.specs.Notation.Tokens.{AllAre, is_white}
use Rattle.zquery.proofs.notation.lexer.word_text.Given as goal

abbrev pub invariant-loop-octet : goal.invariant-loop-octet
invariant-loop-octet l = record {
  whole : l.octets ≡ l.text.items ++ l.left;
  word : AllAre is_white false l.text.items;
}

abbrev pub decreases-loop-octet : goal.decreases-loop-octet
decreases-loop-octet l = length l.left
