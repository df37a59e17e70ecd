use Rattle.zber.proofs.Shortest.{identifier_only, shortest_length, definite_is_spelling, canonical_is_definite, shortest_spelling, shortest_within}
use Rattle.zber.proofs.laws.shortest_laws.Goals as goal

pub returns : goal.returns
returns c = record {
  one_identifier = λ n c xs f. identifier_only f;
  shortest_length = λ n xs f o. shortest_length f o;
  definite_is_spelling = λ room e xs f. definite_is_spelling f;
  canonical_is_definite = canonical_is_definite;
  shortest_spelling = λ room e xs f o. shortest_spelling f o;
  shortest_within = λ room e xs f o small. shortest_within f o small;
}
