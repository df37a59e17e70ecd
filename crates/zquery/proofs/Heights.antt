-- No tree has height 0.
use Rattle.std.proofs.Common.{◌≡◌, sym, ℕ, ◌<◌, false, nat_le, arith}
use Rattle.std.proofs.lemmas.Bool.{lt-leb}
use Rattle.zquery_rpn.specs.Trees.{Tree, OfTerm, OfSet, OfSetAttrs, Of, OfProx, height}

pub height-some : (q : Tree) → 0 < height q
height-some (OfTerm xs v) = omega arith
height-some (OfSet name) = omega arith
height-some (OfSetAttrs name xs) = omega arith
height-some (Of o a b) = omega arith
height-some (OfProx e a b) = omega arith

pub no-room : (q : Tree) (room : ℕ) → room ≡ 0 → false ≡ nat_le (height q) room
no-room q room e = let some : 0 < height q = height-some q in sym (lt-leb (height q) room (omega arith))
