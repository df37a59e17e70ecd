use Rattle.std.proofs.Common.{◌≡◌, ◌++◌}
use Rattle.ztarget.specs.Indexing.{begun, all_indexed_places}
use Rattle.ztarget.proofs.Truncations.{front_begun}
use Rattle.ztarget.proofs.index.Index.beginning.Given as goal

abbrev pub invariant-loop-key : goal.invariant-loop-key
invariant-loop-key l = l.found.items ++ all_indexed_places (front_begun l.word l.key-iterator) ≡ all_indexed_places (begun l.word l.self)
