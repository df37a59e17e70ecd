use Rattle.std.proofs.Common.{◌≡◌, ◌++◌, filter, length}
use Rattle.ztarget.specs.Merging.{IsAscendingFrom, is_place_among}
use Rattle.ztarget.proofs.common_places.common_places.Given as goal

abbrev pub invariant-loop-left : goal.invariant-loop-left
invariant-loop-left l = IsAscendingFrom 0 l.many → l.found.items ++ filter (is_place_among l.many) l.left ≡ filter (is_place_among l.many) l.few

abbrev pub decreases-loop-left : goal.decreases-loop-left
decreases-loop-left l = length l.left
