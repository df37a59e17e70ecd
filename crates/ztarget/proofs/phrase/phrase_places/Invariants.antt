use Rattle.std.proofs.Common.{◌≡◌, drop}
use Rattle.ztarget.specs.Phrasing.{phrase_places}
use Rattle.ztarget.proofs.phrase.phrase_places.Given as goal

abbrev pub invariant-loop-i : goal.invariant-loop-i
invariant-loop-i l = l.found.items ≡ phrase_places l.truncated (drop l.i l.asked) l.entries
