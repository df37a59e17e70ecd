use Rattle.std.proofs.Common.{◌≡◌, ◌++◌, take}
use Rattle.zoom_pool.specs.Transcripts.{joined}
use Rattle.zoom_pool.proofs.waiting.append_all.Given as goal

abbrev pub invariant-loop-octets : goal.invariant-loop-octets
invariant-loop-octets l = l.out.items ≡ l.fn.out.items ++ joined (take l.octets-index l.waiting)
