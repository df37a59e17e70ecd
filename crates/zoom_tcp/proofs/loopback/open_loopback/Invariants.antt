use Rattle.std.proofs.Common.{◌≡◌, ℕ, None, slice_get}
use Rattle.zoom_tcp.specs.Loopback.{noted_for}
use Rattle.zoom_tcp.proofs.loopback.open_loopback.Given as goal

abbrev pub invariant-loop : goal.invariant-loop
invariant-loop g l = (c : ℕ) → noted_for (slice_get l.pairs.items c) ≡ None
