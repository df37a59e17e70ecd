use Rattle.std.proofs.Common.{◌≡◌, take}
use Rattle.zoom_tcp.specs.Asking.{hosts_of}
use Rattle.zoom_tcp.proofs.asking.hosts_of.Given as goal

abbrev pub invariant-loop-c : goal.invariant-loop-c
invariant-loop-c l = l.hosts.items ≡ hosts_of l.limits l.waits (take l.c l.addresses)
