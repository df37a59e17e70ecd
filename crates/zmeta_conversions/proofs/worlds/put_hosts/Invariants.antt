use Rattle.std.proofs.Common.{take}
use Rattle.zmeta_conversions.specs.Worlds.{unsaid_host, host_line}
use Rattle.zmeta_conversions.proofs.Lines.{ArePut}
use Rattle.zmeta_conversions.proofs.worlds.put_hosts.Given as goal

abbrev pub invariant-loop-host : goal.invariant-loop-host
invariant-loop-host l = ArePut unsaid_host host_line (take l.host-index l.hosts) l.fn.out.items l.out.items
