use Rattle.std.proofs.Common.{◌≡◌, ◌<◌, ◌^◌, drop}
use Rattle.zmarc.specs.Numbers.{number_behind}
use Rattle.zmarc.proofs.numbers.read_number.Given as goal

abbrev pub invariant-loop-octet : goal.invariant-loop-octet
invariant-loop-octet l = record {
  value : number_behind l.value (drop l.octet-index l.octets) ≡ number_behind 0 l.octets;
  short : l.value < 10 ^ l.octet-index;
}
