-- the octets so far are read, and there is room for the octets of the rest
use Rattle.std.proofs.Common.{◌+◌, ◌*◌, ◌≤◌, length, vec_len, vec_capacity}
use Rattle.zmeta_offline.proofs.Reading.{IsRead}
use Rattle.zmeta_offline.proofs.digits.decode.Given as goal

abbrev pub invariant-loop-octets : goal.invariant-loop-octets
invariant-loop-octets l = record {
  read : IsRead l.text l.octets.items l.rest;
  room : 2 * vec_len l.octets + length l.rest ≤ 2 * vec_capacity l.octets + 1;
}

abbrev pub decreases-loop-octets : goal.decreases-loop-octets
decreases-loop-octets l = length l.rest
