-- the octets read are those that the reader has lost, and no more than may be read
use Rattle.std.proofs.Common.{◌≤◌, ◌*◌, vec_len}
use Rattle.std.specs.Io.KnownBytes.{Consumes}
use Rattle.zmeta_devices.proofs.input.read_pieces.Given as goal

abbrev pub invariant-loop-reads : goal.invariant-loop-reads
invariant-loop-reads g l =
    Consumes (g.R.Readable.remaining l.initial.reader) (g.R.Readable.remaining l.reader) l.octets.items
    × (vec_len l.octets ≤ 4096 * 1000000)
