-- the octets read are those that the reader has lost
use Rattle.std.specs.Io.KnownBytes.{Consumes}
use Rattle.zmeta_devices.proofs.input.read_until.Given as goal

abbrev pub invariant-loop-reads : goal.invariant-loop-reads
invariant-loop-reads g l =
    Consumes (g.R.Readable.remaining l.initial.reader) (g.R.Readable.remaining l.reader) l.octets.items
