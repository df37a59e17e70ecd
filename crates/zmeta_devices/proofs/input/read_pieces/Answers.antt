use Rattle.std.proofs.Common.{◌++◌, take}
use Rattle.std.proofs.KnownBytes.{Consumes-trans}
use Rattle.zmeta_devices.proofs.input.read_pieces.Goals as goal

pub returns-in_err-extend_from_slice-clause-rest : goal.returns-in_err-extend_from_slice-clause-rest
returns-in_err-extend_from_slice-clause-rest g c =
    let last = take c.in-Some.count c.read_piece.new.piece in (
      c.loop-reads.octets.items ++ last,
      Consumes-trans (g.R.Readable.remaining c.args.reader.now) (g.R.Readable.remaining c.loop-reads.reader)
          (g.R.Readable.remaining c.read_piece.new.reader) c.loop-reads.octets.items last c.loop-reads.invariant.0 c.in-Some.ensures.bytes.0,
    )
