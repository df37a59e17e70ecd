-- what is taken, and what the machine and the reader hold
use Rattle.std.proofs.Common.{map}
use Rattle.std.specs.Prelude.{string_bytes}
use Rattle.zmeta_args.specs.Texts.{texts_of}
use Rattle.zmeta_offline.proofs.Measuring.{IsMeasuring}
use Rattle.zmeta_offline.proofs.rows.measure_rows.Given as goal

abbrev pub invariant-loop : goal.invariant-loop
invariant-loop g l =
    IsMeasuring (g.F.Folder.octets l.files) (texts_of l.paths) l.runs l.chosen (map string_bytes l.fn.shown.items)
    l.reader l.rows
