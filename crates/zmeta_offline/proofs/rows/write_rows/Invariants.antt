-- what was written so far, and what the machine and the reader hold
use Rattle.zmeta_args.specs.Texts.{texts_of}
use Rattle.zmeta_devices.specs.Devices.{output_device}
use Rattle.zmeta_offline.proofs.Writing.{IsGoing}
use Rattle.zmeta_offline.proofs.rows.write_rows.Given as goal

abbrev pub invariant-loop : goal.invariant-loop
invariant-loop g l =
    IsGoing (g.F.Folder.octets l.files) (texts_of l.paths) l.runs l.fn.taking
    (output_device g.W.Write.contents l.initial.output) (output_device g.W.Write.contents l.output) l.reader l.rows
