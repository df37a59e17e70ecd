-- the streams were merged so far, and the path is that of the file to be made
use Rattle.std.proofs.Common.{◌≡◌, map}
use Rattle.zmeta_devices.specs.Devices.{input_device}
use Rattle.zmeta_offline.specs.Merged.{IsMerging}
use Rattle.zmeta_offline.proofs.merged.merge_streams.Given as goal

abbrev pub invariant-loop : goal.invariant-loop
invariant-loop g l =
    IsMerging (map (input_device g.R.Readable.remaining) l.initial.streams) (map (input_device g.R.Readable.remaining) l.streams)
    (g.W.Write.contents l.initial.draft) (g.W.Write.contents l.draft) l.merging
    × (l.merging.saved.now ≡ l.saved)
