-- the streams of the first file and of the others so far
use Rattle.std.proofs.Common.{◌≡◌, ◌∷◌, map, take}
use Rattle.zmeta_args.specs.Texts.{texts_of}
use Rattle.zmeta_devices.specs.Devices.{input_device}
use Rattle.zmeta_devices.specs.Files.{opened_left}
use Rattle.zmeta_offline.specs.Merged.{streams_at}
use Rattle.zmeta_offline.proofs.merged.streams_of.Given as goal

abbrev pub invariant-loop-path : goal.invariant-loop-path
invariant-loop-path g l =
    map (input_device (λ r. opened_left g.F.File.Readable.remaining (g.F.Folder.octets r.files.now r.path.now) r.file)) l.streams.items
    ≡ streams_at (g.F.Folder.octets l.files) (l.first ∷ texts_of (take l.path-index l.others))
