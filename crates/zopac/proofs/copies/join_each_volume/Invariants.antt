use Rattle.std.proofs.Common.{◌≡◌, map, drop, string_bytes}
use Rattle.std.specs.Prelude.{codes, fold}
use Rattle.zopac.specs.Joined.{joined_to}
use Rattle.zopac.specs.Copies.{volume_text}
use Rattle.zopac.proofs.copies.join_each_volume.Given as goal

abbrev pub invariant-loop-volume : goal.invariant-loop-volume
invariant-loop-volume l = fold (joined_to (codes "; ")) (string_bytes l.line)
    (map volume_text (drop l.volume-index l.volumes))
    ≡ fold (joined_to (codes "; ")) (string_bytes l.fn.line) (map volume_text l.volumes)
