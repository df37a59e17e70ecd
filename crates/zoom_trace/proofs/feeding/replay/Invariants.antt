use Rattle.std.proofs.Common.{◌≡◌, take, true}
use Rattle.std.specs.List.{list_all}
use Rattle.zoom_trace.specs.Replays.{AreFedWith, is_within, size_of}
use Rattle.zoom_trace.proofs.feeding.replay.Given as goal

abbrev pub invariant-loop-index : goal.invariant-loop-index
invariant-loop-index l = record {
  fed : AreFedWith (take l.index l.entries) l.initial.asking l.asking;
  within : list_all (is_within (size_of l.initial.asking)) (take l.index l.entries) ≡ true;
  size : size_of l.asking ≡ size_of l.initial.asking;
}
