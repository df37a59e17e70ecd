use Rattle.std.proofs.Common.{◌≡◌, ◌+◌, length}
use Rattle.std.specs.List.{position_or_len}
use Rattle.ztarget.specs.Words.{is_between}
use Rattle.ztarget.proofs.words.word_len.Given as goal

abbrev pub invariant-loop-left : goal.invariant-loop-left
invariant-loop-left l = record {
  counted : l.len + length l.left ≡ length l.octets;
  first : l.len + position_or_len is_between l.left ≡ position_or_len is_between l.octets;
}

abbrev pub decreases-loop-left : goal.decreases-loop-left
decreases-loop-left l = length l.left
