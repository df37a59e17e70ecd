use Rattle.std.proofs.Common.{◌≡◌, map, drop, string_bytes}
use Rattle.std.specs.Prelude.{codes, fold}
use Rattle.zopac.specs.Joined.{joined_to}
use Rattle.zopac.specs.Copies.{circulation_text}
use Rattle.zopac.proofs.copies.join_each_circulation.Given as goal

abbrev pub invariant-loop-circulation : goal.invariant-loop-circulation
invariant-loop-circulation l = fold (joined_to (codes "; ")) (string_bytes l.line)
    (map circulation_text (drop l.circulation-index l.circulations))
    ≡ fold (joined_to (codes "; ")) (string_bytes l.fn.line) (map circulation_text l.circulations)
