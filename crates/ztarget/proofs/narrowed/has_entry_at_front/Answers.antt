use Rattle.std.proofs.Common.{◌∙◌, sym, w64, arith}
use Rattle.std.proofs.lemmas.Int.{to_z-of_z}
use Rattle.ztarget.proofs.Narrowings.{other_first}
use Rattle.ztarget.proofs.narrowed.has_entry_at_front.Goals as goal

pub returns-then-place-entry : goal.returns-then-place-entry
returns-then-place-entry c = λ up.
    let at = rw (to_z-of_z w64 c.args.used c.ranges.used) at c.loop-left.invariant up in
    sym (other_first c.args.used c.args.entries.now c.args.entry (record { entry = 0; field = 0; word = 0 }) c.loop-left.left.now c.in-len1-up.len_at_least at.0 (λ same. absurd (omega (arith, same, c.if-place-entry.true)))) ∙ at.1
