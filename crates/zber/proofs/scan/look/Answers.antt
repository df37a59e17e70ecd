use Rattle.std.proofs.Common.{arith, length-append, ◌∷◌, []}
use Rattle.zber.specs.Headers.{passes, too_deep, too_deep_marked}
use Rattle.zber.proofs.scan.look.Goals as goal
use Rattle.zber.proofs.scan.look.Goals.{in-Some+else-size-place, in_default}

pub returns-then-size-place-clause-fault : goal.returns-then-size-place-clause-fault
returns-then-size-place-clause-fault c = λ xs rest f e.
    let head = rw c.in-Some.is at (rw c.in-Whole.is at (c.advance.ensures xs f)) in
    passes rest head (omega (arith, c.if-size-place.true, e, length-append xs (c.args.x ∷ [])))

pub returns-then-place-eq0-clause-fault : goal.returns-then-place-eq0-clause-fault
returns-then-place-eq0-clause-fault c = λ xs rest f e.
    let head = rw c.if-constructed.true at (rw c.in-Whole.is at (c.advance.ensures xs f)) in
    elim c.match-size.branch [
      | in-Some+else-size-place w ↦ too_deep rest (rw w.in-Some.is at head) (omega (arith, w.if-size-place.false, e, length-append xs (c.args.x ∷ []), c.requires.2)) c.if-place-eq0.true
      | in_default w ↦ too_deep_marked rest (rw w.in_default.is at head) c.if-place-eq0.true
    ]
