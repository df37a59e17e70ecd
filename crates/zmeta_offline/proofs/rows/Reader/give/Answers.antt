use Rattle.std.proofs.Common.{inl, inr, refl, rules}
use Rattle.zmeta_offline.proofs.Filling.{given_unknown}
use Rattle.zmeta_offline.proofs.Keeping.{has_read}
use Rattle.zmeta_offline.proofs.rows.Reader.give.Goals as goal
use Rattle.zmeta_offline.proofs.rows.Reader.give.Goals.{in-Taken, in-Unfinished+else-count-most_of}

pub returns-then-count-most_of-clause-err : goal.returns-then-count-most_of-clause-err
returns-then-count-most_of-clause-err c octets paths = (
  refl,
  given_unknown octets paths c.args.wanted c.args.self.now c.args.rows.now c.in-Some.octets.now c.in_ok-read.field-0
      c.in-Some.ensures c.in_ok-read.ensures.excused (inr (c.in-Unfinished.is, search rules)),
)

pub returns-in-Changed-clause-err : goal.returns-in-Changed-clause-err
returns-in-Changed-clause-err c octets paths = (
  refl,
  given_unknown octets paths c.args.wanted c.args.self.now c.args.rows.now c.in-Some.octets.now c.in_ok-read.field-0
      c.in-Some.ensures c.in_ok-read.ensures.excused (inl c.in-Changed.is),
)

pub returns-clause-ok : goal.returns-clause-ok
returns-clause-ok c octets paths =
    elim c.match-branch-2.branch [
      | in-Taken w ↦ rw w.self-is (has_read octets paths c.args.wanted c.args.self.now c.args.rows.now c.read.new.self _
          c.in-Some.octets.now c.in_ok-read.field-0 c.in-Some.ensures (inl w.in-Taken.is) c.in_ok-read.ensures.holds)
      | in-Unfinished+else-count-most_of w ↦ rw w.self-is (has_read octets paths c.args.wanted c.args.self.now
          c.args.rows.now c.read.new.self _ c.in-Some.octets.now c.in_ok-read.field-0 c.in-Some.ensures
          (inr w.in-Unfinished.is) c.in_ok-read.ensures.holds)
    ]
