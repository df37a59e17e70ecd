use Rattle.std.proofs.Common.{◌≡◌, ◌∙◌, ◌==◌, inl, inr, length, true, sym, ap, arith, true≢false}
use Rattle.std.proofs.lemmas.Bool.Decides.{nat_tests}
use Rattle.zoom_sim.proofs.RunSound.{steps_same}
use Rattle.zoom_sim.proofs.RunPeers.{none_left}
use Rattle.zoom_sim.proofs.RunInputs.{ended_steps, ended_ends, going_ends}
use Rattle.zoom_sim.proofs.RunMoves.{ended_if, not_ended}
use Rattle.zoom_sim.proofs.peers.Peer.end_where_stopped.Goals as goal
use Rattle.zoom_sim.proofs.peers.Peer.end_where_stopped.Goals.{else-stopped-via-then-stopped+else-is_empty, else-stopped-via-else-stopped}

pub returns-in_ok-end_taken-clause-steps : goal.returns-in_ok-end_taken-clause-steps
returns-in_ok-end_taken-clause-steps c = λ waiting.
    let laws = c.exchange_laws.ensures in
    let empty : (length c.args.self.now.from == 0) ≡ true = sym c.is_empty.ensures ∙ c.if-is_empty.true in
    ended_steps c.accord_laws.ensures c.orderly_logs.ensures laws.over laws.pending c.args.c c.args.meta.now
    c.end_taken.new.meta c.args.self.now c.in_ok-end_taken.ensures.ends waiting
    (none_left c.args.self.now.from (grind (arith, nat_tests))) (sym c.stopped.ensures ∙ c.if-stopped.true)

pub returns-in_ok-end_taken-clause-ends : goal.returns-in_ok-end_taken-clause-ends
returns-in_ok-end_taken-clause-ends c = λ waiting from.
    let laws = c.exchange_laws.ensures in
    ended_ends c.accord_laws.ensures c.orderly_logs.ensures laws.over laws.pending c.args.c c.args.meta.now
    c.end_taken.new.meta c.args.self.now c.in_ok-end_taken.ensures.ends waiting from
    (sym c.stopped.ensures ∙ c.if-stopped.true)

pub returns-else-stopped-clause-steps : goal.returns-else-stopped-clause-steps
returns-else-stopped-clause-steps c = λ waiting. steps_same c.args.c true c.args.meta.now c.args.self.now

pub returns-else-stopped-clause-ends : goal.returns-else-stopped-clause-ends
returns-else-stopped-clause-ends c = λ waiting from. elim c.else-stopped.branch [
  | else-stopped-via-then-stopped+else-is_empty w ↦
      absurd (true≢false (ap (λ z. length z == 0) (sym from) ∙ sym w.is_empty.ensures ∙ w.if-is_empty.false))
  | else-stopped-via-else-stopped w ↦
      going_ends c.args.c c.args.meta.now c.args.self.now (sym c.stopped.ensures ∙ w.if-stopped.false)
]

pub returns-in_ok-end_taken-clause-own : goal.returns-in_ok-end_taken-clause-own
returns-in_ok-end_taken-clause-own c =
    ended_if c.args.c c.args.self.now c.args.meta.now c.end_taken.new.meta (sym c.stopped.ensures ∙ c.if-stopped.true)
    (sym c.is_empty.ensures ∙ c.if-is_empty.true) c.in_ok-end_taken.ensures.own

pub returns-else-stopped-clause-own : goal.returns-else-stopped-clause-own
returns-else-stopped-clause-own c = elim c.else-stopped.branch [
  | else-stopped-via-then-stopped+else-is_empty w ↦
      not_ended c.args.c c.args.self.now c.args.meta.now (inr (sym w.is_empty.ensures ∙ w.if-is_empty.false))
  | else-stopped-via-else-stopped w ↦
      not_ended c.args.c c.args.self.now c.args.meta.now (inl (sym c.stopped.ensures ∙ w.if-stopped.false))
]
