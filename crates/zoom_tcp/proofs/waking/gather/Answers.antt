use Rattle.std.proofs.Common.{◌≡◌, ◌≤◌, inl, inr, refl, subst, arith, rules}
use Rattle.zoom_tcp.specs.Waking.{no_poll, one_more}
use Rattle.zoom_tcp.proofs.waking.gather.Goals as goal

pub loop-init : goal.loop-init
loop-init g c = no_poll

pub loop-preserved : goal.loop-preserved
loop-preserved g c =
    one_more c.loop.invariant
    (subst (λ more. g.R.Ready.IsPolled c.loop.ready more c.poll.new.self) c.if-not-branch.false c.in_ok-poll.ensures)

pub returns-then-not-branch : goal.returns-then-not-branch
returns-then-not-branch g c = record {
  count = c.loop.counter;
  before = c.loop.ready;
  full = c.loop.invariant;
  end = inl (
      subst (λ more. g.R.Ready.IsPolled c.loop.ready more c.poll.new.self) c.if-not-branch.true c.in_ok-poll.ensures
      );
}

pub returns : goal.returns
returns g c =
    let all : c.loop.counter ≡ c.most_polls-end.result = search rules in
    let most : g.R.Ready.polls c.args.ready.now ≤ c.loop.counter = omega (arith, all, c.most_polls-end.ensures) in
    record {
      count = c.loop.counter;
      before = c.loop.ready;
      full = c.loop.invariant;
      end = inr (most, refl);
    }
