use Rattle.std.proofs.Common.{rules, arith, sym, ap, ◌∙◌, ◌≡◌, ◌<◌, ◌^◌, ◌+◌, ◌-◌, min, ◌++◌, length, length-append}
use Rattle.zber.proofs.CountLemmas.{counted_on, counted_given, holds_pos, whole_pos}
use Rattle.zber.proofs.FeedLemmas.{empty_is, is_whole, fed_of}
use Rattle.zber.proofs.FramerLemmas.{empty_answer, front_answer, fault_answer, message_answer}
use Rattle.zber.proofs.framer.Framer.next.Goals as goal

pub returns-then-is_empty-2-clause-after : goal.returns-then-is_empty-2-clause-after
returns-then-is_empty-2-clause-after c = empty_answer _ _ _ _ _ _ (ap (λ z. z.stream) c.self.view_is) c.in_default.is (empty_is _ c.if-is_empty.ensures) (empty_is _ c.if-is_empty-2.ensures)

pub invariant_of-self-in_err-find : goal.invariant_of-self-in_err-find
invariant_of-self-in_err-find c =
    let f = c.in_err-find.ensures.err c.self.inside.limit (c.self.invariant.fed c.in_default.is) in
    record {
      small = c.self.invariant.small;
      fed = λ n. f;
      counted = rw (← c.in_err-find.ensures.same) at (counted_on c.self.invariant.counted c.in_default.is c.in_err-find.ensures.stopped (rw c.in_err-find.ensures.same at (holds_pos c.self.inside.limit _ _ f.holds)));
    }

pub take_out-requires : goal.take_out-requires
take_out-requires c =
    let f = rw c.in-Message.is at (c.in_ok-find.ensures.ok c.self.inside.limit (c.self.invariant.fed c.in_default.is)) in
    let few : length c.find.new.message < 2 ^ 64 = search rules in
    (c.self.inside.limit, c.find.new.octets.items, f, few)

pub invariant_of-self-in_err-node-in-Message : goal.invariant_of-self-in_err-node-in-Message
invariant_of-self-in_err-node-in-Message c =
    let f = rw c.in-Message.is at (c.in_ok-find.ensures.ok c.self.inside.limit (c.self.invariant.fed c.in_default.is)) in
    record {
      small = c.self.invariant.small;
      fed = λ n. f.0;
      counted = rw (← c.in_ok-find.ensures.same) at (counted_on c.self.invariant.counted c.in_default.is (rw c.in-Message.is at c.in_ok-find.ensures.counts) (rw c.in_ok-find.ensures.same at (holds_pos c.self.inside.limit _ _ f.0.holds)));
    }

pub restart-requires : goal.restart-requires
restart-requires c =
    let f = rw c.in-Message.is at (c.in_ok-find.ensures.ok c.self.inside.limit (c.self.invariant.fed c.in_default.is)) in
    (is_whole f.0.holds f.1).1.none_open

pub invariant_of-self-in-Message : goal.invariant_of-self-in-Message
invariant_of-self-in-Message c =
    let f = rw c.in-Message.is at (c.in_ok-find.ensures.ok c.self.inside.limit (c.self.invariant.fed c.in_default.is)) in
    let held = counted_on c.self.invariant.counted c.in_default.is (rw c.in-Message.is at c.in_ok-find.ensures.counts) (rw c.in_ok-find.ensures.same at (holds_pos c.self.inside.limit _ _ f.0.holds)) in
    let size : length (c.self.inside.message ++ c.self.inside.octets.items) ≡ length c.find.new.message + length c.find.new.octets.items = ap length (sym c.in_ok-find.ensures.same) ∙ length-append c.find.new.message c.find.new.octets.items in
    record {
      small = c.self.invariant.small;
      fed = λ n. fed_of (c.restart.ensures.holds c.find.new.octets.items) c.new.ensures;
      counted = counted_given held (omega (arith, size, f.2, whole_pos c.find.new.scan f.1, ap length c.new.ensures, length-append c.new.result c.find.new.octets.items)) c.restart.ensures.begins.0 c.restart.ensures.begins.1 (search rules);
    }

pub invariant_of-self-in-Front : goal.invariant_of-self-in-Front
invariant_of-self-in-Front c =
    let f = rw c.in-Front.is at (c.in_ok-find.ensures.ok c.self.inside.limit (c.self.invariant.fed c.in_default.is)) in
    record {
      small = c.self.invariant.small;
      fed = λ n. f.0;
      counted = rw (← c.in_ok-find.ensures.same) at (counted_on c.self.invariant.counted c.in_default.is (rw c.in-Front.is at c.in_ok-find.ensures.counts) (rw c.in_ok-find.ensures.same at (holds_pos c.self.inside.limit _ _ f.0.holds)));
    }

pub returns-in_ok-node-in-Message-clause-after : goal.returns-in_ok-node-in-Message-clause-after
returns-in_ok-node-in-Message-clause-after c =
    let f = rw c.in-Message.is at (c.in_ok-find.ensures.ok c.self.inside.limit (c.self.invariant.fed c.in_default.is)) in
    message_answer _ _ c.find.new.message _ _ _ _ _ _ (ap (λ z. z.stream) c.self.view_is) c.in_default.is c.in_ok-find.ensures.same (c.in_ok-node-in-Message.ensures.message c.self.inside.limit c.find.new.octets.items f) c.new.ensures

pub returns-in-Front-clause-after : goal.returns-in-Front-clause-after
returns-in-Front-clause-after c =
    let f = rw c.in-Front.is at (c.in_ok-find.ensures.ok c.self.inside.limit (c.self.invariant.fed c.in_default.is)) in
    front_answer _ _ _ _ _ _ (ap (λ z. z.stream) c.self.view_is) c.in_default.is c.in_ok-find.ensures.same f.1

pub returns-in-Fault-clause-after : goal.returns-in-Fault-clause-after
returns-in-Fault-clause-after c =
    let f = rw c.in-Fault.is at (c.in_ok-find.ensures.ok c.self.inside.limit (c.self.invariant.fed c.in_default.is)) in
    fault_answer _ _ _ _ _ _ c.in-Fault.kind _ (ap (λ z. z.stream) c.self.view_is) c.in_default.is c.in_ok-find.ensures.same f

pub returns-in_ok-node-in-Message-clause-skipped : goal.returns-in_ok-node-in-Message-clause-skipped
returns-in_ok-node-in-Message-clause-skipped c =
    let f = rw c.in-Message.is at (c.in_ok-find.ensures.ok c.self.inside.limit (c.self.invariant.fed c.in_default.is)) in
    let sum : c.saturating_add-self-inside.result ≡ min (c.self.inside.skipped + c.find.new.scan.contents) (2 ^ 64 - 1) = search rules in
    omega (arith, sum, c.in_ok-node-in-Message.ensures.contents c.self.inside.limit c.find.new.octets.items f, ap (λ z. z.skipped) c.self.view_is)
