use Rattle.std.proofs.Common.{◌≡◌, subst, arith}
use Rattle.zoom_asking.specs.Buffers.{AreEmpty}
use Rattle.zoom_asking.proofs.Starting.{no_buffers, one_buffer}
use Rattle.zoom_asking.proofs.asking.empty_buffers.Goals as goal

pub loop-k-init : goal.loop-k-init
loop-k-init c = no_buffers c.new-buffers.result.items c.new-buffers.ensures.items

pub loop-k-preserved : goal.loop-k-preserved
loop-k-preserved c =
    one_buffer c.loop-k._k c.loop-k.buffers.items c.push.new.self.items c.new.result c.loop-k.invariant
    c.new.ensures.items c.in_ok-push.ensures.items

pub returns : goal.returns
returns c =
    let all : c.loop-k._k ≡ c.args.count =
    (let few = c.loop-k.auto._k-end in let end = c.loop-k-test.false in omega arith) in
    subst (λ n. AreEmpty n c.loop-k.buffers.items) all c.loop-k.invariant
