use Rattle.std.proofs.Common.{Ok, Some, None, subst}
use Rattle.zber.specs.Stream.{AfterNext}
use Rattle.zoom_pool.proofs.Hosts.{message_taken, message_stops, next_received, next_stopped, next_waits, next_error}
use Rattle.zoom_pool.proofs.Hosts.{next_shorter}
use Rattle.zoom_pool.proofs.receiving.receive_next.Goals as goal

pub returns-then-branch : goal.returns-then-branch
returns-then-branch c =
    let s = c.args.framer.now.stream in
    let t = c.next.new.self.stream in
    let gave : AfterNext s (Ok (Some c.in-Ok-Some.node)) t = subst (λ o. AfterNext s (Ok o) t) c.in-Ok-Some.field-0-is c.in-Ok-Some.ensures.after in
    let is = message_taken c.in-Ok-Some.node c.in_ok-receive_message-in-Ok-Some.field-0 c.args.target.now c.receive_message.new.target c.in_ok-receive_message-in-Ok-Some.ensures c.if-branch.true in
    (next_received s t c.in-Ok-Some.node c.args.target.now c.receive_message.new.target gave is.0 is.1 is.2, next_shorter s t c.in-Ok-Some.node gave)

pub returns-in-Ok-Some : goal.returns-in-Ok-Some
returns-in-Ok-Some c =
    let s = c.args.framer.now.stream in
    let t = c.next.new.self.stream in
    let gave : AfterNext s (Ok (Some c.in-Ok-Some.node)) t = subst (λ o. AfterNext s (Ok o) t) c.in-Ok-Some.field-0-is c.in-Ok-Some.ensures.after in
    next_stopped s t c.in-Ok-Some.node c.args.target.now c.receive_message.new.target gave
    (message_stops c.in-Ok-Some.node c.in_ok-receive_message-in-Ok-Some.field-0 c.args.target.now c.receive_message.new.target c.in_ok-receive_message-in-Ok-Some.ensures c.if-branch.false)

pub returns-in-Ok-None : goal.returns-in-Ok-None
returns-in-Ok-None c =
    let s = c.args.framer.now.stream in
    let t = c.next.new.self.stream in
    let gave : AfterNext s (Ok None) t =
    subst (λ o. AfterNext s (Ok o) t) c.in-Ok-None.field-0-is c.in-Ok-None.ensures.after in
    next_waits s t c.args.target.now gave

pub returns : goal.returns
returns c =
    next_error _ c.args.framer.now.stream c.next.new.self.stream c.args.target.now c.in-Err.error c.reception_of.result
    c.in-Err.ensures.after c.reception_of.ensures
