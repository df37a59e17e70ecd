use Rattle.std.proofs.Common.{◌≡◌, false, None, Some, refl, sym, ap, subst, ◌∙◌}
use Rattle.zoom_pool.specs.Links.{Link}
use Rattle.zoom_pool.specs.Transcripts.{state_at, after_stop, joined}
use Rattle.zoom_pool.specs.States.{is_stopped}
use Rattle.zoom_pool.specs.declared.state.Reason.TheVariants as reasons
use Rattle.zoom_pool.specs.declared.state.State.TheVariants as states
use Rattle.zoom_pool.specs.Connections.{FramerAfter, AreConsistent}
use Rattle.zoom_pool.proofs.Streams.{going}
use Rattle.zorigin.specs.Log.{After as OriginAfter}
use Rattle.zoom_pool.specs.Steps.{stop_after}
use Rattle.zoom_pool.proofs.Taking.{took, held_done, kept_back, news_of_outcome, faulty, lacked}
use Rattle.zoom_pool.proofs.connection.Connection.take.Goals as goal

pub lack-requires-clause-asked : goal.lack-requires-clause-asked
lack-requires-clause-asked c = let i = rw c.in-Ok-None.field-0-is at c.in-Ok-None.ensures.idle in i.0

pub lack-requires-clause-no_fault : goal.lack-requires-clause-no_fault
lack-requires-clause-no_fault c = let i = rw c.in-Ok-None.field-0-is at c.in-Ok-None.ensures.idle in i.1

pub returns-in-Ok-Some-clause-done : goal.returns-in-Ok-Some-clause-done
returns-in-Ok-Some-clause-done c = λ p m d.
    let s : is_stopped (state_at p) ≡ false = sym (ap is_stopped (c.state.ensures.state p m)) ∙ sym c.is_stopped.ensures
    ∙ c.if-is_stopped.false in
    let n = subst (AreConsistent p) (sym c.self.view_is) m in
    let draws = rw c.in-Ok-Some.field-0-is at (c.in-Ok-Some.ensures.returned p (going _ p.stop s) n.frames) in
    let k : Link = record {
      origin = c.process-answer.new.origin;
      framer = c.next_message.new.framer.stream;
      held =
          c.settle.new.held;
      waiting = joined c.self.inside.waiting.items;
      ended = c.self.inside.ended;
      stop =
          c.settle.new.stop;
    } in
    let stop : c.settle.new.stop ≡ stop_after p.stop c.process-answer.result = c.settle.ensures.stopped
    ∙ ap (λ z. stop_after z c.process-answer.result) n.stop in
    let none : c.settle.new.held ≡ None = c.settle.ensures.kept ∙ held_done c.process-answer.result _ _ d ∙ draws.0 in
    took c.stream_laws.ensures c.args.target p _ c.process-answer.result k _ _ s draws.1 none
    (c.process-answer.ensures.done p n.origin d) n.ended stop

pub returns-in-Ok-Some-clause-memory : goal.returns-in-Ok-Some-clause-memory
returns-in-Ok-Some-clause-memory c = λ p m e.
    let s : is_stopped (state_at p) ≡ false = sym (ap is_stopped (c.state.ensures.state p m)) ∙ sym c.is_stopped.ensures
    ∙ c.if-is_stopped.false in
    let n = subst (AreConsistent p) (sym c.self.view_is) m in
    let draws = rw c.in-Ok-Some.field-0-is at (c.in-Ok-Some.ensures.returned p (going _ p.stop s) n.frames) in
    let k : Link = record {
      origin = c.process-answer.new.origin;
      framer = c.next_message.new.framer.stream;
      held =
          c.settle.new.held;
      waiting = joined c.self.inside.waiting.items;
      ended = c.self.inside.ended;
      stop =
          c.settle.new.stop;
    } in
    let stop : c.settle.new.stop ≡ stop_after p.stop c.process-answer.result = c.settle.ensures.stopped
    ∙ ap (λ z. stop_after z c.process-answer.result) n.stop in
    kept_back p _ c.process-answer.result _ k e (subst (OriginAfter p.settings p.log)
    (sym (c.process-answer.ensures.memory e)) n.origin) draws.1 n.ended c.settle.ensures.kept stop

pub returns-in-Ok-Some-clause-part : goal.returns-in-Ok-Some-clause-part
returns-in-Ok-Some-clause-part c = λ p m e.
    let s : is_stopped (state_at p) ≡ false = sym (ap is_stopped (c.state.ensures.state p m)) ∙ sym c.is_stopped.ensures
    ∙ c.if-is_stopped.false in
    let n = subst (AreConsistent p) (sym c.self.view_is) m in
    let draws = rw c.in-Ok-Some.field-0-is at (c.in-Ok-Some.ensures.returned p (going _ p.stop s) n.frames) in
    news_of_outcome c.args.target p _ c.next_message.new.framer.stream _ _ s draws.1 (c.process-answer.ensures.part p n.origin e)

pub returns-in-Ok-None-clause-done : goal.returns-in-Ok-None-clause-done
returns-in-Ok-None-clause-done c = λ p m d.
    let s : is_stopped (state_at p) ≡ false = sym (ap is_stopped (c.state.ensures.state p m)) ∙ sym c.is_stopped.ensures
    ∙ c.if-is_stopped.false in
    let n = subst (AreConsistent p) (sym c.self.view_is) m in
    let draws = rw c.in-Ok-None.field-0-is at (c.in-Ok-None.ensures.returned p (going _ p.stop s) n.frames) in
    let k : Link = record {
      origin = c.self.inside.origin;
      framer = c.next_message.new.framer.stream;
      held =
          c.next_message.new.held;
      waiting = joined c.self.inside.waiting.items;
      ended = c.self.inside.ended;
      stop =
          c.self.inside.stop;
    } in
    let now : AreConsistent p k = record {
      origin = n.origin;
      frames =
          subst (λ z. FramerAfter p z c.next_message.new.framer.stream) (sym draws.0) draws.1;
      ended = n.ended;
      stop = n.stop;
    }
    in
    lacked c.args.target p c.lack.result c.lack.new.self c.args.knowledge.now (c.lack.ensures.returned p now s draws.2)

pub returns-in-Fault-clause-done : goal.returns-in-Fault-clause-done
returns-in-Fault-clause-done c = λ p m d.
    let s : is_stopped (state_at p) ≡ false = sym (ap is_stopped (c.state.ensures.state p m)) ∙ sym c.is_stopped.ensures
    ∙ c.if-is_stopped.false in
    let n = subst (AreConsistent p) (sym c.self.view_is) m in
    let draws = rw c.in-Fault.is at (c.in-Err.ensures.returned p (going _ p.stop s) n.frames) in
    let reason = reasons.Frame c.in-Fault.kind c.in-Fault.at in
    let k : Link = record {
      origin = c.self.inside.origin;
      framer = c.next_message.new.framer.stream;
      held =
          c.next_message.new.held;
      waiting = joined c.self.inside.waiting.items;
      ended = c.self.inside.ended;
      stop =
          Some (states.Failed reason);
    } in
    faulty c.args.target p c.in-Fault.kind c.in-Fault.at k c.args.knowledge.now s n.origin n.ended
    (subst (λ z. FramerAfter (after_stop p reason) z c.next_message.new.framer.stream) (sym draws.0) (draws.1 reason))
    draws.0 draws.2 refl
