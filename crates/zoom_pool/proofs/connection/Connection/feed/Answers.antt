use Rattle.std.proofs.Common.{◌≡◌, false, sym, ap, subst, ◌∙◌}
use Rattle.std.proofs.lemmas.Result.{IfOk-weaker}
use Rattle.zoom_pool.specs.Transcripts.{state_at}
use Rattle.zoom_pool.specs.Connections.{AreConsistent}
use Rattle.zoom_pool.specs.States.{is_stopped}
use Rattle.zoom_pool.proofs.Streams.{fed}
use Rattle.zoom_pool.proofs.connection.Connection.feed.Goals as goal

pub returns-clause-after : goal.returns-clause-after
returns-clause-after c = rw (← c.self.view_is) (IfOk-weaker c.feed.result _ _ (λ _ f settings events p l.
    let s : is_stopped (state_at p) ≡ false =
    sym (ap is_stopped (c.state.ensures.state p (subst (AreConsistent p) c.self.view_is l.matches))) ∙ sym c.is_stopped.ensures
    ∙ c.if-is_stopped.false in
    fed c.stream_laws.ensures settings events p _ c.feed.new.self.stream c.args.piece.now _ l s c.if-self.false
    (λ none. ap (λ z. z.stream) (f none))) c.feed.ensures.ok)
