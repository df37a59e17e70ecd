use Rattle.std.proofs.Common.{◌≡◌, ◌++◌, [], ◌∷◌, false, refl, rules, ap, ◌∙◌}
use Rattle.std.specs.Prelude.{is_some}
use Rattle.zoom_pool.specs.CallsOf.{call_of}
use Rattle.zoom_pool.specs.Transcripts.{joined}
use Rattle.zoom_pool.proofs.Calling.{called, joined_more, sent_octets}
use Rattle.zoom_pool.proofs.connection.Connection.call.Goals as goal

pub returns-clause-after : goal.returns-clause-after
returns-clause-after c = rw (← c.self.view_is) (λ done settings events p l.
    let stopped : is_some c.self.inside.stop ≡ false = search rules in
    let items : c.put.new.waiting.items ≡ c.self.inside.waiting.items ++ c.in_ok-sent.sent.octets ∷ [] = search rules in
    let put : joined c.put.new.waiting.items ≡ joined c.self.inside.waiting.items ++ c.in_ok-sent.sent.octets =
    ap joined items ∙ joined_more c.self.inside.waiting.items c.in_ok-sent.sent.octets in
    called settings events p _ _ (call_of c.args.call.now) c.in_ok-sent.sent l stopped c.in_ok-sent.ensures.framed
    (c.in_ok-sent.ensures.returned p.settings p.log l.matches.origin tt)
    (c.in_ok-sent.ensures.after p.settings p.log l.matches.origin tt)
    refl refl refl refl put)

pub returns-clause-put : goal.returns-clause-put
returns-clause-put c = rw (← c.self.view_is) (λ p m.
    let items : c.put.new.waiting.items ≡ c.self.inside.waiting.items ++ c.in_ok-sent.sent.octets ∷ [] = search rules in
    let answers = c.in_ok-sent.ensures.returned p.settings p.log m.origin tt in
    ap joined items ∙ joined_more c.self.inside.waiting.items c.in_ok-sent.sent.octets
    ∙ ap (λ z. joined c.self.inside.waiting.items ++ z) (sent_octets p (call_of c.args.call.now) c.in_ok-sent.sent answers))
