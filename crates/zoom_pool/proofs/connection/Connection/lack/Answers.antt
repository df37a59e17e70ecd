use Rattle.std.proofs.Common.{rules, ◌≡◌, false, sym, ap, subst, ◌∙◌}
use Rattle.zber.specs.Unfinished.{IsUnfinished}
use Rattle.zber.specs.declared.framer.TheConstants.{MESSAGE_LIMIT}
use Rattle.zoom_pool.specs.Connections.{AreConsistent}
use Rattle.zoom_pool.specs.Links.{Link}
use Rattle.zoom_pool.proofs.Taking.{idle, truncated_at}
use Rattle.zoom_pool.proofs.connection.Connection.lack.Goals as goal

pub returns-then-not-self-clause-returned : goal.returns-then-not-self-clause-returned
returns-then-not-self-clause-returned c = λ p m s u.
    let ended : c.self.inside.ended ≡ false = search rules in
    idle p c.args.self.now m s c.requires.none u (sym (ap (λ (z : Link). z.ended) c.self.view_is) ∙ ended)

pub returns-in-Fault-clause-returned : goal.returns-in-Fault-clause-returned
returns-in-Fault-clause-returned c = λ p m s u.
    truncated_at p _ c.in-Fault.kind c.in-Fault.at (subst (AreConsistent p) (sym c.self.view_is) m) s
    (ap (λ (z : Link). z.held) c.self.view_is ∙ c.requires.none) (ap (λ (z : Link). z.framer.asked) c.self.view_is
    ∙ c.requires.asked) (ap (λ (z : Link). z.framer.fault) c.self.view_is ∙ c.requires.no_fault)
    (subst (λ (z : Link). IsUnfinished MESSAGE_LIMIT z.framer.octets) (sym c.self.view_is) u) (search rules) (search rules)
