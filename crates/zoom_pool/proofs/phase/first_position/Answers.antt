use Rattle.std.proofs.Common.{sym, ◌∙◌, subst, ◌≤◌}
use Rattle.std.specs.Prelude.{◌^◌}
use Rattle.zoom_pool.proofs.Wants.{first_is, no_range}
use Rattle.zoom_pool.proofs.phase.first_position.Goals as goal

pub start_of-requires : goal.start_of-requires
start_of-requires c = (first_is c.args.list.now no_range c.requires).1

pub returns-clause-first : goal.returns-clause-first
returns-clause-first c = c.start_of.ensures ∙ (first_is c.args.list.now no_range c.requires).0

pub returns-clause-bounded : goal.returns-clause-bounded
returns-clause-bounded c = subst (λ z. z ≤ 2 ^ 31) (sym c.start_of.ensures) (first_is c.args.list.now no_range c.requires).1
