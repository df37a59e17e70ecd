use Rattle.std.proofs.Common.{◌≡◌, rules, length, sym, ◌∙◌}
use Rattle.zoom_pool.specs.Metas.{MetaLinks}
use Rattle.zoom_pool.proofs.Metas.{stand_size, new_after}
use Rattle.zoom_pool.proofs.meta.Meta.new.Goals as goal

pub invariant_of-result : goal.invariant_of-result
invariant_of-result c =
    let size : length c.in_ok-pool.pool.connections ≡ length c.args.questions = search rules in
    stand_size c.args.questions c.args.settings.step c.args.settings.window c.in_ok-drivers.drivers.items
    c.in_ok-drivers.ensures ∙ sym size

pub returns-clause-after : goal.returns-clause-after
returns-clause-after c =
    let size : length c.in_ok-pool.pool.connections ≡ length c.args.questions = search rules in
    let meta : MetaLinks = record { pool = c.in_ok-pool.pool; drivers = c.in_ok-drivers.drivers.items } in
    new_after c.args.questions c.args.settings meta c.requires.fit c.requires.askable c.in_ok-pool.ensures.after size
    c.in_ok-drivers.ensures
