use Rattle.std.proofs.Common.{◌≡◌, ◌+◌, ℕ, [], rules, subst, ◌∙◌, ap, length-append}
use Rattle.zorigin.specs.declared.settings.Settings.{Settings}
use Rattle.zoom_pool.specs.Transcripts.{empty_transcript}
use Rattle.zoom_pool.specs.Connections.{ConnectionAfter}
use Rattle.zoom_pool.proofs.Pools.{fresh_none, fresh_push, after_none}
use Rattle.zoom_pool.proofs.pool.Pool.new.Goals as goal

pub loop-init : goal.loop-init
loop-init c = rw c.new-connections.ensures.items (fresh_none (record { name = c.args.name.now }), search rules)

pub loop-preserved : goal.loop-preserved
loop-preserved c =
    let name : c.in_ok-duplicate.field-0 ≡ c.args.name.now = search rules in
    let settings : Settings = record { name = c.args.name.now } in
    let fresh = subst (λ z. ConnectionAfter (record { name = z }) [] (empty_transcript (record { name = z })) c.new.result) name
    c.new.ensures in
    rw c.in_ok-push.ensures.items (
      fresh_push settings c.loop.connections.items c.new.result c.loop.invariant.0 fresh,
      length-append c.loop.connections.items _ ∙ ap (λ (n : ℕ). n + 1) c.loop.invariant.1,
    )

pub returns-clause-after : goal.returns-clause-after
returns-clause-after c = after_none _ _ c.loop.invariant.0 c.new-knowledge.ensures c.lawful.ensures
