use Rattle.std.proofs.Common.{◌≡◌, ◌∷◌, [], ◌++◌, length, sym, ap, subst, ◌∙◌, append_assoc, arith}
use Rattle.std.specs.Vec.Iter.{into_iter_items}
use Rattle.zoom_questions.specs.NewTargets.{AreNew}
use Rattle.zoom_sim.specs.RunSteps.{ArePeersOf}
use Rattle.zoom_sim.proofs.RunWorlds.{new_at, peers_push}
use Rattle.zoom_sim.proofs.peers.peers_of.Goals as goal

pub peer_of-requires : goal.peer_of-requires
peer_of-requires c =
    let at = c.loop-target in
    let x = c.in-Some.target in
    let steps : into_iter_items at.target-iterator ≡ x ∷ into_iter_items c.next.new.self = c.in-Some.ensures.steps.0 in
    let all : at.yielded ++ x ∷ into_iter_items c.next.new.self ≡ c.args.targets.items =
    ap (λ l. at.yielded ++ l) (sym steps) ∙ at.invariant.0 ∙ c.into_iter-target-iterator.ensures.into_iter_gives.0 in
    new_at at.yielded x (into_iter_items c.next.new.self) (subst AreNew (sym all) c.requires)

pub loop-target-preserved : goal.loop-target-preserved
loop-target-preserved c =
    let at = c.loop-target in
    let x = c.in-Some.target in
    let steps : into_iter_items at.target-iterator ≡ x ∷ into_iter_items c.next.new.self = c.in-Some.ensures.steps.0 in (
      append_assoc at.yielded (x ∷ []) _ ∙ rw (← steps) at.invariant.0,
      subst (ArePeersOf (at.yielded ++ x ∷ [])) (sym c.in_ok-push.ensures.items)
          (peers_push at.yielded at.peers.items x c.peer_of.result at.invariant.1 c.peer_of.ensures),
      let was = at.invariant.2 in
          let gone = c.in-Some.ensures.steps.1 in
          let short = ap length steps in
          omega arith,
    )
