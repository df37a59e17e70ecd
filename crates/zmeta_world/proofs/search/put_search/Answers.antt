use Rattle.std.proofs.Common.{◌≡◌, ◌∙◌, sym, subst, refl, [], ◌∷◌, append_assoc, rules}
use Rattle.std.specs.Vec.Iter.{into_iter_items}
use Rattle.zmeta_world.specs.Search.{AreAskedBy, search_texts}
use Rattle.zmeta_world.proofs.Searching.{one_more_asked}
use Rattle.zmeta_world.proofs.search.put_search.Goals as goal

pub loop-asked-init : goal.loop-asked-init
loop-asked-init c =
    let none : c.new-put.result.items ≡ [] = search rules in
    record { put = subst (AreAskedBy (search_texts c.args.search.now) []) (sym none) tt; whole = refl }

pub loop-asked-preserved : goal.loop-asked-preserved
loop-asked-preserved c =
    let at = c.loop-asked in
    let x = c.in-Some.asked in
    let steps : into_iter_items at.asked-iterator ≡ x ∷ into_iter_items c.next.new.self = c.in-Some.ensures.steps.0 in
    record {
      put = one_more_asked (search_texts c.args.search.now) at.yielded at.put.items c.push.new.self.items c.in_ok-parsed.parsed x c.asked_with.result
          at.invariant.put c.in_ok-parsed.ensures.ok c.asked_with.ensures c.in_ok-push.ensures.items;
      whole = append_assoc at.yielded (x ∷ []) _ ∙ rw (← steps) at.invariant.whole;
    }
