use Rattle.std.proofs.Common.{◌≡◌, ◌++◌}
use Rattle.std.specs.Vec.Iter.{into_iter_items}
use Rattle.zmeta_world.specs.Search.{AreAskedBy, search_texts}
use Rattle.zmeta_world.proofs.search.put_search.Given as goal

abbrev pub invariant-loop-asked : goal.invariant-loop-asked
invariant-loop-asked l =
    record {
      put : AreAskedBy (search_texts l.search) l.yielded l.put.items;
      whole : l.yielded ++ into_iter_items l.asked-iterator ≡ into_iter_items l.initial.asked-iterator;
    }
