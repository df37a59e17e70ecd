use Rattle.std.proofs.Common.{◌∙◌}
use Rattle.std.proofs.lemmas.List.Filters.{dedup_is}
use Rattle.zknow.proofs.ListTheory.SortedKeys.{sorted_once}
use Rattle.zknow.proofs.list.list_keys.sort_keys.Goals as goal

pub returns : goal.returns
returns g c = dedup_is _ _ _ c.dedup.ensures.filtered
    ∙ sorted_once g.K.Ord.cmp g.met.K.Ord.total g.met.K.Key.exact g.K.PartialEq.eq g.met.K.Eq.laws g.met.K.Ord.matches_eq c.args.keys.items c.sort_unstable.new.self.items c.sort_unstable.ensures.permutation c.sort_unstable.ensures.sorted
