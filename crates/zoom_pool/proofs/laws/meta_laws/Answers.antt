use Rattle.zoom_pool.proofs.MetaLaws.{few_requests, same_list}
use Rattle.zoom_pool.proofs.laws.meta_laws.Goals as goal

pub returns : goal.returns
returns c = record {
  few = few_requests c.driven_laws.ensures;
  same = same_list c.order_does_not_matter.ensures;
}
