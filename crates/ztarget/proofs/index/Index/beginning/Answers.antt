use Rattle.std.proofs.Common.{◌++◌, ◌∙◌, ap}
use Rattle.ztarget.specs.Indexing.{begun, all_indexed_places}
use Rattle.ztarget.proofs.Truncations.{front_begun, front_is}
use Rattle.ztarget.proofs.index.Index.beginning.Goals as goal

pub loop-key-init : goal.loop-key-init
loop-key-init c =
    let word = c.args.word.now in
    ap (λ l. l ++ all_indexed_places (front_begun word c.into_iter-key-iterator.result)) c.new-found.ensures.items
    ∙ ap (λ es. all_indexed_places (front_begun word es)) (c.into_iter-key-iterator.ensures.into_iter_gives ∙ c.range-range.ensures.between tt)
    ∙ ap all_indexed_places (front_is word c.self.inside.words.entries c.range-range.ensures.ordered)
    ∙ ap (λ es. all_indexed_places (begun word es)) c.self.view_is
