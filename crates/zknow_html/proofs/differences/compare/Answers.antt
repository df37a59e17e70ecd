use Rattle.std.proofs.Common.{◌+◌, ◌<◌, length, drop, refl, ap, ◌∙◌, rules}
use Rattle.std.proofs.lemmas.Option.{slice_get_read}
use Rattle.zknow_html.specs.Differences.{differences, united}
use Rattle.zknow_html.proofs.DifferenceTheory.{step_at}
use Rattle.zknow_html.proofs.differences.compare.Goals as goal

pub loop-other-preserved : goal.loop-other-preserved
loop-other-preserved c =
    let first = c.args.first.now in
    let others = c.args.others.now in
    let k = c.loop-other.other-index in
    let d = c.other-item.result in
    let within : k < length others = search rules in
    ap (λ a. united a (differences first (drop (k + 1) others)))
    (c.unite-found.ensures ∙ ap (united c.loop-other.found) c.compare_pair.ensures)
    ∙ step_at c.loop-other.found first d others k (slice_get_read others (length others) k d refl within c.other-item.is)
    ∙ c.loop-other.invariant
