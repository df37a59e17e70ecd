use Rattle.std.proofs.Common.{◌≡◌, ◌∙◌, ap, sym, subst, ◌+◌, ◌-◌, ◌<◌, length, drop, arith}
use Rattle.ztarget.specs.Phrasing.{phrase_places, preceding}
use Rattle.ztarget.proofs.Truncations.{one_word}
use Rattle.ztarget.proofs.Walks.{last_dropped, walked_drop}
use Rattle.ztarget.proofs.phrase.phrase_places.Goals as goal

pub loop-i-init : goal.loop-i-init
loop-i-init c =
    let whole : (length c.args.asked.now - 1) + 1 ≡ length c.args.asked.now = omega arith in
    c.in_ok-found.ensures
    ∙ ap (λ l. phrase_places c.args.truncated l c.args.entries.now) (sym (last_dropped c.args.asked.now (length c.args.asked.now - 1) c.index-asked-last.result whole c.index-asked-last.is))

pub loop-i-preserved : goal.loop-i-preserved
loop-i-preserved c =
    let i = c.loop-i.i - 1 in
    let next : i + 1 ≡ c.loop-i.i = omega arith in
    let within : i + 1 < length c.args.asked.now = omega arith in
    let follow = subst (λ n. c.loop-i.found.items ≡ phrase_places c.args.truncated (drop n c.args.asked.now) c.args.entries.now) (sym next) c.loop-i.invariant in
    let stand = c.places.ensures ∙ c.requires.index c.index-asked-i.result ∙ one_word c.args.entries.now c.index-asked-i.result in
    c.in_ok-found-2.ensures
    ∙ ap (preceding c.places.result.now) c.deref.ensures.value
    ∙ walked_drop c.args.truncated c.args.asked.now i c.index-asked-i.result c.args.entries.now c.places.result.now c.loop-i.found.items within c.index-asked-i.is stand follow

pub returns : goal.returns
returns c =
    let none : c.loop-i.i ≡ 0 = omega arith in
    c.loop-i.invariant ∙ ap (λ n. phrase_places c.args.truncated (drop n c.args.asked.now) c.args.entries.now) none
