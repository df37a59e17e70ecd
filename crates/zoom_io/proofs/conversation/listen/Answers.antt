use Rattle.std.proofs.Common.{◌≡◌, ◌<◌, ◌≤◌, length, ap, subst, sym, ◌∙◌, Err, rules, arith}
use Rattle.std.proofs.lemmas.Result.{err_from_is_err_and}
use Rattle.zoom_io.specs.Talking.{AfterListen}
use Rattle.zoom_io.proofs.Starving.{halts_unfed}
use Rattle.zoom_io.proofs.Ending.{fed_on}
use Rattle.zoom_io.proofs.Others.{else_others}
use Rattle.zoom_io.proofs.Blameless.{if_talk}
use Rattle.zoom_io.proofs.conversation.listen.Goals as goal

pub returns-in_ok-feed-in-Ok-clause-listens : goal.returns-in_ok-feed-in-Ok-clause-listens
returns-in_ok-feed-in-Ok-clause-listens g c =
    let some : 0 < c.in-Ok.count = search rules in
    let whole : length c.read.new.piece ≡ 4096 = search rules in
    let front = c.in-Ok.ensures.bound in
    let few : c.in-Ok.count ≤ 4096 = omega (arith, front.0, whole) in
    fed_on c.args.c c.args.meta.now c.feed.new.self _ _ _ c.in_ok-feed-in-Ok.ensures.after
    c.in-Ok.ensures.reads.octets.0 c.in-Ok.ensures.reads.count (subst (λ n. 0 < n) front.1 some)
    (subst (λ n. n ≤ 4096) front.1 few)

pub returns-in_err-feed-in-Ok-clause-listens : goal.returns-in_err-feed-in-Ok-clause-listens
returns-in_err-feed-in-Ok-clause-listens g c =
    let some : 0 < c.in-Ok.count = search rules in
    let whole : length c.read.new.piece ≡ 4096 = search rules in
    let front = c.in-Ok.ensures.bound in
    let few : c.in-Ok.count ≤ 4096 = omega (arith, front.0, whole) in
    let p = err_from_is_err_and c.from_residual.result c.from_residual.ensures.1 in
    subst (λ z. AfterListen c.args.c z c.args.meta.now c.feed.new.self (g.R.Source.state c.args.source.now)
    (g.R.Source.state c.read.new.self)) (sym (p.1 ∙ ap Err p.2))
    (halts_unfed c.args.c c.args.meta.now c.feed.new.self _ _ _ c.in_err-feed-in-Ok.ensures.err
    c.in-Ok.ensures.reads.octets.0 (subst (λ n. 0 < n) front.1 some) (subst (λ n. n ≤ 4096) front.1 few))

pub returns-in_ok-feed-in-Ok-clause-others : goal.returns-in_ok-feed-in-Ok-clause-others
returns-in_ok-feed-in-Ok-clause-others g c =
    else_others c.args.c c.args.meta.now.pool c.feed.new.self.pool c.feed.ensures.rest

pub returns-in_err-feed-in-Ok-clause-others : goal.returns-in_err-feed-in-Ok-clause-others
returns-in_err-feed-in-Ok-clause-others g c =
    else_others c.args.c c.args.meta.now.pool c.feed.new.self.pool c.feed.ensures.rest

pub returns-in_err-feed-in-Ok-clause-no_failure : goal.returns-in_err-feed-in-Ok-clause-no_failure
returns-in_err-feed-in-Ok-clause-no_failure g c = if_talk c.from_residual.result c.in-Ok.ensures.reads.count
