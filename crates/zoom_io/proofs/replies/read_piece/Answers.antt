use Rattle.std.proofs.Common.{◌≡◌, ◌∙◌, ◌<◌, ◌≤◌, length, ap, subst, sym, Err, arith, rules}
use Rattle.std.proofs.lemmas.Result.{err_from_is_err_and}
use Rattle.zoom_io.specs.Answering.{AfterReadPiece}
use Rattle.zoom_io.proofs.Answering.{on_fed, starves_unfed}
use Rattle.zoom_io.proofs.replies.read_piece.Goals as goal

pub returns-in_err-feed-in-Ok : goal.returns-in_err-feed-in-Ok
returns-in_err-feed-in-Ok g c =
    let some : 0 < c.in-Ok.count = search rules in
    let whole : length c.read.new.piece ≡ 4096 = search rules in
    let front = c.in-Ok.ensures.bound in
    let few : c.in-Ok.count ≤ 4096 = omega (arith, front.0, whole) in
    let p = err_from_is_err_and c.from_residual.result c.from_residual.ensures.1 in
    let left = g.R.Source.state c.read.new.self in
    subst (λ z. AfterReadPiece z c.args.host.now c.feed.new.self (g.R.Source.state c.args.source.now) left)
    (sym (p.1 ∙ ap Err p.2))
    (starves_unfed c.args.host.now c.feed.new.self _ (g.R.Source.state c.args.source.now) left
    c.in_err-feed-in-Ok.ensures.part c.in_err-feed-in-Ok.ensures.err c.in-Ok.ensures.reads.octets.0
    c.in-Ok.ensures.reads.count (subst (λ n. 0 < n) front.1 some) (subst (λ n. n ≤ 4096) front.1 few))

pub returns-in_ok-feed-in-Ok : goal.returns-in_ok-feed-in-Ok
returns-in_ok-feed-in-Ok g c =
    let some : 0 < c.in-Ok.count = search rules in
    let whole : length c.read.new.piece ≡ 4096 = search rules in
    let front = c.in-Ok.ensures.bound in
    let few : c.in-Ok.count ≤ 4096 = omega (arith, front.0, whole) in
    on_fed c.args.host.now c.feed.new.self _ (g.R.Source.state c.args.source.now) (g.R.Source.state c.read.new.self)
    c.in_ok-feed-in-Ok.ensures.fed c.in-Ok.ensures.reads.octets.0 c.in-Ok.ensures.reads.count
    (subst (λ n. 0 < n) front.1 some) (subst (λ n. n ≤ 4096) front.1 few)
