use Rattle.std.proofs.Common.{◌≡◌, ◌∙◌, ◌<◌, ◌≤◌, length, w64, to_z, of_z, arith, rules}
use Rattle.std.proofs.lemmas.Result.{IfOk-weaker}
use Rattle.ztarget.proofs.Narrowings.{having_word}
use Rattle.ztarget.proofs.Truncations.{one_word}
use Rattle.ztarget.proofs.evaluation.Evaluation.narrowed_places.Goals as goal

pub returns-in-len1-clause-narrowed : goal.returns-in-len1-clause-narrowed
returns-in-len1-clause-narrowed c =
    let sought = c.args.sought in
    let entries = c.self.inside.entries.now in
    let word = c.word-item.result in
    let some : 1 ≤ length sought.asked.now = omega arith in
    let few : length sought.asked.now < 2 = omega arith in
    let used : to_z w64 (of_z w64 sought.used) ≡ sought.used = search rules in
    let stand = c.places-places.ensures ∙ c.self.invariant.0 word ∙ one_word entries word in
    rw (← c.self.view_is) (IfOk-weaker c.narrowed_places.result _ _
    (λ found told. having_word sought.used entries sought.truncated sought.asked.now word c.places-places.result.now c.args.among.now found.items some few c.word-item.is c.if-not-sought.true stand (rw used at told))
    c.narrowed_places.ensures)
