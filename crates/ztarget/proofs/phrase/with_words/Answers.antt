use Rattle.std.proofs.Common.{◌∙◌, ap, ◌<◌, ◌≤◌, length, None, w64, arith}
use Rattle.std.proofs.lemmas.Int.{to_z-of_z}
use Rattle.ztarget.specs.Indexing.{is_searched_place, entries_at}
use Rattle.ztarget.proofs.Lookups.{phrase_found, one_found}
use Rattle.ztarget.proofs.Truncations.{one_word}
use Rattle.ztarget.proofs.phrase.with_words.Goals as goal

pub returns-in-len1 : goal.returns-in-len1
returns-in-len1 c =
    let some : 1 ≤ length c.args.asked.now = omega arith in
    let few : length c.args.asked.now < 2 = omega arith in
    let stand = c.places.ensures ∙ c.requires.index c.word-item.result ∙ one_word c.args.entries.now c.word-item.result in
    let found = one_found c.args.used c.args.entries.now c.args.truncated c.args.asked.now c.word-item.result c.places.result.now some few c.word-item.is c.if-not-truncated.true stand in
    rw (to_z-of_z w64 c.args.used c.ranges.used, found) at c.entries_at.ensures

pub returns-in_ok-places-in_default : goal.returns-in_ok-places-in_default
returns-in_ok-places-in_default c =
    let some : 1 ≤ length c.args.asked.now = omega arith in
    let found = ap (entries_at (is_searched_place c.args.used c.args.entries.now) None) (c.deref.ensures.value ∙ c.in_ok-places-in_default.ensures)
    ∙ phrase_found c.args.used c.args.entries.now c.args.truncated c.args.asked.now some in
    rw (to_z-of_z w64 c.args.used c.ranges.used, found) at c.entries_at-in_default.ensures
