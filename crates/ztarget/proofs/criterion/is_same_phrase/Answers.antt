use Rattle.std.proofs.Common.{◌≡◌, ◌∙◌, sym, rules}
use Rattle.ztarget.specs.Asking.{HasPhrase}
use Rattle.ztarget.proofs.Repeats.{same_words, true_by_equation}
use Rattle.ztarget.proofs.criterion.is_same_phrase.Goals as goal

pub returns : goal.returns
returns c =
    let used : c.in-Phrase.used ≡ c.in-Phrase-second.other_used = search rules in
    let truncated : c.in-Phrase.truncated ≡ c.in-Phrase-second.other_truncated = search rules in
    true_by_equation c.eq.result _ (λ same.
    let words : c.in-Phrase.asked ≡ c.in-Phrase-second.other_asked = sym c.as_slice.ensures ∙ same_words c.as_slice.result.now c.as_slice-2.result.now (sym c.eq.ensures ∙ same) ∙ c.as_slice-2.ensures in
    rw (c.in-Phrase.is, c.in-Phrase-second.is) (λ i. HasPhrase (used i) (truncated i) (words i)))
