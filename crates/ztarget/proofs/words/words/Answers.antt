use Rattle.std.proofs.Common.{◌∙◌, ap, ◌++◌, not, arith}
use Rattle.std.proofs.lemmas.List.Sums.{prefix_len-le-length}
use Rattle.std.specs.List.{position_or_len}
use Rattle.ztarget.specs.Words.{is_between, word_runs}
use Rattle.ztarget.proofs.Cuts.{word_more, lowered}
use Rattle.ztarget.proofs.words.words.Goals as goal

pub loop-rest-init : goal.loop-rest-init
loop-rest-init c =
    ap (λ found. found ++ word_runs c.in_ok-rest.rest) c.new-words.ensures.items
    ∙ ap word_runs c.in_ok-rest.ensures
    ∙ lowered c.args.text.now

pub split_to-requires : goal.split_to-requires
split_to-requires c =
    let first = c.word_len-len.ensures ∙ ap (position_or_len is_between) c.as_slice.ensures in
    omega (arith, first, prefix_len-le-length (λ b. not (is_between b)) c.loop-rest.rest)

pub loop-rest-preserved : goal.loop-rest-preserved
loop-rest-preserved c =
    let behind = c.split_to.new.self in
    ap (λ rest. c.put_word.new.words.items ++ word_runs rest) c.advance.ensures
    ∙ word_more c.args.text.now c.loop-rest.rest c.in_ok-split_to.field-0 behind c.word_len-len.result c.min.result c.loop-rest.words.items c.put_word.new.words.items
    (c.word_len-len.ensures ∙ ap (position_or_len is_between) c.as_slice.ensures)
    c.in_ok-split_to.ensures.front
    c.in_ok-split_to.ensures.rest
    (λ some. omega (arith, some, c.min.ensures, c.len.ensures.value))
    c.in_ok-put_word.ensures
    c.loop-rest.invariant
