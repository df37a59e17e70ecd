use Rattle.std.proofs.Common.{subst, subst₂, ℕ, List, Ok, Err}
use Rattle.std.specs.Borrow.{Bor}
use Rattle.zmeta_args.specs.Texts.{texts_of}
use Rattle.zmeta_trace.specs.Heads.{head_texts}
use Rattle.zmeta_commands.specs.Replay.{ChosenResult}
use Rattle.zmeta_commands.proofs.Showing.{head_unchosen, by_plan}
use Rattle.zmeta_commands.proofs.dialogue.text_by.Goals as goal

pub returns-in-Err : goal.returns-in-Err
returns-in-Err c =
    let e = c.args.network.now in
    head_unchosen (texts_of c.args.only.now) c.args.trace.now (head_texts c.args.head.now) e c.in-Err.fault
    (subst (λ (only : List (Bor (List ℕ))). ChosenResult (texts_of only) e.names e.addresses (Err c.in-Err.fault))
    c.as_slice.ensures.value
    (subst₂ (λ (names addresses : List (List ℕ)). ChosenResult (texts_of c.as_slice.result.now) names addresses
    (Err c.in-Err.fault)) c.as_slice-names.ensures c.as_slice-addresses.ensures c.in-Err.ensures))

pub returns : goal.returns
returns c =
    let e = c.args.network.now in
    by_plan (λ text. text.items) (texts_of c.args.only.now) c.args.trace.now (head_texts c.args.head.now) e
    c.as_slice-names.result.now c.in-Ok.chosen.items c.text_with.result c.as_slice-names.ensures
    (subst (λ (only : List (Bor (List ℕ))). ChosenResult (texts_of only) e.names e.addresses
    (Ok c.in-Ok.chosen.items)) c.as_slice.ensures.value
    (subst₂ (λ (names addresses : List (List ℕ)). ChosenResult (texts_of c.as_slice.result.now) names addresses
    (Ok c.in-Ok.chosen.items)) c.as_slice-names.ensures c.as_slice-addresses.ensures c.in-Ok.ensures))
    c.in_default.ensures c.text_with.ensures
