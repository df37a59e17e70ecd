use Rattle.std.proofs.Common.{subst, subst₂, ℕ, List, Ok, Err}
use Rattle.std.specs.Borrow.{Bor}
use Rattle.zmeta_args.specs.Texts.{texts_of}
use Rattle.zmeta_trace.specs.Heads.{head_texts}
use Rattle.zmeta_commands.specs.Replay.{ChosenResult}
use Rattle.zmeta_commands.proofs.Replaying.{unchosen}
use Rattle.zmeta_commands.proofs.replay.replay_network.Goals as goal

pub replay_chosen-requires-clause-chosen : goal.replay_chosen-requires-clause-chosen
replay_chosen-requires-clause-chosen c =
    subst (λ (only : List (Bor (List ℕ))). ChosenResult (texts_of only) c.args.network.names c.args.network.addresses
    (Ok c.in-Ok.chosen.items)) c.as_slice.ensures.value
    (subst₂ (λ (names addresses : List (List ℕ)). ChosenResult (texts_of c.as_slice.result.now) names addresses
    (Ok c.in-Ok.chosen.items)) c.as_slice-names.ensures c.as_slice-addresses.ensures c.in-Ok.ensures)

pub returns-clause-replayed : goal.returns-clause-replayed
returns-clause-replayed c =
    unchosen c.args.view c.args.trace.now (head_texts c.args.head.now) c.args.network c.in-Err.fault
    (subst (λ (only : List (Bor (List ℕ))). ChosenResult (texts_of only) c.args.network.names
    c.args.network.addresses (Err c.in-Err.fault)) c.as_slice.ensures.value
    (subst₂ (λ (names addresses : List (List ℕ)). ChosenResult (texts_of c.as_slice.result.now) names addresses
    (Err c.in-Err.fault)) c.as_slice-names.ensures c.as_slice-addresses.ensures c.in-Err.ensures))
