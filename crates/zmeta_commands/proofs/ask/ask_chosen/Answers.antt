use Rattle.std.proofs.Common.{subst, subst₂, sym, ℕ, List, Option}
use Rattle.zoom.specs.Asking.{IsTracedAsk}
use Rattle.zoom.specs.Metas.{MetaLinks}
use Rattle.zoom.specs.Question.{Question}
use Rattle.zmeta_commands.proofs.ask.ask_chosen.Goals as goal

pub returns-clause-traced : goal.returns-clause-traced
returns-clause-traced g c =
    let contents = g.T.Write.contents in
    let settings = c.args.network.settings in
    let choice = c.args.terms.choice in
    let waits = c.args.terms.list.waits.now in
    let left = c.in_ok-asked.asked.trace in
    let asked = subst₂ (λ (questions : List Question) (addresses : List (Option (List ℕ))).
    IsTracedAsk contents questions settings choice.manner choice.limits waits addresses c.args.trace
    c.in_ok-asked.asked.meta left) c.into_vec.ensures c.as_slice-3.ensures.value c.in_ok-asked.ensures.traced in
    subst (λ (meta : MetaLinks). IsTracedAsk contents c.args.network.questions settings choice.manner choice.limits
    waits c.args.chosen.items c.args.trace meta left) (sym c.in_ok-finished.ensures.of) asked
