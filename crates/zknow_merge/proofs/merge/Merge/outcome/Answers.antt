use Rattle.std.proofs.Common.{◌≡◌, length, sym, ap, subst, ◌∙◌, arith}
use Rattle.zknow_merge.specs.Merges.{IsStep}
use Rattle.zknow_merge.specs.Refusals.{step_of}
use Rattle.zknow_merge.proofs.EndTheory.{refused, all_joined, all_whole}
use Rattle.zknow_merge.proofs.merge.Merge.outcome.Goals as goal

pub returns-in-None-clause-ended : goal.returns-in-None-clause-ended
returns-in-None-clause-ended c = λ inputs written was settled named quiet.
    (all_whole inputs written c.args.self.now was settled quiet named c.in-None.is, all_joined inputs written c.args.self.now was settled quiet named c.in-None.is)

pub returns-in-Some-clause-ended : goal.returns-in-Some-clause-ended
returns-in-Some-clause-ended c = λ inputs written was settled named quiet.
    let ok = c.args.self.now.sources.ok in
    let count : c.len-count.result ≡ length c.args.self.now.sources.items = omega (arith, ok, c.len-count.ensures) in
    subst (IsStep inputs written) (sym (c.step_of_refusal.ensures ∙ ap (step_of c.in-Some.refusal) count))
    (refused inputs written c.args.self.now was settled quiet named c.in-Some.refusal c.in-Some.is)
