use Rattle.std.proofs.Common.{◌≡◌, None, Some, ◌∙◌, sym, ap, subst, rules}
use Rattle.zorigin.specs.Answers.{HaveValidRanges, HasFitAnswer}
use Rattle.zorigin.specs.Fitting.{fault_of}
use Rattle.zorigin.specs.Replies.{named, taken_as}
use Rattle.zorigin.proofs.Askable.{fit_answer}
use Rattle.zorigin.proofs.origin.Origin.against.Goals as goal

pub returns-in-Ok-clause-showable : goal.returns-in-Ok-clause-showable
returns-in-Ok-clause-showable c =
    let same : c.self.inside.outstanding.entries ≡ c.args.self.now.outstanding = search rules in
    let name : named c.args.self.now c.args.id.now ≡ Some c.in-Some.asked.now = search rules in
    let fits : fault_of c.in-Some.asked.now.what c.args.reply.now ≡ None = search rules in
    subst (HasFitAnswer c.args.reply.now) (sym (c.taken_as.ensures ∙ ap taken_as c.in-Ok.ensures))
    (fit_answer c.args.self.now c.args.id.now c.in-Some.asked.now c.args.reply.now (subst HaveValidRanges same c.self.invariant) name fits)
