use Rattle.std.proofs.Common.{◌++◌, ◌∷◌, []}
use Rattle.std.proofs.lemmas.List.Elements.{All-push, All-same}
use Rattle.ztarget.specs.Levels.{IsShowableRecord}
use Rattle.ztarget.proofs.record.put_first.Goals as goal

pub returns-clause-showable : goal.returns-clause-showable
returns-clause-showable c = λ h. c.put_fitting.ensures.showable
    (All-same IsShowableRecord c.push.new.self.items (c.args.records.now.items ++ c.in_ok-record.record ∷ []) c.in_ok-push.ensures.items
    (All-push IsShowableRecord c.args.records.now.items c.in_ok-record.record h c.in_ok-record.ensures.showable))
