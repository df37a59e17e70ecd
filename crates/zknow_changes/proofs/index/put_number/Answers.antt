use Rattle.std.proofs.Common.{◌∙◌, sym}
use Rattle.std.specs.Prelude.{Contains}
use Rattle.zknow_changes.specs.Records.{held_number}
use Rattle.zknow_changes.proofs.HeldTheory.{on_ok, union_some}
use Rattle.zknow_changes.proofs.index.put_number.Goals as goal

pub returns-in-Some : goal.returns-in-Some
returns-in-Some c =
    on_ok c.put.result
    (union_some (held_number c.args.names.now c.args.target c.args.record.now) c.in-Some.held
    (Contains c.args.set.now.keys) (Contains c.put.new.set.keys) (sym c.in_ok-held.ensures ∙ c.in-Some.is))
    c.put.ensures
