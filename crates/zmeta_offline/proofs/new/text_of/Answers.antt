use Rattle.std.proofs.Common.{subst, sym}
use Rattle.zknow_changes.specs.Changes.{AreAddable}
use Rattle.zmeta_offline.specs.New.{IsChangesText}
use Rattle.zmeta_offline.proofs.new.text_of.Goals as goal

pub put_changes-requires-clause-addable : goal.put_changes-requires-clause-addable
put_changes-requires-clause-addable c =
    subst AreAddable (sym c.deref.ensures.value) c.in_ok-found.ensures.facts

pub returns : goal.returns
returns c = (
  c.in_ok-found.found.items,
  c.in_ok-found.ensures.changes,
  subst (λ z. IsChangesText c.args.view c.args.before.now.1 c.args.after.now.1 z c.put_changes.new.text.items)
      c.deref.ensures.value c.in_ok-put_changes.ensures,
)
