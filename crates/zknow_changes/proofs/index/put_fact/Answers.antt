use Rattle.std.proofs.Common.{subst, sym, refl}
use Rattle.std.specs.Prelude.{Contains, Some}
use Rattle.zknow_changes.specs.Records.{held_contents}
use Rattle.zknow_changes.specs.Indexes.{IsIndexMore}
use Rattle.zknow_changes.proofs.HeldTheory.{on_ok, union_some}
use Rattle.zknow_changes.proofs.index.put_fact.Goals as goal

pub returns-in_ok-put_contents-in-Seen : goal.returns-in_ok-put_contents-in-Seen
returns-in_ok-put_contents-in-Seen c =
    let held = held_contents c.args.names.now c.in-Seen.target c.in-Seen.rec in
    on_ok c.put_number.result
    (λ told. subst (λ f. IsIndexMore c.args.names.now f c.args.index.now
    (record { contents = c.put_contents.new.set; numbers = c.put_number.new.set }))
    (sym c.in-Seen.is)
    (record {
      contents = union_some (Some held) held (Contains c.args.index.now.contents.keys)
          (Contains c.put_contents.new.set.keys) refl c.in_ok-put_contents-in-Seen.ensures;
      numbers = told;
    }))
    c.put_number.ensures
