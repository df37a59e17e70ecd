use Rattle.std.proofs.Common.{◌≡◌, subst}
use Rattle.std.specs.Prelude.{Contains, OnOk}
use Rattle.zknow.specs.Tables.Join.{IsUnion}
use Rattle.zknow_changes.proofs.index.put_contents.Goals as goal

pub returns : goal.returns
returns c =
    subst (λ z. OnOk c.put.result (IsUnion (Contains c.args.set.now.keys) (λ q. q ≡ z) (Contains c.put.new.set.keys)))
    c.in_ok-held.ensures c.put.ensures
