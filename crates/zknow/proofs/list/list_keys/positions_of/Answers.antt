use Rattle.std.proofs.Common.{sym, ap, ◌∙◌}
use Rattle.std.specs.Map.{keys_of}
use Rattle.zknow.proofs.TableTheory.AtKeys.{items_of}
use Rattle.zknow.proofs.ListTheory.TableKeys.{positions_are}
use Rattle.zknow.proofs.list.list_keys.positions_of.Goals as goal
use Rattle.zknow.proofs.list.list_keys.positions_of.Goals.{in-Some+in_ok-put_positions, in_default}

pub returns : goal.returns
returns c =
    let all = positions_are c.args.tables.now c.requires c.args.target c.args.set in
    elim c.match-get.branch [
      | in-Some+in_ok-put_positions w ↦
          let there = rw c.key_of.ensures at w.in-Some.ensures in
          let put = rw c.new-found.ensures.items at w.in_ok-put_positions.ensures in
          ap (λ v. v.items) w.found-is ∙ put ∙ ap (λ o. keys_of (items_of (λ rows. rows) o)) there ∙ all
      | in_default w ↦
          let there = rw c.key_of.ensures at w.in_default.ensures in
          ap (λ v. v.items) w.found-is ∙ c.new-found.ensures.items ∙ ap (λ o. keys_of (items_of (λ rows. rows) o)) there ∙ all
    ]
