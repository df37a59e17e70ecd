use Rattle.std.proofs.Common.{◌∙◌, ◌++◌, ap}
use Rattle.std.specs.List.{flat_map}
use Rattle.zknow_changes.specs.Indexes.{row_changes}
use Rattle.zknow_changes.proofs.between.put_side.Goals as goal

pub returns : goal.returns
returns c =
    let changes_at = row_changes c.args.side c.in_ok-index.index c.args.names.now c.args.knowledge.now in
    record {
      index = c.in_ok-index.index;
      indexed = c.in_ok-index.ensures;
      appended = c.in_ok-put_rows.ensures
          ∙ ap (λ rows. c.args.found.now.items ++ flat_map changes_at rows)
          (c.deref.ensures.value ∙ c.in_ok-rows.ensures);
    }
