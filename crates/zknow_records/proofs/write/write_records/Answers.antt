use Rattle.std.proofs.Common.{◌≡◌, rules}
use Rattle.std.specs.Option.{option_copied}
use Rattle.zknow_records.specs.Records.{is_diagnostic, is_other, syntaxes_left, conflicts_left}
use Rattle.zknow_records.proofs.Taking.{same_left, taken_counted}
use Rattle.zknow_records.proofs.write.write_records.Goals as goal

pub returns-clause-left : goal.returns-clause-left
returns-clause-left c =
    let asked = option_copied c.args.syntax in
    let facts = c.args.knowledge.now in
    let conflicts : c.conflicts_left.result ≡ conflicts_left c.args.conflicts facts = search rules in
    let syntaxes : c.in_ok-syntaxes.syntaxes ≡ syntaxes_left asked c.args.conflicts facts = search rules in
    let diagnostics = taken_counted is_diagnostic asked c.args.conflicts facts c.count_diagnostics.result c.deref-5.result.now c.in_ok-taken.taken.items
    c.in_ok-rows.rows.items c.deref.result.now c.count_diagnostics.ensures c.deref-5.ensures.value c.in_ok-taken.ensures c.deref.ensures.value c.in_ok-rows.ensures in
    let others = taken_counted is_other asked c.args.conflicts facts c.in_ok-others.others c.deref-3.result.now c.in_ok-taken.taken.items
    c.in_ok-rows.rows.items c.deref.result.now c.in_ok-others.ensures c.deref-3.ensures.value c.in_ok-taken.ensures c.deref.ensures.value c.in_ok-rows.ensures in
    same_left _ _ _ _ _ _ _ _ conflicts syntaxes diagnostics others
