use Rattle.zknow_titles.proofs.NameTheory.{names_have_columns}
use Rattle.zknow_titles.proofs.SafeTheory.{records_are_safe}
use Rattle.zknow_titles.proofs.titles.print_fields.Goals as goal

pub returns-in_err-text-clause-safe : goal.returns-in_err-text-clause-safe
returns-in_err-text-clause-safe c =
    records_are_safe c.args.names.now c.args.charsets.now c.args.stops.now c.args.knowledge.now

pub returns-in_err-text-clause-columns : goal.returns-in_err-text-clause-columns
returns-in_err-text-clause-columns c = names_have_columns c.args.names.now c.args.knowledge.now

pub returns-clause-safe : goal.returns-clause-safe
returns-clause-safe c =
    records_are_safe c.args.names.now c.args.charsets.now c.args.stops.now c.args.knowledge.now

pub returns-clause-columns : goal.returns-clause-columns
returns-clause-columns c = names_have_columns c.args.names.now c.args.knowledge.now
