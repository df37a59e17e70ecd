use Rattle.std.specs.List.{flat_map}
use Rattle.std.proofs.lemmas.Result.{err_from_is_err_and}
use Rattle.zmeta_conversions.specs.Worlds.{first_unsaid}
use Rattle.zmeta_conversions.specs.Catalogues.{untabled, table_text}
use Rattle.zmeta_conversions.proofs.Lines.{none_put, one_put, all_put}
use Rattle.zmeta_conversions.proofs.Tables.{first_untabled_is, table_refused}
use Rattle.zmeta_conversions.proofs.catalogues.put_tables.Goals as goal

pub loop-asked-init : goal.loop-asked-init
loop-asked-init c = none_put (untabled c.args.hosts.now) (table_text c.args.hosts.now) c.args.out.now.items

pub loop-asked-preserved : goal.loop-asked-preserved
loop-asked-preserved c =
    one_put (untabled c.args.hosts.now) (table_text c.args.hosts.now) c.args.questions.now c.loop-asked.asked-index
    c.asked-item.result c.args.out.now.items c.loop-asked.out.items
    c.put_table.new.out.items c.loop-asked-test.true c.asked-item.is c.loop-asked.invariant c.in_ok-put_table.ensures

pub returns-in_err-put_table : goal.returns-in_err-put_table
returns-in_err-put_table c =
    let p = err_from_is_err_and c.from_residual.result c.from_residual.ensures.1 in
    table_refused (first_unsaid (untabled c.args.hosts.now) c.args.questions.now)
    (flat_map (table_text c.args.hosts.now) c.args.questions.now) c.args.out.now.items c.put_table.new.out.items
    c.in_err-put_table.field-0.0 p.0 c.from_residual.result p.1 p.2
    (first_untabled_is c.args.hosts.now (table_text c.args.hosts.now) c.args.questions.now c.loop-asked.asked-index
    c.asked-item.result c.args.out.now.items c.loop-asked.out.items
    c.in_err-put_table.field-0.0 c.loop-asked-test.true c.asked-item.is c.loop-asked.invariant
    c.in_err-put_table.ensures)

pub returns : goal.returns
returns c =
    all_put (untabled c.args.hosts.now) (table_text c.args.hosts.now) c.args.questions.now c.loop-asked.asked-index
    c.args.out.now.items c.loop-asked.out.items c.loop-asked-test.false
    c.loop-asked.invariant
