use Rattle.std.proofs.lemmas.Result.{err_from_is_err_and}
use Rattle.zmeta_world.specs.WorldParts.{list_of}
use Rattle.zmeta_world.specs.Worlds.{add_content, in_database}
use Rattle.zmeta_world.proofs.WorldReads.{refused_last, still_named, database_stays}
use Rattle.zmeta_world.proofs.world.targets.with_target_content.Goals as goal

pub returns-in_err-with_database_content : goal.returns-in_err-with_database_content
returns-in_err-with_database_content c =
    let p = err_from_is_err_and c.from_residual.result c.from_residual.ensures.1 in
    refused_last (in_database (add_content c.args.content)) c.had.inside.before.items c.had.inside.name c.had.inside.settings (list_of c.had.inside.databases) c.args.had c.in-Some.had c.in_err-with_database_content.field-0.0 p.0 c.from_residual.result
    c.in-Some.is c.had.view_is p.1 p.2 c.in_err-with_database_content.ensures

pub invariant_of-result : goal.invariant_of-result
invariant_of-result c =
    still_named (in_database (add_content c.args.content)) c.had.inside.names.keys (list_of c.had.inside.databases) c.in_ok-with_database_content.field-0 (database_stays (add_content c.args.content)) c.had.invariant c.in_ok-with_database_content.ensures
