use Rattle.zoom.specs.Metas.{is_skipped, is_complete}
use Rattle.zoom.proofs.Advancing.{tells_after}
use Rattle.zmeta_commands.proofs.Troubles.{trouble_at}
use Rattle.zmeta_commands.proofs.trouble.is_troubled.Goals as goal

pub returns : goal.returns
returns c =
    trouble_at c.one_transcript.ensures c.args.c c.args.meta.now c.state.result c.is_failed-failed.result c.complete-complete.result c.skipped-skipped.result c.is_any.result
    c.requires c.state.ensures.state c.is_failed-failed.ensures
    (tells_after c.args.c c.args.meta.now is_complete c.complete-complete.result c.complete-complete.ensures)
    (tells_after c.args.c c.args.meta.now is_skipped c.skipped-skipped.result c.skipped-skipped.ensures) c.is_any.ensures
