use Rattle.zmeta_catalogue_files.proofs.ErrorLines.{one_more}
use Rattle.zmeta_catalogue_files.proofs.listing.put_errors.Goals as goal

pub loop-mistake-preserved : goal.loop-mistake-preserved
loop-mistake-preserved c =
    one_more c.args.path.now c.args.lines.now.items c.loop-mistake.lines.items c.put_error.new.lines.items
    c.loop-mistake.mistake-index c.loop-mistake.invariant c.in_ok-put_error.ensures
