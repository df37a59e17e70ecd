use Rattle.zmeta_catalogue_files.specs.Listing.{HasErrorLines}
use Rattle.zmeta_catalogue_files.proofs.listing.put_errors.Given as goal

abbrev pub invariant-loop-mistake : goal.invariant-loop-mistake
invariant-loop-mistake l = HasErrorLines l.path l.mistake-index l.fn.lines.items l.lines.items
