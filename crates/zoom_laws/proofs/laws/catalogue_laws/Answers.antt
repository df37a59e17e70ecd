use Rattle.zoom_laws.proofs.CatalogueTheory.CompleteFacts.{catalogue_law, unasked_law}
use Rattle.zoom_laws.proofs.CatalogueTheory.Skipped.{skipped_law}
use Rattle.zoom_laws.proofs.laws.catalogue_laws.Goals as goal

pub returns : goal.returns
returns c = record {
  answers = catalogue_law c.orderly_logs.ensures c.accepted_replies.ensures.accepted c.kept_sets.ensures
      c.shown_laws.ensures c.what_fits.ensures;
  unasked = unasked_law c.orderly_logs.ensures c.accepted_replies.ensures.accepted c.kept_sets.ensures
      c.shown_laws.ensures c.what_fits.ensures;
  skipped = skipped_law c.orderly_logs.ensures c.accepted_replies.ensures.accepted c.kept_sets.ensures
      c.shown_laws.ensures c.what_fits.ensures;
}
