use Rattle.std.proofs.Common.{◌∷◌}
use Rattle.std.proofs.lemmas.Result.{err_from_is_err_and}
use Rattle.zmeta_args.specs.Texts.{texts_of}
use Rattle.zmeta_offline.proofs.NewsTheory.{news_refused, news_unnamed}
use Rattle.zmeta_offline.proofs.news.news_since.Goals as goal

pub returns-in_err-before : goal.returns-in_err-before
returns-in_err-before g c =
    let p = err_from_is_err_and c.from_residual.result c.from_residual.ensures.1 in
    news_refused (g.F.Folder.octets c.args.files.now) c.args.earlier.now
    (c.args.saved.first.now ∷ texts_of c.args.saved.others.now) (texts_of c.args.only.now) c.in_err-before.field-0.0 p.0
    c.from_residual.result p.1 p.2 c.in_err-before.ensures

pub returns-in_err-chosen_before : goal.returns-in_err-chosen_before
returns-in_err-chosen_before g c =
    let p = err_from_is_err_and c.from_residual-in_err-chosen_before.result c.from_residual-in_err-chosen_before.ensures.1 in
    news_unnamed (g.F.Folder.octets c.args.files.now) c.args.earlier.now
    (c.args.saved.first.now ∷ texts_of c.args.saved.others.now) (texts_of c.args.only.now) c.in_ok-before.before.1
    c.in_ok-before.before.0 c.in_ok-before.after.1 c.in_ok-before.after.0 c.in_err-chosen_before.field-0.0 p.0
    c.from_residual-in_err-chosen_before.result p.1 p.2 c.in_ok-before.ensures.1 c.in_err-chosen_before.ensures

pub returns : goal.returns
returns g c = record {
  earlier_names = c.in_ok-before.before.1;
  before = c.in_ok-before.before.0;
  old = c.in_ok-chosen_before.chosen_before;
  names = c.in_ok-before.after.1;
  after = c.in_ok-before.after.0;
  new = c.in_ok-chosen_before.chosen_after;
  saved = c.in_ok-before.ensures.0;
  joined = c.in_ok-before.ensures.1;
  old_chosen = c.in_ok-chosen_before.ensures.0;
  known = c.in_ok-chosen_before.ensures.1;
  new_chosen = c.in_ok-chosen_before.ensures.2;
  between = c.in_ok-news.ensures;
  status_is = c.status_of_both-status.ensures;
}
