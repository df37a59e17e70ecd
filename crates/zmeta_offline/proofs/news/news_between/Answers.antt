use Rattle.std.proofs.Common.{subst, sym}
use Rattle.zknow_changes.specs.Changes.{AreAddable}
use Rattle.zmeta_offline.proofs.NewsTheory.{news_taken}
use Rattle.zmeta_offline.proofs.news.news_between.Goals as goal

pub news_of-requires : goal.news_of-requires
news_of-requires c = subst AreAddable (sym c.deref.ensures.value) c.in_ok-found.ensures.facts

pub returns : goal.returns
returns c =
    news_taken c.args.earlier_names.now c.args.earlier.now c.args.later_names.now c.args.later.now
    c.in_ok-found.found.items c.deref.result.now c.news_of.result c.in_ok-found.ensures.changes c.deref.ensures.value
    c.news_of.ensures
