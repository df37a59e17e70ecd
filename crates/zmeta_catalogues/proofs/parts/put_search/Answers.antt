use Rattle.std.proofs.Common.{subst}
use Rattle.zmeta_world.specs.Search.{SearchTexts, IsSearchFault, search_texts}
use Rattle.zmeta_world.specs.declared.search.SearchError.TheVariants as searches
use Rattle.zmeta_catalogues.specs.Asked.{asked_search}
use Rattle.zmeta_catalogues.proofs.OneQuestion.{put_of}
use Rattle.zmeta_catalogues.proofs.parts.put_search.Goals as goal

pub returns-in-Some-clause-ok : goal.returns-in-Some-clause-ok
returns-in-Some-clause-ok c =
    put_of (asked_search c.args.search.now) c.args.catalogue.now (search_texts c.texts_for-texts.result) c.args.question
    c.in-Some.last c.in_ok-one.one.questions c.in-Ok.world.questions c.texts_for-texts.ensures
    c.in_ok-one.ensures.questions c.in-Ok.ensures.put.questions c.in-Ok.ensures.fit.askable c.in-Some.ensures

pub returns-in-Err-Records-clause-err : goal.returns-in-Err-Records-clause-err
returns-in-Err-Records-clause-err c =
    subst (λ (t : SearchTexts). IsSearchFault t searches.Records) c.texts_for-texts.ensures
    (rw c.in-Err-Records.field-0-is at c.in-Err-Records.ensures.err)

pub returns-in-Err-Syntax-clause-err : goal.returns-in-Err-Syntax-clause-err
returns-in-Err-Syntax-clause-err c =
    subst (λ (t : SearchTexts). IsSearchFault t searches.Syntax) c.texts_for-texts.ensures
    (rw c.in-Err-Syntax.field-0-is at c.in-Err-Syntax.ensures.err)
