use Rattle.std.proofs.Common.{◌∙◌, ◌^◌, ◌<◌, List, length, sym, subst}
use Rattle.std.proofs.lemmas.Result.{err_from_is_err_and}
use Rattle.zmeta_world.specs.declared.world.World.{World}
use Rattle.zmeta_catalogues.specs.declared.catalogue.Catalogue.{Catalogue}
use Rattle.zmeta_catalogues.specs.Asked.{asked_search, IsAskedWorld}
use Rattle.zmeta_catalogues.specs.AskErrors.{AreAskErrors}
use Rattle.zmeta_catalogues.proofs.Asking.{put_into, asked_world, fit_world, refused}
use Rattle.zmeta_catalogues.proofs.reader.Catalogues.world.Goals as goal

pub returns-in_err-asked-clause-err : goal.returns-in_err-asked-clause-err
returns-in_err-asked-clause-err c =
    let s = asked_search c.args.search.now in
    let p = err_from_is_err_and c.from_residual.result c.from_residual.ensures.1 in
    refused (AreAskErrors s c.args.self.now.list) c.in_err-asked.field-0.0 p.0 c.from_residual.result p.1 p.2
    (subst (λ (cs : List Catalogue). AreAskErrors s cs c.in_err-asked.field-0.0) c.as_slice-catalogues.ensures
    c.in_err-asked.ensures.err)

pub returns-clause-world : goal.returns-clause-world
returns-clause-world c =
    let s = asked_search c.args.search.now in
    let cs = c.as_slice-catalogues.result.now in
    let w : World = record {
      step = c.least_step.result;
      window = c.least_window.result;
      targets = c.from_vec.result;
      hosts = c.from_vec-2.result;
      questions = c.from_vec-3.result;
      moves = c.from_vec-4.result;
    } in
    subst (λ (xs : List Catalogue). IsAskedWorld s xs w) c.as_slice-catalogues.ensures
    (asked_world s cs w c.least_step.ensures.least c.least_window.ensures.least
    (c.from_vec.ensures ∙ c.new.ensures.items)
    (c.from_vec-4.ensures ∙ c.new-2.ensures.items)
    (put_into s cs (length cs) c.in_ok-asked.asked.hosts.items c.from_vec-2.result c.in_ok-asked.asked.questions.items
    c.from_vec-3.result c.from_vec-2.ensures c.from_vec-3.ensures c.in_ok-asked.ensures.ok))

pub returns-clause-fit : goal.returns-clause-fit
returns-clause-fit c =
    let s = asked_search c.args.search.now in
    let cs = c.as_slice-catalogues.result.now in
    let w : World = record {
      step = c.least_step.result;
      window = c.least_window.result;
      targets = c.from_vec.result;
      hosts = c.from_vec-2.result;
      questions = c.from_vec-3.result;
      moves = c.from_vec-4.result;
    } in
    fit_world s cs w
    (subst (λ (xs : List Catalogue). length xs < 2 ^ 32) (sym c.as_slice-catalogues.ensures) c.requires)
    c.least_step.ensures.some c.least_step.ensures.most c.least_window.ensures.some c.least_window.ensures.most
    (c.from_vec.ensures ∙ c.new.ensures.items)
    (put_into s cs (length cs) c.in_ok-asked.asked.hosts.items c.from_vec-2.result c.in_ok-asked.asked.questions.items
    c.from_vec-3.result c.from_vec-2.ensures c.from_vec-3.ensures c.in_ok-asked.ensures.ok)
