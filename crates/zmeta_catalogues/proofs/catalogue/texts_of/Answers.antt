use Rattle.std.proofs.Common.{◌≡◌, ◌∙◌, ◌+◌, ◌++◌, List, ℕ, Ok, Err, Result, sym, ap, subst, drop}
use Rattle.std.proofs.lemmas.Result.{err_from_is_err_and}
use Rattle.toml.specs.View.{view, items_view}
use Rattle.toml.specs.declared.value.Value.{Value}
use Rattle.zmeta_catalogues.specs.Values.{bind, Reads}
use Rattle.zmeta_catalogues.specs.Catalogues.{database_at, texts_of}
use Rattle.zmeta_catalogues.proofs.Databases.{no_texts, one_text, text_stops, stopped, all_texts}
use Rattle.zmeta_catalogues.proofs.catalogue.texts_of.Goals as goal

pub items-init : goal.items-init
items-init c =
    no_texts (texts_of (items_view c.as_slice-values.result.now)) c.new-texts.result.items c.new-texts.ensures.items

pub items-preserved : goal.items-preserved
items-preserved c =
    let at = c.items in
    let vs = c.as_slice-values.result.now in
    one_text vs at.item-index c.item-item.result at.texts.items c.in_ok-text.text (texts_of (items_view vs))
    c.items-test.true (ap (λ (v : Value). database_at (view v)) (sym c.item-item.is) ∙ c.in_ok-text.ensures)
    at.invariant
    ∙ ap (λ (read : List (List ℕ)). bind (texts_of (items_view (drop (at.item-index + 1) vs))) (λ ts. Ok (read ++ ts)))
    (sym c.in_ok-push.ensures.items)

pub returns-in_err-text : goal.returns-in_err-text
returns-in_err-text c =
    let at = c.items in
    let vs = c.as_slice-values.result.now in
    let p = err_from_is_err_and c.from_residual.result c.from_residual.ensures.1 in
    stopped _ c.in_err-text.field-0.0 p.0 c.from_residual.result p.1 p.2
    (subst (λ (xs : List Value). Reads (texts_of (items_view xs)) (Err c.in_err-text.field-0.0))
    c.as_slice-values.ensures.value
    (text_stops vs at.item-index c.item-item.result at.texts.items c.in_err-text.field-0.0 (texts_of (items_view vs))
    c.items-test.true
    (subst (λ (v : Value). Reads (database_at (view v)) (Err c.in_err-text.field-0.0)) c.item-item.is
    c.in_err-text.ensures)
    at.invariant))

pub returns : goal.returns
returns c =
    let at = c.items in
    let vs = c.as_slice-values.result.now in
    ap (λ (xs : List Value). texts_of (items_view xs)) (sym c.as_slice-values.ensures.value)
    ∙ all_texts vs at.item-index at.texts.items (texts_of (items_view vs)) c.items-test.false at.invariant
    ∙ ap Ok (sym c.from_vec.ensures)
