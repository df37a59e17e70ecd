use Rattle.std.proofs.Common.{◌∙◌, sym, refl}
use Rattle.std.proofs.lemmas.Result.{err_from_is_err_and}
use Rattle.toml.proofs.Views.{Entry}
use Rattle.toml.specs.View.{view, members_view}
use Rattle.zmeta_catalogues.specs.FileErrors.{IsDocumentError}
use Rattle.zmeta_catalogues.proofs.FileErrors.{member_error}
use Rattle.zmeta_catalogues.proofs.MemberErrors.{none_read, one_read, one_passed, all_read, is_next, refused}
use Rattle.zmeta_catalogues.proofs.reader.catalogues_in.Goals as goal

pub members-init : goal.members-init
members-init c =
    none_read c.args.source.now.text.now c.args.top.now.entries c.into_iter-name-iterator.result c.new-read.result.items
    (sym (c.into_iter-name-iterator.ensures.into_iter_gives ∙ c.iter-name-items.ensures.rest)) c.new-read.ensures.items

pub members-preserved : goal.members-preserved
members-preserved c =
    let at = c.members in
    let e : Entry = (c.in-Some.name.now, c.in-Some.value.now) in
    one_passed c.args.source.now.text.now c.args.top.now.entries at.name-iterator c.next.new.self e
    c.as_str-word.result.now
    at.read.items at.read.items c.in-Some.ensures.steps c.as_str-word.ensures.value
    (sym c.stands_for_all.ensures ∙ c.if-not-stands_for_all.false) refl at.invariant

pub members-preserved-in-Continue-branch-2 : goal.members-preserved-in-Continue-branch-2
members-preserved-in-Continue-branch-2 c =
    let at = c.members in
    let e : Entry = (c.in-Some.name.now, c.in-Some.value.now) in
    one_read c.args.source.now.text.now c.args.top.now.entries at.name-iterator c.next.new.self e
    c.as_str-word.result.now
    at.read.items c.push.new.self.items c.in_ok-catalogue.catalogue c.in-Some.ensures.steps c.as_str-word.ensures.value
    (sym c.stands_for_all.ensures ∙ c.if-not-stands_for_all.true) c.in_ok-catalogue.ensures.ok
    c.in_ok-push.ensures.items at.invariant

pub returns-in_err-catalogue-clause-err : goal.returns-in_err-catalogue-clause-err
returns-in_err-catalogue-clause-err c =
    let at = c.members in
    let e : Entry = (c.in-Some.name.now, c.in-Some.value.now) in
    let text = c.args.source.now.text.now in
    let all = c.args.top.now.entries in
    let p = err_from_is_err_and c.from_residual.result c.from_residual.ensures.1 in
    refused (IsDocumentError text (members_view all)) c.in_err-catalogue.field-0.0 p.0 c.from_residual.result p.1 p.2
    (member_error text (members_view all) c.as_str-word.result.now (view e.1) c.in_err-catalogue.field-0.0
    (is_next text all at.name-iterator c.next.new.self e c.as_str-word.result.now at.read.items c.in-Some.ensures.steps
    c.as_str-word.ensures.value at.invariant)
    (sym c.stands_for_all.ensures ∙ c.if-not-stands_for_all.true) c.in_err-catalogue.ensures.err)

pub returns-clause-ok : goal.returns-clause-ok
returns-clause-ok c =
    all_read c.args.source.now.text.now c.args.top.now.entries c.members.name-iterator c.members.read.items
    c.in-None.ensures.steps.0 c.members.invariant
