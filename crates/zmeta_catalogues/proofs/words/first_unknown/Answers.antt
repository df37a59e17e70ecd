use Rattle.std.proofs.Common.{◌∙◌, sym, ap, List, Some}
use Rattle.toml.proofs.Views.{Entry}
use Rattle.toml.specs.View.{members_view}
use Rattle.zmeta_catalogues.specs.Keys.{is_known}
use Rattle.zmeta_catalogues.specs.Words.{first_unknown}
use Rattle.zmeta_catalogues.proofs.Unknown.{one_known, one_unknown, none_unknown}
use Rattle.zmeta_catalogues.proofs.words.first_unknown.Goals as goal

pub members-init : goal.members-init
members-init c =
    ap (λ (es : List Entry). first_unknown c.args.kind (members_view es))
    (sym (c.into_iter-word-iterator.ensures.into_iter_gives ∙ c.iter-word-items.ensures.rest))

pub members-preserved : goal.members-preserved
members-preserved c =
    one_known c.args.kind (first_unknown c.args.kind (members_view c.args.table.now.entries)) c.members.word-iterator
    c.next.new.self (c.in-Some.word.now, c.in-Some._value.now) c.in-Some.ensures.steps
    (sym (ap (is_known c.args.kind) c.as_str.ensures.value) ∙ sym c.is_known.ensures ∙ c.if-not-is_known.false)
    c.members.invariant

pub returns-then-not-is_known : goal.returns-then-not-is_known
returns-then-not-is_known c =
    ap Some c.as_str-then-not-is_known.ensures.value
    ∙ one_unknown c.args.kind (first_unknown c.args.kind (members_view c.args.table.now.entries))
    c.members.word-iterator c.next.new.self (c.in-Some.word.now, c.in-Some._value.now) c.in-Some.ensures.steps
    (sym (ap (is_known c.args.kind) c.as_str.ensures.value) ∙ sym c.is_known.ensures ∙ c.if-not-is_known.true)
    c.members.invariant

pub returns : goal.returns
returns c =
    none_unknown c.args.kind (first_unknown c.args.kind (members_view c.args.table.now.entries)) c.members.word-iterator
    c.in-None.ensures.steps.0 c.members.invariant
