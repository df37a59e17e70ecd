use Rattle.std.proofs.Common.{◌∙◌, sym, refl, ℕ, List}
use Rattle.toml.proofs.Views.{Entry}
use Rattle.toml.specs.View.{members_view}
use Rattle.zmeta_catalogues.specs.Mistakes.{unknown_keys, AreErrorsOf}
use Rattle.zmeta_catalogues.proofs.Growing.{begun_at}
use Rattle.zmeta_catalogues.proofs.Told.{one_key, all_keys}
use Rattle.zmeta_catalogues.proofs.mistakes.put_unknown.Goals as goal

pub members-init : goal.members-init
members-init c =
    λ text. begun_at
    (λ (es : List Entry). AreErrorsOf text (unknown_keys c.args.site.now.name c.args.kind (members_view es)))
    c.args.table.now.entries c.into_iter-word-iterator.result c.args.found.now.items c.args.found.now.items
    (sym (c.into_iter-word-iterator.ensures.into_iter_gives ∙ c.iter-word-items.ensures.rest)) refl

pub members-preserved : goal.members-preserved
members-preserved c =
    λ text. one_key text c.args.site.now.name c.args.kind c.members.word-iterator c.next.new.self
    (c.in-Some.word.now, c.in-Some._value.now) c.as_str.result.now
    (AreErrorsOf text (unknown_keys c.args.site.now.name c.args.kind (members_view c.args.table.now.entries)))
    c.args.found.now.items c.members.found.items c.put_key.new.found.items c.in-Some.ensures.steps
    c.as_str.ensures.value (c.in_ok-put_key.ensures text) (c.members.invariant text)

pub returns : goal.returns
returns c =
    λ text. all_keys text c.args.site.now.name c.args.kind c.members.word-iterator
    (AreErrorsOf text (unknown_keys c.args.site.now.name c.args.kind (members_view c.args.table.now.entries)))
    c.args.found.now.items c.members.found.items c.in-None.ensures.steps.0 (c.members.invariant text)
