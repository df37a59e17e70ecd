use Rattle.std.proofs.Common.{◌∙◌, sym, refl, List}
use Rattle.toml.proofs.Views.{Entry}
use Rattle.toml.specs.View.{members_view, table_view}
use Rattle.zmeta_catalogues.specs.Mistakes.{AreMistakesIn, AreErrors}
use Rattle.zmeta_catalogues.proofs.Growing.{begun_at}
use Rattle.zmeta_catalogues.proofs.Told.{one_member, all_members}
use Rattle.zmeta_catalogues.proofs.mistakes.put_members.Goals as goal

pub members-init : goal.members-init
members-init c =
    begun_at
    (λ (es : List Entry).
    AreErrors c.args.source.now.text.now (AreMistakesIn (table_view c.args.top.now) (members_view es)))
    c.args.top.now.entries c.into_iter-name-iterator.result c.args.found.now.items c.args.found.now.items
    (sym (c.into_iter-name-iterator.ensures.into_iter_gives ∙ c.iter-name-items.ensures.rest)) refl

pub members-preserved : goal.members-preserved
members-preserved c =
    one_member c.args.source.now.text.now (table_view c.args.top.now) c.members.name-iterator c.next.new.self
    (c.in-Some.name.now, c.in-Some.value.now) c.as_str.result.now
    (AreErrors c.args.source.now.text.now
    (AreMistakesIn (table_view c.args.top.now) (members_view c.args.top.now.entries)))
    c.args.found.now.items c.members.found.items c.put_member.new.found.items c.in-Some.ensures.steps
    c.as_str.ensures.value c.in_ok-put_member.ensures c.members.invariant

pub returns : goal.returns
returns c =
    all_members c.args.source.now.text.now (table_view c.args.top.now) c.members.name-iterator
    (AreErrors c.args.source.now.text.now
    (AreMistakesIn (table_view c.args.top.now) (members_view c.args.top.now.entries)))
    c.args.found.now.items c.members.found.items c.in-None.ensures.steps.0 c.members.invariant
