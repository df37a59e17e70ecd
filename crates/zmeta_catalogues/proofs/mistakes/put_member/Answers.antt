use Rattle.std.proofs.Common.{◌∙◌, sym, refl}
use Rattle.toml.specs.View.{view, table_view}
use Rattle.zmeta_catalogues.proofs.Told.{setting_passed, member_put}
use Rattle.zmeta_catalogues.proofs.mistakes.put_member.Goals as goal

pub returns-then-stands_for_all : goal.returns-then-stands_for_all
returns-then-stands_for_all c =
    setting_passed c.args.source.now.text.now (table_view c.args.top.now) c.args.name.now (view c.args.value.now)
    c.args.found.now.items c.args.found.now.items (sym c.stands_for_all.ensures ∙ c.if-stands_for_all.true) refl

pub returns : goal.returns
returns c =
    member_put c.args.source.now.text.now (table_view c.args.top.now) c.args.name.now (view c.args.value.now)
    c.put_value.result c.args.found.now.items c.put_value.new.found.items
    (sym c.stands_for_all.ensures ∙ c.if-stands_for_all.false) c.put_value.ensures
