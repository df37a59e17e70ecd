use Rattle.std.proofs.Common.{◌∙◌, sym, refl}
use Rattle.zmeta_catalogues.proofs.Told.{known_key, unknown_key_put}
use Rattle.zmeta_catalogues.proofs.mistakes.put_key.Goals as goal

pub returns-then-is_known : goal.returns-then-is_known
returns-then-is_known c =
    λ text. known_key text c.args.site.now.name c.args.kind c.args.word.now c.args.found.now.items
    c.args.found.now.items (sym c.is_known.ensures ∙ c.if-is_known.true) refl

pub returns : goal.returns
returns c =
    unknown_key_put c.args.site.now.name c.args.kind c.args.word.now c.unknown_error.result c.put.result
    c.args.found.now.items c.put.new.found.items (sym c.is_known.ensures ∙ c.if-is_known.false) c.unknown_error.ensures
    c.put.ensures.added c.put.ensures.own
