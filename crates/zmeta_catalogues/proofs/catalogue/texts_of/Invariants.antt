use Rattle.std.proofs.Common.{◌≡◌, ◌++◌, drop, Ok}
use Rattle.toml.specs.View.{items_view}
use Rattle.zmeta_catalogues.specs.Values.{bind}
use Rattle.zmeta_catalogues.specs.Catalogues.{texts_of}
use Rattle.zmeta_catalogues.proofs.catalogue.texts_of.Given as goal

abbrev pub invariant-items : goal.invariant-items
invariant-items l =
    texts_of (items_view l.values)
    ≡ bind (texts_of (items_view (drop l.item-index l.values))) (λ ts. Ok (l.texts.items ++ ts))
