use Rattle.std.proofs.Common.{◌≡◌, take}
use Rattle.zmeta_catalogues.proofs.parts.copies.Given as goal

abbrev pub invariant-names : goal.invariant-names
invariant-names l = l.copies.items ≡ take l.name-index l.names
