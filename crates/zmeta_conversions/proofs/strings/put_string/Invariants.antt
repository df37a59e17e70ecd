use Rattle.std.proofs.Common.{◌≡◌, ◌++◌, ◌∷◌, [], take}
use Rattle.std.specs.List.{flat_map}
use Rattle.zmeta_conversions.specs.Catalogues.{string_octet}
use Rattle.zmeta_conversions.proofs.strings.put_string.Given as goal

abbrev pub invariant-loop-octet : goal.invariant-loop-octet
invariant-loop-octet l =
    l.out.items ≡ (l.fn.out.items ++ 34 ∷ []) ++ flat_map string_octet (take l.octet-index l.octets)
