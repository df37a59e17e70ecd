use Rattle.std.proofs.Common.{◌≡◌, ◌++◌, drop, string_bytes}
use Rattle.std.specs.List.{flat_map}
use Rattle.zhtml.specs.Markup.{attribute_text, given}
use Rattle.zhtml.proofs.markup.put_attributes.Given as goal

abbrev pub invariant-loop-attribute : goal.invariant-loop-attribute
invariant-loop-attribute l = string_bytes l.out ++ flat_map attribute_text (given (drop l.attribute-index l.attributes))
    ≡ string_bytes l.fn.out ++ flat_map attribute_text (given l.attributes)
