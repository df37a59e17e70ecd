-- Each operator but proximity is spelled.
use Rattle.std.proofs.Common.{◌≡◌, refl, [], ◌∷◌, Some}
use Rattle.zber.specs.AsnTags.{context}
use Rattle.zber.specs.Elements.{Element, Primitive, Constructed, forest}
use Rattle.zquery_rpn.specs.declared.operator.Operator.{Operator}
use Rattle.zquery_rpn.specs.declared.operator.Operator.TheVariants.{And, Or, Not}
use Rattle.zquery_rpn.specs.declared.element.operator.Joint.TheVariants.{Logical}
use Rattle.zquery_rpn.specs.Element.Operators.{joint, operator}

pub operator_spelled : (o : Operator) → (n : Element) × (operator.spelling (Logical o) ≡ Some n)
unfolding joint
operator_spelled And = (Constructed (context 46) (forest (Primitive (context 0) [] ∷ [])), refl)
operator_spelled Or = (Constructed (context 46) (forest (Primitive (context 1) [] ∷ [])), refl)
operator_spelled Not = (Constructed (context 46) (forest (Primitive (context 2) [] ∷ [])), refl)
