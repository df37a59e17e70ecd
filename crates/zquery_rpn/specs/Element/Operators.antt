-- The operators of a type-1 query as elements (Z39.50-2003, 4.1: Operator).
use Rattle.std.specs.Prelude.{◌≡◌, [], ◌∷◌, Option, Some, refl}
use Rattle.std.proofs.Common.{inl, inr}
use Rattle.zber.specs.AsnTags.{AsnTag, context}
use Rattle.zber.specs.Elements.{Element, Primitive}
use Rattle.zber.specs.Values.{as_null}
use Rattle.zasn.specs.Meanings.{meant}
use Rattle.zasn.specs.Standing.{tagged}
use Rattle.zasn.specs.Place.{Place}
use Rattle.zasn.specs.Choice.{Choice, either, finally, Pick, picked}
use Rattle.zasn_tables.proofs.Readings.{tagged_place}
use Rattle.zasn_tables.proofs.Builds.{contents_spelled}
use Rattle.zasn.specs.Places.{lawful_place, of_choice, explicit, opaque}
use Rattle.zquery_rpn.specs.declared.element.operator.Joint.{Joint}
use Rattle.zquery_rpn.specs.declared.element.operator.Joint.TheVariants.{Logical, ProxOperator}
use Rattle.zquery_rpn.specs.declared.operator.Operator.TheVariants.{And, Or, Not}

-- NULL (X.690, 8.8)
abbrev pub null_of : Element → Option (Unit {0})
null_of e = meant (as_null e)

-- NULL with this tag: a primitive element with no contents octets (X.690, 8.8)
abbrev pub null : AsnTag → Place (Unit {0})
null tag =
    lawful_place {P = tagged tag null_of} {tags = tag ∷ []} {meaning = null_of}
    {spelling = λ x. Some (Primitive tag [])}
    (tagged_place tag null_of tt (Primitive tag []) refl refl) (contents_spelled tag null_of (λ x. []) (λ x. refl))

-- Operator: and [0], or [1] and and-not [2], each IMPLICIT NULL, prox [3] IMPLICIT SEQUENCE, which is kept
abbrev pub joints : Choice Joint
joints =
    either (null (context 0)) (λ x. Logical And)
    (either (null (context 1)) (λ x. Logical Or)
    (either (null (context 2)) (λ x. Logical Not)
    (finally (opaque (context 3)) ProxOperator)))

-- the kind of an operator; of prox also the element that is kept
abbrev pub joint_pick : Joint → Pick joints
joint_pick (Logical And) = inl tt
joint_pick (Logical Or) = inr (inl tt)
joint_pick (Logical Not) = inr (inr (inl tt))
joint_pick (ProxOperator m) = inr (inr (inr m))

pub joint-same : (o : Joint) → picked joints (joint_pick o) ≡ o
joint-same (Logical And) = refl
joint-same (Logical Or) = refl
joint-same (Logical Not) = refl
joint-same (ProxOperator m) = refl

pub joint-back : (x : Pick joints) → joint_pick (picked joints x) ≡ x
joint-back (inl x) = refl
joint-back (inr (inl x)) = refl
joint-back (inr (inr (inl x))) = refl
joint-back (inr (inr (inr m))) = refl

-- the place of two operands and their operator, a choice
unfoldable pub joint : Place Joint
joint = of_choice joints joint_pick joint-same joint-back refl

-- the tag of an operator is explicit
abbrev pub operator : Place Joint
operator = explicit (context 46) joint
