-- The element that a `Node` is.
use Rattle.zber.specs.declared.node.Node.TheInside.{Inside}
use Rattle.zber.specs.declared.node.Body.{Body}
use Rattle.zber.specs.declared.node.Body.TheVariants.{Prim, Cons}
use Rattle.zber.specs.AsnTags.{AsnTag}
use Rattle.zber.specs.Elements.{Element, Primitive, Constructed, forest}

-- the element of a tag and a body; the nodes within the body count as their elements
abbrev pub seen : AsnTag → Body → Element
seen n (Prim b) = Primitive n b
seen n (Cons nodes) = Constructed n (forest nodes.items)

-- the element that contracts speak of in place of a `Node` with these fields
abbrev pub element_of : Inside → Element
element_of n = seen n.tag n.body
