-- Tests on tags.
use Rattle.std.specs.Prelude.{List, [], ◌∷◌, Bool, true, false, ◌==◌, ◌&&◌, ◌||◌, if◌then◌else◌}
use Rattle.zber.specs.declared.tag.Class.{Class}
use Rattle.zber.specs.declared.tag.Class.TheVariants.{Universal, Application, Context, Private}
use Rattle.zber.specs.AsnTags.{AsnTag}

-- whether two classes are equal
abbrev pub same_class : Class → Class → Bool
same_class Universal Universal = true
same_class Application Application = true
same_class Context Context = true
same_class Private Private = true
same_class _ _ = false

-- whether two tags are equal: in class and in number
abbrev pub same_tag : AsnTag → AsnTag → Bool
same_tag t u = same_class t.class u.class && (t.number == u.number)

-- whether the tag is in the list
abbrev pub among : AsnTag → List AsnTag → Bool
among t [] = false
among t (u ∷ us) = same_tag t u || among t us

-- whether no tag of the one list is in the other
abbrev pub apart : List AsnTag → List AsnTag → Bool
apart [] vs = true
apart (u ∷ us) vs = if among u vs then false else apart us vs
