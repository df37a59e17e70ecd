-- Which attributes are in force below a list of attributes, outermost first.
use Rattle.std.specs.Prelude.{ℕ, List, [], ◌∷◌, Bool, true, false, ◌&&◌, not, Option, Some, None, map, filter, if◌then◌else◌}
use Rattle.std.specs.Ordering.{int_eq}
use Rattle.std.specs.Str.{bytes_eq}
use Rattle.zquery_rpn.specs.declared.query.Attr.{Attr}
use Rattle.zquery_rpn.specs.declared.query.AttrValue.{AttrValue}

-- the two sets are equal, or there is none
abbrev pub same_set : Option (List ℕ) → Option (List ℕ) → Bool
same_set None None = true
same_set (Some a) (Some b) = bytes_eq a b
same_set None (Some b) = false
same_set (Some a) None = false

-- the two attributes have the same set and type
unfoldable pub alike : Attr → Attr → Bool
alike a b = same_set a.attr_set b.attr_set && int_eq a.kind b.kind

-- the first attribute of each set and type
abbrev pub first_attrs : List Attr → List Attr
first_attrs [] = []
first_attrs (a ∷ xs) = a ∷ filter (λ b. not (alike a b)) (first_attrs xs)

-- the value of the last attribute with the set and type of `a`, or `v` if there is none
abbrev pub last_attr_value : List Attr → Attr → AttrValue → AttrValue
last_attr_value [] a v = v
last_attr_value (b ∷ bs) a v = last_attr_value bs a (if alike a b then b.value else v)

-- the attributes in force: for each set and type the last value, in the order of the first of each
unfoldable pub in_force : List Attr → List Attr
in_force xs = map {A = Attr} (λ a. record a { value = last_attr_value xs a a.value }) (first_attrs xs)
