-- A type-1 query or another one, in an element around it (Z39.50-2003, 4.1: Query, and query [21] of SearchRequest).
use Rattle.std.specs.Prelude.{◌≡◌, List, [], ◌∷◌, Option, Some, None, Result, Ok, Err, false, ◌⊎◌, if◌then◌else◌}
use Rattle.std.proofs.Common.{inl, inr}
use Rattle.zber.specs.AsnTags.{AsnTag, context}
use Rattle.zber.specs.Elements.{Element, tag_of}
use Rattle.zber.specs.Tags.{same_tag}
use Rattle.zasn.specs.Standing.{required, ended, sequence}
use Rattle.zasn.specs.Reading.{option_map}
use Rattle.zasn.specs.Within.{around, sequence_of}
use Rattle.zquery_rpn.specs.Trees.{RpnQuery}
use Rattle.zquery_rpn.specs.Element.Type1.{WritesQuery}
use Rattle.zquery_rpn.specs.Element.Type1Reading.{element_query, query_spelling}

-- the element stands for a type-1 query, or is another query, which is kept and has any tag but [1]
abbrev pub WritesAny : RpnQuery ⊎ Element → Element → Type 0
WritesAny (inl q) n = WritesQuery q n
WritesAny (inr m) n = (n ≡ m) × (same_tag (tag_of n) (context 1) ≡ false)

-- the same, within an element with this tag (EXPLICIT)
abbrev pub WritesWithin : AsnTag → RpnQuery ⊎ Element → Element → Type 0
WritesWithin tag v n = sequence tag (required WritesAny v ended) n

-- ---- reading

-- the query of an element: of type 1 if its tag is [1], otherwise the element itself
abbrev pub any_query : Element → Option (RpnQuery ⊎ Element)
any_query n = if same_tag (tag_of n) (context 1) then option_map inl (element_query n) else Some (inr n)

-- the value if there is one; otherwise the element is left
abbrev pub the_one : {A : Type 0} → Option A → Element → Result A (List Element)
the_one (Some x) n = Ok x
the_one None n = Err (n ∷ [])

-- the query of one element alone, or the elements left
abbrev pub any_query_at : List Element → Result (RpnQuery ⊎ Element) (List Element)
any_query_at [] = Err []
any_query_at (n ∷ []) = the_one (any_query n) n
any_query_at (n ∷ m ∷ ns) = Err (m ∷ ns)

-- the query of the one element within an element
abbrev pub query_within : Element → Option (RpnQuery ⊎ Element)
query_within n = sequence_of any_query_at n

-- ---- writing

-- the element of a query
abbrev pub any_query_spelling : RpnQuery ⊎ Element → Option Element
any_query_spelling (inl q) = query_spelling q
any_query_spelling (inr m) = if same_tag (tag_of m) (context 1) then None else Some m

-- the same, within an element with this tag
abbrev pub within_spelling : AsnTag → RpnQuery ⊎ Element → Option Element
within_spelling tag v = around tag (option_map (λ n. n ∷ []) (any_query_spelling v))
