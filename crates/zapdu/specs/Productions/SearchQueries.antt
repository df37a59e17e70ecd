-- The query of a SearchRequest (Z39.50-2003, 4.1: Query).
use Rattle.std.specs.Prelude.{◌≡◌, [], ◌∷◌, ◌⊎◌, refl}
use Rattle.std.proofs.Common.{inl, inr}
use Rattle.zber.specs.AsnTags.{context}
use Rattle.zber.specs.Elements.{Element}
use Rattle.zasn.specs.Place.{Place}
use Rattle.zasn.specs.Choice.{Choice, finally, Pick, picked}
use Rattle.zasn.specs.Places.{lawful_place, of_choice}
use Rattle.zquery_rpn.specs.Trees.{RpnQuery}
use Rattle.zquery_rpn.specs.Element.AnyQueries.{WritesWithin, query_within, within_spelling}
use Rattle.zquery_rpn.proofs.ElementTheory.AnyQueryPlaces.{any_query_place, any_query_spelled}
use Rattle.zapdu.specs.declared.productions.search_query.SearchQuery.{SearchQuery}
use Rattle.zapdu.specs.declared.productions.search_query.SearchQuery.TheVariants.{Rpn, Other}

-- query [21] Query, whose tag is explicit
abbrev pub either_query : Place (RpnQuery ⊎ Element)
either_query =
    lawful_place {P = WritesWithin (context 21)} {tags = context 21 ∷ []} {meaning = query_within}
    {spelling = within_spelling (context 21)} (any_query_place (context 21)) (any_query_spelled (context 21))

-- a query of type 1, or another one
abbrev pub of_sum : RpnQuery ⊎ Element → SearchQuery
of_sum (inl q) = Rpn q
of_sum (inr m) = Other m

-- query as a choice of one kind: the tag [21] stands around any query, and the element within gives the type
abbrev pub queries : Choice SearchQuery
queries = finally either_query of_sum

-- the value of this choice: the tree of a query of type 1, or the element of another query
abbrev pub query_pick : SearchQuery → Pick queries
query_pick (Rpn q) = inl q
query_pick (Other m) = inr m

pub query-same : (q : SearchQuery) → picked queries (query_pick q) ≡ q
query-same (Rpn q) = refl
query-same (Other m) = refl

pub query-back : (x : Pick queries) → query_pick (picked queries x) ≡ x
query-back (inl q) = refl
query-back (inr m) = refl

-- the place of a Query, a choice
unfoldable pub search_query : Place SearchQuery
search_query = of_choice queries query_pick query-same query-back refl
