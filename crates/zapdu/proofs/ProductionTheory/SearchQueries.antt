-- The query within an element that holds one element.
use Rattle.std.proofs.Common.{◌≡◌, List, [], ◌∷◌, Some, Result}
use Rattle.zber.specs.Elements.{Element, Primitive, Constructed, elements}
use Rattle.zasn.specs.Within.{value_read, sequence_of, any_at}
use Rattle.zasn.specs.Reading.{option_map}
use Rattle.zasn.specs.declared.error.PartError.{PartError}
use Rattle.zasn.specs.Results.{MeaningResult}
use Rattle.zquery_rpn.specs.Element.AnyQueries.{any_query, any_query_at, query_within}
use Rattle.zquery_rpn.proofs.ElementTheory.AnyQueryPlaces.{alone_says}
use Rattle.zapdu.specs.declared.productions.search_query.SearchQuery.{SearchQuery}
use Rattle.zapdu.specs.Productions.SearchQueries.{of_sum}

one_of : (ns : List Element) (m : Element) → value_read (any_at ns) ≡ Some m → value_read (any_query_at ns) ≡ any_query m
one_of [] m e = absurd cc
one_of (n ∷ []) m e = let is : n ≡ m = cc in rw is (alone_says m)
one_of (n ∷ k ∷ ns) m e = absurd cc

one_query : (e m : Element) → sequence_of any_at e ≡ Some m → query_within e ≡ any_query m
one_query (Primitive t b) m e = absurd cc
one_query (Constructed t f) m e = one_of (elements f) m e

pub sole_means : (e m : Element) (r : Result SearchQuery PartError) → sequence_of any_at e ≡ Some m → MeaningResult (option_map of_sum (any_query m)) r → MeaningResult (option_map of_sum (query_within e)) r
sole_means e m r is h = rw (one_query e m is) h
