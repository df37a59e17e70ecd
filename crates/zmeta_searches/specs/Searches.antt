-- What the options of the command line put to every question.
use Rattle.std.specs.Prelude.{ℕ, List, Option, Some, None}
use Rattle.std.specs.Option.{option_map}
use Rattle.zmeta_args.specs.declared.arguments.SearchOptions.{SearchOptions}
use Rattle.zmeta_args.specs.Texts.{now_of}
use Rattle.zmeta_world.specs.Search.{SearchTexts}
use Rattle.zmeta_searches.specs.declared.searches.SearchCopy.{SearchCopy}
use Rattle.zmeta_searches.specs.Terms.{AskedTerm}
use Rattle.zmeta_searches.specs.Asked.{terms_of}
use Rattle.zmeta_searches.specs.Texts.{terms_query}

-- the query that is given, else the one of the terms
abbrev pub chosen_query : Option (List ℕ) → List AskedTerm → Option (List ℕ)
chosen_query None terms = terms_query terms
chosen_query (Some text) terms = Some text

-- the texts of the copy
abbrev pub copied_texts : SearchCopy → SearchTexts
copied_texts c = record {
  query = option_map (λ text. text.items) c.query;
  records = option_map (λ text. text.items) c.records;
  elements = option_map (λ text. text.items) c.elements;
  syntax = option_map (λ text. text.items) c.syntax;
}

-- what the options put to every question
abbrev pub search_of : SearchOptions → SearchTexts
search_of s = record {
  query = chosen_query (now_of s.query) (terms_of s);
  records = now_of s.records;
  elements = now_of s.elements;
  syntax = now_of s.syntax;
}
