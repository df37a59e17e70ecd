-- What the options of a command line put to catalogues.
use Rattle.std.specs.Prelude.{◌≡◌, ℕ, List, map, Option, Some, None}
use Rattle.std.specs.Option.{option_map}
use Rattle.zmeta_args.specs.declared.arguments.SearchOptions.{SearchOptions}
use Rattle.zmeta_args.specs.Texts.{now_of}
use Rattle.zmeta_searches.specs.declared.terms.Access.{Access as AccessOf}
use Rattle.zmeta_searches.specs.declared.terms.Access.TheVariants as given
use Rattle.zmeta_searches.specs.declared.terms.SearchTerm.{SearchTerm}
use Rattle.zmeta_searches.specs.Terms.{AskedTerm}
use Rattle.zmeta_searches.specs.Asked.{terms_of}
use Rattle.zmeta_catalogues.specs.declared.search.Access.{Access}
use Rattle.zmeta_catalogues.specs.declared.search.Access.TheVariants as asked
use Rattle.zmeta_catalogues.specs.declared.search.Term.{Term}
use Rattle.zmeta_catalogues.specs.Asked.{AskedSearch}

-- what a term is looked for in, as catalogues are asked
abbrev pub access_of : AccessOf → Access
access_of given.Title = asked.Title
access_of given.Author = asked.Author
access_of given.Subject = asked.Subject
access_of given.Isbn = asked.Isbn
access_of given.Issn = asked.Issn
access_of given.Year = asked.Year
access_of given.Since = asked.Since
access_of given.Until = asked.Until
access_of given.Any = asked.Any

-- a term as catalogues are asked for it: what it is looked for in, and its text
pub record PutTerm : Type 0 where
  pub access : Access
  pub text : List ℕ

-- the terms, with their texts
abbrev pub put_terms : List Term → List PutTerm
put_terms terms = map (λ t. record { access = t.access; text = t.text.now }) terms

-- a term of the options
abbrev pub put_term : AskedTerm → PutTerm
put_term t = record { access = access_of t.access; text = t.text }

-- the search is that of the options: the query, the terms, and what takes the place of what a catalogue says
pub record IsSearchOf (options : SearchOptions) (s : AskedSearch) : Type 0 where
  pub query : s.query ≡ now_of options.query
  pub terms : put_terms s.terms ≡ map put_term (terms_of options)
  pub records : s.records ≡ now_of options.records
  pub elements : s.elements ≡ now_of options.elements
  pub syntax : s.syntax ≡ now_of options.syntax
