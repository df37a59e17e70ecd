-- The terms that the options ask for.
use Rattle.std.specs.Prelude.{ℕ, List, ◌++◌, map}
use Rattle.std.specs.List.{flat_map}
use Rattle.zmeta_args.specs.declared.arguments.SearchOptions.{SearchOptions}
use Rattle.zmeta_args.specs.Texts.{texts_of}
use Rattle.zmeta_searches.specs.declared.terms.Access.{Access}
use Rattle.zmeta_searches.specs.declared.terms.Access.TheVariants.{Title, Author, Subject, Isbn, Issn, Any}
use Rattle.zmeta_searches.specs.Terms.{AskedTerm, asked}
use Rattle.zmeta_searches.specs.Years.{year_terms}

-- terms of this access point
abbrev pub terms_under : Access → List (List ℕ) → List AskedTerm
terms_under access texts = map (λ text. asked access text) texts

-- the terms of the options: titles, authors, subjects, ISBNs, ISSNs, years, and terms for anything
abbrev pub terms_of : SearchOptions → List AskedTerm
terms_of s = terms_under Title (texts_of s.titles.items) ++ terms_under Author (texts_of s.authors.items)
    ++ terms_under Subject (texts_of s.subjects.items) ++ terms_under Isbn (texts_of s.isbns.items)
    ++ terms_under Issn (texts_of s.issns.items) ++ flat_map year_terms (texts_of s.years.items)
    ++ terms_under Any (texts_of s.any.items)
