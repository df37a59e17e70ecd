-- One search for all questions of a world, in place of what their lines say.
use Rattle.std.specs.Prelude.{◌≡◌, ◌≢◌, ℕ, if◌then◌else◌, List, [], ◌∷◌, codes, Option, Some, None, Result, Ok, Err, IfSome}
use Rattle.std.specs.Option.{option_map, option_or}
use Rattle.std.specs.Str.{bytes_eq}
use Rattle.zplan.specs.declared.range.Range.{Range}
use Rattle.zquery.specs.Trees.{RpnQuery}
use Rattle.zquery.specs.Notation.Texts.{IsTextFault}
use Rattle.zquery.specs.declared.notation.error.PqfError.{PqfError}
use Rattle.zquery.specs.declared.notation.error.PqfErrorKind.{PqfErrorKind}
use Rattle.zquery.specs.declared.notation.error.PqfErrorKind.TheVariants as kinds
use Rattle.zmeta_world.specs.declared.world.World.{World}
use Rattle.zmeta_world.specs.declared.world.AskedQuestion.{AskedQuestion}
use Rattle.zmeta_world.specs.declared.search.Search.{Search}
use Rattle.zmeta_world.specs.declared.search.Parsed.{Parsed}
use Rattle.zmeta_world.specs.declared.search.SearchError.{SearchError}
use Rattle.zmeta_world.specs.declared.search.SearchError.TheVariants as errors
use Rattle.zmeta_world.specs.WorldWants.{wanted_of}
use Rattle.zmeta_world.specs.WorldLines.{syntax_of}
use Rattle.zmeta_world.specs.Worlds.{IsQueryOf}

-- ---- record syntaxes by their names

-- the object identifier, in dotted form, of a named record syntax (Z39.50-2003, Appendix REC); else the text itself
unfoldable pub dotted_syntax : List ℕ → List ℕ
dotted_syntax text =
    if bytes_eq text (codes "marc21") then codes "1.2.840.10003.5.10"
    else if bytes_eq text (codes "unimarc") then codes "1.2.840.10003.5.1"
    else if bytes_eq text (codes "sutrs") then codes "1.2.840.10003.5.101"
    else if bytes_eq text (codes "opac") then codes "1.2.840.10003.5.102"
    else if bytes_eq text (codes "grs1") then codes "1.2.840.10003.5.105"
    else if bytes_eq text (codes "xml") then codes "1.2.840.10003.5.109.10"
    else text

-- ---- the search

-- the texts of a search: query, wanted positions, element set name and record syntax, each if it is given
pub record SearchTexts : Type 0 where
  pub query : Option (List ℕ)
  pub records : Option (List ℕ)
  pub elements : Option (List ℕ)
  pub syntax : Option (List ℕ)

-- the texts of this search
abbrev pub search_texts : Search → SearchTexts
search_texts s = record {
  query = option_map (λ text. text.now) s.query;
  records = option_map (λ text. text.now) s.records;
  elements = option_map (λ text. text.now) s.elements;
  syntax = option_map (λ text. text.now) s.syntax;
}

-- the value is what the text stands for; or, without a text, the value that was there
abbrev pub IsReplaced : {A : Type 0} → (List ℕ → A → Type 0) → Option (List ℕ) → A → A → Type 0
IsReplaced Means None was now = now ≡ was
IsReplaced Means (Some text) was now = Means text now

-- the positions that the text wants
abbrev pub IsWanted : List ℕ → List Range → Type 0
IsWanted text wanted = wanted_of text ≡ Some wanted

-- the record syntax that the text names, or none
abbrev pub IsAskedSyntax : List ℕ → Option (List ℕ) → Type 0
IsAskedSyntax text syntax = syntax_of (dotted_syntax text) ≡ Some syntax

-- the element set name that the text is
abbrev pub IsElements : List ℕ → Option (List ℕ) → Type 0
IsElements text elements = elements ≡ Some text

-- the question, with what the search gives in place of what its line says
pub record IsAskedBy (s : SearchTexts) (was now : AskedQuestion) : Type 0 where
  pub line : now.line ≡ was.line
  pub name : now.name ≡ was.name
  pub end : now.end ≡ was.end
  pub databases : now.question.databases ≡ was.question.databases
  pub query : IsReplaced IsQueryOf s.query was.question.query now.question.query
  pub wanted : IsReplaced IsWanted s.records was.question.wanted now.question.wanted
  pub elements : IsReplaced IsElements s.elements was.question.elements now.question.elements
  pub syntax : IsReplaced IsAskedSyntax s.syntax was.question.syntax now.question.syntax

-- each question, with what the search gives, in order
abbrev pub AreAskedBy : SearchTexts → List AskedQuestion → List AskedQuestion → Type 0
AreAskedBy s [] [] = Unit {0}
AreAskedBy s (was ∷ olds) (now ∷ news) = IsAskedBy s was now × AreAskedBy s olds news
AreAskedBy s _ _ = ⊥

-- each text that is given stands for something: a query, wanted positions, a record syntax
pub record IsReadable (s : SearchTexts) : Type 0 where
  pub query : IfSome s.query (λ text. (query : RpnQuery) × IsQueryOf text query)
  pub wanted : IfSome s.records (λ text. (wanted : List Range) × IsWanted text wanted)
  pub syntax : IfSome s.syntax (λ text. (syntax : Option (List ℕ)) × IsAskedSyntax text syntax)

-- the world with the search put to every question; the texts stand for something also if there is no question
pub record IsWorldWith (s : SearchTexts) (was now : World) : Type 0 where
  pub search : IsReadable s
  pub step : now.step ≡ was.step
  pub window : now.window ≡ was.window
  pub targets : now.targets ≡ was.targets
  pub hosts : now.hosts ≡ was.hosts
  pub questions : AreAskedBy s was.questions now.questions
  pub moves : now.moves ≡ was.moves

-- ---- why a search is refused

-- a text is given, and this holds of it
abbrev pub HasText : (List ℕ → Type 0) → Option (List ℕ) → Type 0
HasText Is None = ⊥
HasText Is (Some text) = Is text

-- which text is at fault, and why
abbrev pub IsSearchFault : SearchTexts → SearchError → Type 0
IsSearchFault s (errors.Query kind at) = HasText (λ text. IsTextFault text (record { kind = kind; at = at })) s.query
IsSearchFault s errors.Records = HasText (λ text. wanted_of text ≡ None) s.records
IsSearchFault s errors.Syntax = HasText (λ text. syntax_of (dotted_syntax text) ≡ None) s.syntax
IsSearchFault s errors.Memory = Unit {0}

-- no text is at fault
abbrev pub HasNoFault : SearchTexts → Type 0
HasNoFault s = (error : SearchError) → error ≢ errors.Memory → IsSearchFault s error → ⊥

-- ---- reading a search

-- the value that a text stands for, if there is a text
abbrev pub IsRead : {A : Type 0} → (List ℕ → A → Type 0) → Option (List ℕ) → Option A → Type 0
IsRead Means None value = value ≡ None
IsRead Means (Some text) None = ⊥
IsRead Means (Some text) (Some value) = Means text value

-- the parts of the search
pub record IsParsedSearch (s : SearchTexts) (p : Parsed) : Type 0 where
  pub query : IsRead IsQueryOf s.query p.query
  pub wanted : IsRead IsWanted s.records p.wanted
  pub elements : p.elements ≡ s.elements
  pub syntax : IsRead IsAskedSyntax s.syntax p.syntax

-- the error for an error of the prefix notation at this octet
abbrev pub error_of_kind : PqfErrorKind → ℕ → SearchError
error_of_kind kinds.Memory at = errors.Memory
error_of_kind kind at = errors.Query kind at

-- the error for a text that is no query
abbrev pub error_of : PqfError → SearchError
error_of e = error_of_kind e.kind e.at

-- the query of the text, if there is one, or why it has none
abbrev pub ReadQueryResult : Option (List ℕ) → Result (Option RpnQuery) SearchError → Type 0
ReadQueryResult text (Ok query) = IsRead IsQueryOf text query
ReadQueryResult text (Err (errors.Query kind at)) = HasText (λ t. IsTextFault t (record { kind = kind; at = at })) text
ReadQueryResult text (Err errors.Memory) = Unit {0}
ReadQueryResult text (Err _) = ⊥

-- the positions of the text, if there is one, or why it has none
abbrev pub ReadRecordsResult : Option (List ℕ) → Result (Option (List Range)) SearchError → Type 0
ReadRecordsResult text (Ok wanted) = IsRead IsWanted text wanted
ReadRecordsResult text (Err errors.Records) = HasText (λ t. wanted_of t ≡ None) text
ReadRecordsResult text (Err errors.Memory) = Unit {0}
ReadRecordsResult text (Err _) = ⊥

-- the record syntax of the text, if there is one, or why it has none
abbrev pub ReadSyntaxResult : Option (List ℕ) → Result (Option (Option (List ℕ))) SearchError → Type 0
ReadSyntaxResult text (Ok syntax) = IsRead IsAskedSyntax text syntax
ReadSyntaxResult text (Err errors.Syntax) = HasText (λ t. syntax_of (dotted_syntax t) ≡ None) text
ReadSyntaxResult text (Err errors.Memory) = Unit {0}
ReadSyntaxResult text (Err _) = ⊥

-- ---- one question

-- the value, or the one that was there
abbrev pub or_was : {A : Type 0} → Option A → A → A
or_was None was = was
or_was (Some value) was = value

-- the question with the parts of the search
abbrev pub asked_with : Parsed → AskedQuestion → AskedQuestion
asked_with p was = record was {
  question = record was.question {
    query = or_was p.query was.question.query;
    syntax = or_was p.syntax was.question.syntax;
    elements = option_or p.elements was.question.elements;
    wanted = or_was p.wanted was.question.wanted;
  };
}
