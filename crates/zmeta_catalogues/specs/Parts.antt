-- One question of a search.
use Rattle.std.specs.Prelude.{◌≡◌, ℕ, List, [], ◌∷◌, ◌++◌, codes, Option, Some, None}
use Rattle.zquery.specs.Trees.{RpnQuery}
use Rattle.zoom_questions.specs.Askable.{IsAskable}
use Rattle.zmeta_world.specs.declared.world.AskedQuestion.{AskedQuestion}
use Rattle.zmeta_world.specs.declared.world.End.TheVariants as ends
use Rattle.zmeta_world.specs.WorldWants.{wanted_of}
use Rattle.zmeta_world.specs.WorldLines.{syntax_of}
use Rattle.zmeta_world.specs.Search.{SearchTexts, IsAskedBy, HasText, dotted_syntax}
use Rattle.zmeta_catalogues.specs.declared.catalogue.Catalogue.{Catalogue}
use Rattle.zmeta_catalogues.specs.declared.search.AskError.{AskError}
use Rattle.zmeta_catalogues.specs.declared.search.AskError.TheVariants as errors
use Rattle.zmeta_catalogues.specs.Asked.{AskedSearch, records_for, elements_for, syntax_for}

-- what is put to the question of a catalogue: all but the query
abbrev pub texts_for : AskedSearch → Catalogue → SearchTexts
texts_for s c = record {
  query = None;
  records = Some (records_for s c);
  elements = elements_for s c;
  syntax = syntax_for s c;
}

-- the question to a catalogue, the host of this number, that wants no positions
abbrev pub question_to : Catalogue → ℕ → RpnQuery → AskedQuestion
question_to c at query = record {
  line = c.line;
  name = c.name;
  end = ends.Host at;
  question = record { databases = c.databases; query = query; syntax = None; elements = None; wanted = [] };
}

-- the last of the questions, if there is any
abbrev pub IsLastQuestion : List AskedQuestion → Option AskedQuestion → Type 0
IsLastQuestion qs None = qs ≡ []
IsLastQuestion qs (Some q) = (front : List AskedQuestion) × (qs ≡ front ++ q ∷ [])

-- the question with what these texts ask, which can be asked
abbrev pub IsPutQuestion : SearchTexts → AskedQuestion → AskedQuestion → Type 0
IsPutQuestion texts was now = IsAskedBy texts was now × IsAskable now.question

-- why a search cannot be put to the question of a catalogue; no memory may be found
abbrev pub IsPutError : AskedSearch → Catalogue → AskError → Type 0
IsPutError s c errors.Records = wanted_of (records_for s c) ≡ None
IsPutError s c errors.Syntax = HasText (λ text. syntax_of (dotted_syntax text) ≡ None) (syntax_for s c)
IsPutError s c errors.Memory = Unit {0}
IsPutError s c _ = ⊥
