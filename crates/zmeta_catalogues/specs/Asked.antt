-- The world that a search asks of catalogues.
use Rattle.std.specs.Prelude.{◌≡◌, ◌<◌, ◌≤◌, ℕ, min, max, List, [], ◌∷◌, length, map, slice_index_or, codes, Option, Some, None}
use Rattle.std.specs.Option.{option_map, option_or, unwrap_or}
use Rattle.zquery.specs.Notation.Sets.{bib1}
use Rattle.zquery.specs.Trees.{RpnQuery}
use Rattle.zmeta_world.specs.declared.world.World.{World}
use Rattle.zmeta_world.specs.declared.world.NamedHost.{NamedHost}
use Rattle.zmeta_world.specs.declared.world.AskedQuestion.{AskedQuestion}
use Rattle.zmeta_world.specs.declared.world.End.TheVariants as ends
use Rattle.zmeta_world.specs.Worlds.{IsQueryOf}
use Rattle.zmeta_world.specs.Search.{IsWanted, IsAskedSyntax, IsReplaced}
use Rattle.zmeta_catalogues.specs.declared.catalogue.Catalogue.{Catalogue}
use Rattle.zmeta_catalogues.specs.declared.search.CatalogueSearch.{CatalogueSearch}
use Rattle.zmeta_catalogues.specs.declared.search.Term.{Term}
use Rattle.zmeta_catalogues.specs.Charsets.{octets_in}
use Rattle.zmeta_catalogues.specs.Terms.{IsTermsTree}

-- ---- the search

-- the texts and the terms of a search
pub record AskedSearch : Type 0 where
  pub query : Option (List ℕ)
  pub terms : List Term
  pub records : Option (List ℕ)
  pub elements : Option (List ℕ)
  pub syntax : Option (List ℕ)

-- those of this search
abbrev pub asked_search : CatalogueSearch → AskedSearch
asked_search s = record {
  query = option_map (λ text. text.now) s.query;
  terms = s.terms.now;
  records = option_map (λ text. text.now) s.records;
  elements = option_map (λ text. text.now) s.elements;
  syntax = option_map (λ text. text.now) s.syntax;
}

-- the wanted positions: those of the search, or else the catalogue's, or else the first ten
abbrev pub records_for : AskedSearch → Catalogue → List ℕ
records_for s c = unwrap_or (option_or s.records c.settings.records) (codes "10")

-- the element set name: that of the search, or else the catalogue's
abbrev pub elements_for : AskedSearch → Catalogue → Option (List ℕ)
elements_for s c = option_or s.elements c.settings.elements

-- the record syntax: that of the search, or else the catalogue's
abbrev pub syntax_for : AskedSearch → Catalogue → Option (List ℕ)
syntax_for s c = option_or s.syntax c.settings.syntax

-- ---- queries

-- the text in the catalogue's character set is this query
pub record IsGivenQuery (c : Catalogue) (text : List ℕ) (q : RpnQuery) : Type 0 where
  pub octets : List ℕ
  pub converted : octets_in c.settings.charset text ≡ Some octets
  pub query : IsQueryOf octets q

-- the query of terms: each is one operand, and a record has to match them all; there are at most 32
pub record IsTermsQuery (c : Catalogue) (ts : List Term) (q : RpnQuery) : Type 0 where
  pub few : length ts ≤ 32
  pub attr_set : q.attr_set ≡ bib1
  pub tree : IsTermsTree c ts q.root

-- the query for a catalogue, by the query of the catalogue and that of the search
abbrev pub IsAskedQueryBy : Catalogue → List Term → Option (List ℕ) → Option (List ℕ) → RpnQuery → Type 0
IsAskedQueryBy c ts (Some text) given q = IsQueryOf text q
IsAskedQueryBy c ts None (Some text) q = IsGivenQuery c text q
IsAskedQueryBy c ts None None q = IsTermsQuery c ts q

-- the query for a catalogue: its own, or else that of the search, or else that of the terms
abbrev pub IsAskedQuery : AskedSearch → Catalogue → RpnQuery → Type 0
IsAskedQuery s c q = IsAskedQueryBy c s.terms c.query s.query q

-- ---- questions

-- the question to this catalogue, which is the host of this number
pub record IsAsked (s : AskedSearch) (at : ℕ) (c : Catalogue) (q : AskedQuestion) : Type 0 where
  pub line : q.line ≡ c.line
  pub name : q.name ≡ c.name
  pub end : q.end ≡ ends.Host at
  pub databases : q.question.databases ≡ c.databases
  pub query : IsAskedQuery s c q.question.query
  pub wanted : IsWanted (records_for s c) q.question.wanted
  pub elements : q.question.elements ≡ elements_for s c
  pub syntax : IsReplaced IsAskedSyntax (syntax_for s c) None q.question.syntax

-- the host of a catalogue
abbrev pub host_of : Catalogue → NamedHost
host_of c = record { name = c.name; address = c.address }

-- each catalogue is a host, with the question of the search to it
pub record AreAsked (s : AskedSearch) (cs : List Catalogue) (hosts : List NamedHost) (qs : List AskedQuestion)
    : Type 0 where
  pub as_many_hosts : length hosts ≡ length cs
  pub as_many : length qs ≡ length cs
  pub each_host : (at : ℕ) (c : Catalogue) (h : NamedHost) → at < length cs
      → slice_index_or hosts at h ≡ host_of (slice_index_or cs at c)
  pub each_question : (at : ℕ) (c : Catalogue) (q : AskedQuestion) → at < length cs
      → IsAsked s at (slice_index_or cs at c) (slice_index_or qs at q)

-- ---- the world

-- the least of the numbers, and of `most`
abbrev pub least_of : ℕ → List ℕ → ℕ
least_of most [] = most
least_of most (n ∷ ns) = least_of (min most n) ns

-- a number that is given, 1 at least; or else the one of a world file that gives none
abbrev pub number_or : ℕ → Option ℕ → ℕ
number_or default given = max 1 (unwrap_or given default)

-- how many positions one Present asks for: the least that is given for a catalogue, where 10 stands for none
abbrev pub least_step : List Catalogue → ℕ
least_step cs = least_of 1000 (map (λ c. number_or 10 c.settings.step) cs)

-- how many Presents may be outstanding: the least that is given for a catalogue, where 4 stands for none
abbrev pub least_window : List Catalogue → ℕ
least_window cs = least_of 64 (map (λ c. number_or 4 c.settings.window) cs)

-- the world that the search asks of the catalogues
pub record IsAskedWorld (s : AskedSearch) (cs : List Catalogue) (w : World) : Type 0 where
  pub step : w.step ≡ least_step cs
  pub window : w.window ≡ least_window cs
  pub targets : w.targets ≡ []
  pub asked : AreAsked s cs w.hosts w.questions
  pub moves : w.moves ≡ []
