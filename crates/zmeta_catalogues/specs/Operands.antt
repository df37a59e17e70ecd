-- The attributes of a catalogue's prefix, and queries of a catalogue.
use Rattle.std.specs.Prelude.{◌≡◌, ◌⊎◌, ℕ, List, ◌++◌, codes, Option, None, Some}
use Rattle.zquery.specs.Notation.Sets.{bib1}
use Rattle.zquery.specs.Notation.Texts.{IsText, IsTextFault}
use Rattle.zquery.specs.Trees.{RpnQuery, Tree, OfTerm}
use Rattle.zquery_rpn.specs.declared.query.Attr.{Attr}
use Rattle.zquery_rpn.specs.declared.query.TermValue.TheVariants.{General}
use Rattle.zquery.specs.declared.notation.error.PqfError.{PqfError}
use Rattle.zquery.specs.declared.notation.error.PqfErrorKind.{PqfErrorKind}
use Rattle.zquery.specs.declared.notation.error.PqfErrorKind.TheVariants as kinds
use Rattle.zmeta_world.specs.Worlds.{IsQueryOf}
use Rattle.zmeta_catalogues.specs.declared.catalogue.Catalogue.{Catalogue}
use Rattle.zmeta_catalogues.specs.declared.catalogue.Terms.{Terms}
use Rattle.zmeta_catalogues.specs.declared.fault.Key.{Key}
use Rattle.zmeta_catalogues.specs.declared.fault.Key.TheVariants as keys
use Rattle.zmeta_catalogues.specs.declared.fault.FaultKind.{FaultKind}
use Rattle.zmeta_catalogues.specs.declared.fault.FaultKind.TheVariants as faults
use Rattle.zmeta_catalogues.specs.declared.fault.SettingFault.{SettingFault}
use Rattle.zmeta_catalogues.specs.declared.fault.Stop.{Stop}
use Rattle.zmeta_catalogues.specs.declared.fault.Stop.TheVariants as stops

-- ---- prefixes

-- the operand that a prefix is tried with
abbrev pub tried : List ℕ
tried = codes "x"

-- a query of this operand alone, with these attributes, of the set bib-1
abbrev pub operand_query : List Attr → RpnQuery
operand_query attrs = record { attr_set = bib1; root = OfTerm attrs (General tried) }

-- the text is these attributes: with an operand behind it, it stands for the operand with them
abbrev pub IsPrefix : List ℕ → List Attr → Type 0
IsPrefix text attrs = IsText (text ++ codes " x") (operand_query attrs)

-- the query is not the operand with attributes
abbrev pub IsOtherQuery : RpnQuery → Type 0
IsOtherQuery query = (attrs : List Attr) → query ≡ operand_query attrs → ⊥

-- the text does not stand for the operand with attributes
abbrev pub IsNoOperand : List ℕ → Type 0
IsNoOperand text = (attrs : List Attr) → IsText text (operand_query attrs) → ⊥

-- the text is no attributes
abbrev pub IsNoPrefix : List ℕ → Type 0
IsNoPrefix text = IsNoOperand (text ++ codes " x")

-- the setting is no prefix
abbrev pub prefix_fault : Key → SettingFault
prefix_fault key = record { key = key; kind = faults.Prefix }

-- why a query is not the operand with attributes
abbrev pub IsOtherStop : Key → RpnQuery → Stop → Type 0
IsOtherStop key query (stops.Fault f) = (f ≡ prefix_fault key) × IsOtherQuery query
IsOtherStop key query stops.Memory = ⊥

-- why a text does not stand for the operand with attributes; no memory may be found
abbrev pub IsOperandStop : Key → List ℕ → Stop → Type 0
IsOperandStop key text (stops.Fault f) = (f ≡ prefix_fault key) × IsNoOperand text
IsOperandStop key text stops.Memory = Unit {0}

-- why a text is no prefix; no memory may be found
abbrev pub IsPrefixStop : Key → List ℕ → Stop → Type 0
IsPrefixStop key text stop = IsOperandStop key (text ++ codes " x") stop

-- why a text with the operand is refused, for an error of this kind
abbrev pub prefix_stop_of : Key → PqfErrorKind → Stop
prefix_stop_of key kinds.Memory = stops.Memory
prefix_stop_of key kind = stops.Fault (prefix_fault key)

-- why a text with the operand is refused, for an error of the prefix notation
abbrev pub prefix_stop : Key → PqfError → Stop
prefix_stop key e = prefix_stop_of key e.kind

-- ---- queries

-- the text is no query for this reason
abbrev pub IsQueryKind : List ℕ → FaultKind → Type 0
IsQueryKind text (faults.Query kind at) = IsTextFault text (record { kind = kind; at = at })
IsQueryKind text _ = ⊥

-- the setting is a text that is no query
abbrev pub IsQueryFault : Key → List ℕ → SettingFault → Type 0
IsQueryFault key text f = (f.key ≡ key) × IsQueryKind text f.kind

-- why the reading of a query stops, for an error of this kind at this octet
abbrev pub stop_of_kind : Key → PqfErrorKind → ℕ → Stop
stop_of_kind key kinds.Memory at = stops.Memory
stop_of_kind key kind at = stops.Fault (record { key = key; kind = faults.Query kind at })

-- why the reading of a query stops, for an error of the prefix notation
abbrev pub stop_of : Key → PqfError → Stop
stop_of key e = stop_of_kind key e.kind e.at

-- why a text is no query; no memory may be found
abbrev pub IsQueryStop : Key → List ℕ → Stop → Type 0
IsQueryStop key text (stops.Fault f) = IsQueryFault key text f
IsQueryStop key text stops.Memory = Unit {0}

-- ---- the texts of a catalogue

-- the text, if there is one, is a prefix
abbrev pub HasPrefix : Option (List ℕ) → Type 0
HasPrefix None = Unit {0}
HasPrefix (Some text) = (attrs : List Attr) × IsPrefix text attrs

-- the text, if there is one, is a query
abbrev pub HasQuery : Option (List ℕ) → Type 0
HasQuery None = Unit {0}
HasQuery (Some text) = (query : RpnQuery) × IsQueryOf text query

-- each text of a catalogue is what it has to be: each of its terms a prefix, its query a query
pub record AreQueries (terms : Terms) (own : Option (List ℕ)) : Type 0 where
  pub title : HasPrefix terms.title
  pub author : HasPrefix terms.author
  pub subject : HasPrefix terms.subject
  pub any : HasPrefix terms.any
  pub isbn : HasPrefix terms.isbn
  pub issn : HasPrefix terms.issn
  pub year : HasPrefix terms.year
  pub query : HasQuery own

-- the text is there, and no prefix
abbrev pub LacksPrefix : Option (List ℕ) → Type 0
LacksPrefix None = ⊥
LacksPrefix (Some text) = IsNoPrefix text

-- the text is there, and no query for this reason
abbrev pub LacksQuery : Option (List ℕ) → FaultKind → Type 0
LacksQuery None kind = ⊥
LacksQuery (Some text) kind = IsQueryKind text kind

-- the text of a term
abbrev pub term_of : Key → Terms → Option (List ℕ)
term_of keys.Title terms = terms.title
term_of keys.Author terms = terms.author
term_of keys.Subject terms = terms.subject
term_of keys.Any terms = terms.any
term_of keys.Isbn terms = terms.isbn
term_of keys.Issn terms = terms.issn
term_of keys.Year terms = terms.year
term_of _ terms = None

-- the setting is a text that is there, and no prefix
abbrev pub IsGivenPrefixFault : Key → Option (List ℕ) → SettingFault → Type 0
IsGivenPrefixFault key text f = (f ≡ record { key = key; kind = faults.Prefix }) × LacksPrefix text

-- why a text that may be given is no prefix; no memory may be found
abbrev pub IsGivenPrefixStop : Key → Option (List ℕ) → Stop → Type 0
IsGivenPrefixStop key text (stops.Fault f) = IsGivenPrefixFault key text f
IsGivenPrefixStop key text stops.Memory = Unit {0}

-- the setting is the query, which is there and no query
abbrev pub IsGivenQueryFault : Option (List ℕ) → SettingFault → Type 0
IsGivenQueryFault text f = (f.key ≡ keys.Query) × LacksQuery text f.kind

-- why a query that may be given is none; no memory may be found
abbrev pub IsGivenQueryStop : Option (List ℕ) → Stop → Type 0
IsGivenQueryStop text (stops.Fault f) = IsGivenQueryFault text f
IsGivenQueryStop text stops.Memory = Unit {0}

-- a text of a catalogue at fault: a term that is no prefix, or the query
pub data IsTextFaultOf (terms : Terms) (query : Option (List ℕ)) (f : SettingFault) : Type 0 where
  of_term : (key : Key) → IsGivenPrefixFault key (term_of key terms) f → IsTextFaultOf terms query f
  of_query : IsGivenQueryFault query f → IsTextFaultOf terms query f

-- why a text of a catalogue is not what it has to be; no memory may be found
abbrev pub IsTextStop : Terms → Option (List ℕ) → Stop → Type 0
IsTextStop terms query (stops.Fault f) = IsTextFaultOf terms query f
IsTextStop terms query stops.Memory = Unit {0}
