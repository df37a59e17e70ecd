-- Why a search cannot be put to a catalogue.
use Rattle.std.specs.Prelude.{◌≡◌, ◌⊎◌, ◌<◌, ◌≤◌, ℕ, true, List, [], ◌∷◌, length, slice_index_or, Option, Some, None}
use Rattle.zquery.specs.Notation.Texts.{IsTextFault}
use Rattle.zquery.specs.declared.notation.error.PqfError.{PqfError}
use Rattle.zquery.specs.declared.notation.error.PqfErrorKind.{PqfErrorKind}
use Rattle.zquery.specs.declared.notation.error.PqfErrorKind.TheVariants as kinds
use Rattle.zmeta_world.specs.WorldWants.{wanted_of}
use Rattle.zmeta_world.specs.WorldLines.{syntax_of}
use Rattle.zmeta_world.specs.Search.{dotted_syntax, HasText}
use Rattle.zmeta_catalogues.specs.declared.catalogue.Catalogue.{Catalogue}
use Rattle.zmeta_catalogues.specs.declared.fault.SettingFault.{SettingFault}
use Rattle.zmeta_catalogues.specs.declared.fault.Stop.{Stop}
use Rattle.zmeta_catalogues.specs.declared.fault.Stop.TheVariants as stops
use Rattle.zmeta_catalogues.specs.declared.fault.FaultKind.TheVariants as faults
use Rattle.zmeta_catalogues.specs.declared.search.Access.{Access}
use Rattle.zmeta_catalogues.specs.declared.search.Term.{Term}
use Rattle.zmeta_catalogues.specs.declared.search.AskError.{AskError}
use Rattle.zmeta_catalogues.specs.declared.search.AskError.TheVariants as errors
use Rattle.zmeta_catalogues.specs.Charsets.{octets_in}
use Rattle.zmeta_catalogues.specs.Operands.{IsNoPrefix, LacksQuery}
use Rattle.zmeta_catalogues.specs.Terms.{key_of, prefix_for, asked_octets, are_blank}
use Rattle.zmeta_catalogues.specs.Asked.{AskedSearch, records_for, syntax_for}

-- ---- terms

-- the error for a fault of a catalogue's texts; no memory may be found
abbrev pub IsPrefixError : List ℕ → Stop → AskError → Type 0
IsPrefixError name (stops.Fault fault) (errors.Setting catalogue f) = (catalogue ≡ name) × (f ≡ fault)
IsPrefixError name stop errors.Memory = Unit {0}
IsPrefixError name stop _ = ⊥

-- the error for a term that the charset of a catalogue cannot write; no memory may be found
abbrev pub IsCharsetError : List ℕ → Access → AskError → Type 0
IsCharsetError name a (errors.TermCharset catalogue b) = (catalogue ≡ name) × (b ≡ a)
IsCharsetError name a errors.Memory = Unit {0}
IsCharsetError name a _ = ⊥

-- nothing is asked for by the term
pub record IsBlankTerm (c : Catalogue) (t : Term) : Type 0 where
  pub octets : List ℕ
  pub converted : octets_in c.settings.charset t.text.now ≡ Some octets
  pub blank : are_blank (asked_octets t.access octets) ≡ true

-- why a term cannot be put to a catalogue; no memory may be found
abbrev pub IsTermError : Catalogue → Term → AskError → Type 0
IsTermError c t (errors.TermCharset catalogue a) =
    (catalogue ≡ c.name) × (a ≡ t.access) × (octets_in c.settings.charset t.text.now ≡ None)
IsTermError c t (errors.BlankTerm a) = (a ≡ t.access) × IsBlankTerm c t
IsTermError c t (errors.Setting catalogue f) =
    (catalogue ≡ c.name) × (f ≡ record { key = key_of t.access; kind = faults.Prefix })
    × IsNoPrefix (prefix_for c t.access)
IsTermError c t errors.Memory = Unit {0}
IsTermError c t _ = ⊥

-- one of the terms cannot be put to the catalogue
abbrev pub HasTermError : Catalogue → List Term → AskError → Type 0
HasTermError c [] e = ⊥
HasTermError c (t ∷ ts) e = IsTermError c t e ⊎ HasTermError c ts e

-- why terms cannot be put to a catalogue; no memory may be found
abbrev pub IsTermsError : Catalogue → List Term → AskError → Type 0
IsTermsError c ts errors.Memory = Unit {0}
IsTermsError c ts e = HasTermError c ts e

-- ---- queries

-- the error for a query of the search that is none, of this kind at this octet
abbrev pub given_error_of : PqfErrorKind → ℕ → AskError
given_error_of kinds.Memory at = errors.Memory
given_error_of kind at = errors.Query kind at

-- the error for a query of the search, for an error of the prefix notation
abbrev pub given_error : PqfError → AskError
given_error e = given_error_of e.kind e.at

-- why a text is no query of the search; no memory may be found
abbrev pub IsParsedError : List ℕ → AskError → Type 0
IsParsedError text (errors.Query kind at) = IsTextFault text (record { kind = kind; at = at })
IsParsedError text errors.Memory = Unit {0}
IsParsedError text _ = ⊥

-- the query of the search is none, or the charset of the catalogue cannot write it; no memory may be found
abbrev pub IsGivenError : Catalogue → List ℕ → AskError → Type 0
IsGivenError c text (errors.QueryCharset catalogue) =
    (catalogue ≡ c.name) × (octets_in c.settings.charset text ≡ None)
IsGivenError c text (errors.Query kind at) =
    (octets : List ℕ) × (octets_in c.settings.charset text ≡ Some octets)
    × IsTextFault octets (record { kind = kind; at = at })
IsGivenError c text errors.Memory = Unit {0}
IsGivenError c text _ = ⊥

-- the query of a catalogue is none; no memory may be found
abbrev pub IsOwnError : Catalogue → List ℕ → AskError → Type 0
IsOwnError c text (errors.Setting catalogue f) = (catalogue ≡ c.name) × LacksQuery (Some text) f.kind
IsOwnError c text errors.Memory = Unit {0}
IsOwnError c text _ = ⊥

-- why the terms of a search are no query for a catalogue; no memory may be found
abbrev pub IsTermsQueryError : Catalogue → List Term → AskError → Type 0
IsTermsQueryError c ts (errors.NoSearch catalogue) = (catalogue ≡ c.name) × (length ts ≡ 0)
IsTermsQueryError c ts errors.TooManyTerms = 32 < length ts
IsTermsQueryError c ts errors.Memory = Unit {0}
IsTermsQueryError c ts e = HasTermError c ts e

-- why a search has no query for a catalogue, by the query of the catalogue and that of the search
abbrev pub IsQueryErrorBy : Catalogue → List Term → Option (List ℕ) → Option (List ℕ) → AskError → Type 0
IsQueryErrorBy c ts (Some text) given e = IsOwnError c text e
IsQueryErrorBy c ts None (Some text) e = IsGivenError c text e
IsQueryErrorBy c ts None None e = IsTermsQueryError c ts e

-- why a search has no query for a catalogue
abbrev pub IsQueryError : AskedSearch → Catalogue → AskError → Type 0
IsQueryError s c e = IsQueryErrorBy c s.terms c.query s.query e

-- ---- searches

-- why a search cannot be put to a catalogue; no memory may be found
abbrev pub IsAskError : AskedSearch → Catalogue → AskError → Type 0
IsAskError s c errors.Records = wanted_of (records_for s c) ≡ None
IsAskError s c errors.Syntax = HasText (λ text. syntax_of (dotted_syntax text) ≡ None) (syntax_for s c)
IsAskError s c e = IsQueryError s c e

-- the search cannot be put to one of the catalogues
pub record HasAskError (s : AskedSearch) (cs : List Catalogue) (e : AskError) : Type 0 where
  pub at : ℕ
  pub within : at < length cs
  pub error : (d : Catalogue) → IsAskError s (slice_index_or cs at d) e

-- why a search cannot be put to catalogues; no memory may be found
abbrev pub AreAskErrors : AskedSearch → List Catalogue → AskError → Type 0
AreAskErrors s cs errors.Memory = Unit {0}
AreAskErrors s cs e = HasAskError s cs e
