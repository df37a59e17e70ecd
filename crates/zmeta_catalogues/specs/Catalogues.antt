-- The catalogue that a table of a file stands for.
use Rattle.std.specs.Prelude.{◌≡◌, ℕ, List, [], ◌∷◌, codes, Option, Some, None, Result, Ok, Err}
use Rattle.std.specs.Option.{option_or}
use Rattle.toml.specs.Data.{Data, Items, no_items, item, Members, get_member, as_str, as_array, as_table}
use Rattle.zmeta_catalogues.specs.declared.charset.Charset.{Charset}
use Rattle.zmeta_catalogues.specs.declared.catalogue.Catalogue.{Catalogue}
use Rattle.zmeta_catalogues.specs.declared.catalogue.Settings.{Settings}
use Rattle.zmeta_catalogues.specs.declared.catalogue.Terms.{Terms}
use Rattle.zmeta_catalogues.specs.declared.fault.Key.{Key}
use Rattle.zmeta_catalogues.specs.declared.fault.Key.TheVariants as keys
use Rattle.zmeta_catalogues.specs.declared.fault.FaultKind.TheVariants as faults
use Rattle.zmeta_catalogues.specs.Keys.{name_of}
use Rattle.zmeta_catalogues.specs.Values.{Reading, bind, fault, value_of, filled, text_of, number_of, charset_of, syntax_text_of, records_of, query_of}
use Rattle.zmeta_catalogues.specs.Addresses.{address_of}

-- ---- databases

-- the text, or an error if there is none
abbrev pub some_text : Option (List ℕ) → Reading (List ℕ)
some_text None = fault keys.Database faults.Empty
some_text (Some text) = Ok text

-- a name of a database
abbrev pub database_at : Data → Reading (List ℕ)
database_at value = bind (filled keys.Database (as_str value)) some_text

-- the names of databases, each a text that is not empty
abbrev pub texts_of : Items → Reading (List (List ℕ))
texts_of no_items = Ok []
texts_of (item value rest) = bind (database_at value) (λ text. bind (texts_of rest) (λ texts. Ok (text ∷ texts)))

-- one name or more
abbrev pub some_databases : List (List ℕ) → Reading (List (List ℕ))
some_databases [] = fault keys.Database faults.Empty
some_databases (text ∷ texts) = Ok (text ∷ texts)

-- one name, or several
abbrev pub one_or_several : Data → Option Items → Reading (List (List ℕ))
one_or_several value (Some items) = bind (texts_of items) some_databases
one_or_several value None = bind (database_at value) (λ text. Ok (text ∷ []))

-- the databases of a catalogue
abbrev pub databases_of : Option Data → Reading (List (List ℕ))
databases_of None = fault keys.Database faults.Missing
databases_of (Some value) = one_or_several value (as_array value)

-- ---- what may stand for all

-- these texts, with the numbers and the charset of a catalogue: its own, or else those for all
abbrev pub with_numbers : Members → Members → Option (List ℕ) → Option (List ℕ) → Option (List ℕ) → Reading Settings
with_numbers own top syntax elements records =
    bind (number_of keys.Step 1000 (value_of keys.Step own top)) (λ step.
    bind (number_of keys.Window 64 (value_of keys.Window own top)) (λ window.
    bind (charset_of (value_of keys.Charset own top)) (λ charset.
    bind (number_of keys.Patience 3600 (value_of keys.Patience own top)) (λ patience.
    bind (number_of keys.Connect 3600 (value_of keys.Connect own top)) (λ connect.
    Ok (record {
      syntax = syntax;
      elements = elements;
      records = records;
      step = step;
      window = window;
      charset = charset;
      patience = patience;
      connect = connect;
    }))))))

-- the settings of a catalogue: its own, or else those for all
abbrev pub settings_of : Members → Members → Reading Settings
settings_of own top =
    bind (syntax_text_of (value_of keys.Syntax own top)) (λ syntax.
    bind (text_of keys.Elements (value_of keys.Elements own top)) (λ elements.
    bind (records_of (value_of keys.Records own top)) (λ records.
    with_numbers own top syntax elements records)))

-- the texts of the settings are those that the top has for all
pub record AreForAll (top : Members) (s : Settings) : Type 0 where
  pub syntax : syntax_text_of (get_member (name_of keys.Syntax) top) ≡ Ok s.syntax
  pub elements : text_of keys.Elements (get_member (name_of keys.Elements) top) ≡ Ok s.elements
  pub records : records_of (get_member (name_of keys.Records) top) ≡ Ok s.records

-- ---- terms

-- how a catalogue is asked, if its file does not say so
abbrev pub no_terms : Terms
no_terms = record {
  title = None;
  author = None;
  subject = None;
  any = None;
  isbn = None;
  issn = None;
  year = None;
}

-- the text at a key of a table
abbrev pub text_at : Key → Members → Reading (Option (List ℕ))
text_at key ms = text_of key (get_member (name_of key) ms)

-- the terms of this table
abbrev pub terms_at : Members → Reading Terms
terms_at ms =
    bind (text_at keys.Title ms) (λ title.
    bind (text_at keys.Author ms) (λ author.
    bind (text_at keys.Subject ms) (λ subject.
    bind (text_at keys.Any ms) (λ any.
    bind (text_at keys.Isbn ms) (λ isbn.
    bind (text_at keys.Issn ms) (λ issn.
    bind (text_at keys.Year ms) (λ year.
    Ok (record {
      title = title;
      author = author;
      subject = subject;
      any = any;
      isbn = isbn;
      issn = issn;
      year = year;
    }))))))))

-- the terms, which have to be a table
abbrev pub terms_in : Option Members → Reading Terms
terms_in None = fault keys.Terms faults.Type
terms_in (Some ms) = terms_at ms

-- the terms of a catalogue
abbrev pub terms_of : Option Data → Reading Terms
terms_of None = Ok no_terms
terms_of (Some value) = terms_in (as_table value)

-- ---- the catalogue

-- the settings of a catalogue, and the query that replaces the search
abbrev pub asked_settings : Members → Members → Reading (Settings × Option (List ℕ))
asked_settings own top =
    bind (settings_of own top) (λ settings.
    bind (query_of settings.charset (get_member (name_of keys.Query) own)) (λ query.
    Ok (settings, query)))

-- the catalogue of this name, on this line, with this table, in a file with this top
abbrev pub catalogue_of : List ℕ → ℕ → Members → Members → Reading Catalogue
catalogue_of name line own top =
    bind (address_of (get_member (name_of keys.Address) own)) (λ address.
    bind (databases_of (get_member (name_of keys.Database) own)) (λ databases.
    bind (asked_settings own top) (λ asked.
    bind (terms_of (get_member (name_of keys.Terms) own)) (λ terms.
    Ok (record {
      name = name;
      line = line;
      address = address;
      databases = databases;
      settings = asked.0;
      terms = terms;
      query = asked.1;
    })))))
