-- The keys of a file of catalogues.
use Rattle.std.specs.Prelude.{◌≡◌, ℕ, List, [], ◌∷◌, Bool, true, false, codes}
use Rattle.std.specs.List.{list_any}
use Rattle.std.specs.Str.{bytes_eq}
use Rattle.zmeta_catalogues.specs.declared.fault.Key.{Key}
use Rattle.zmeta_catalogues.specs.declared.fault.Key.TheVariants as keys
use Rattle.zmeta_catalogues.specs.declared.words.TableKind.{TableKind}
use Rattle.zmeta_catalogues.specs.declared.words.TableKind.TheVariants as kinds

-- the name of a key, as it is written in a file
abbrev pub name_of : Key → List ℕ
name_of keys.Address = codes "address"
name_of keys.Database = codes "database"
name_of keys.Syntax = codes "syntax"
name_of keys.Elements = codes "elements"
name_of keys.Records = codes "records"
name_of keys.Step = codes "step"
name_of keys.Window = codes "window"
name_of keys.Charset = codes "charset"
name_of keys.Patience = codes "patience"
name_of keys.Connect = codes "connect"
name_of keys.Terms = codes "terms"
name_of keys.Query = codes "query"
name_of keys.Title = codes "title"
name_of keys.Author = codes "author"
name_of keys.Subject = codes "subject"
name_of keys.Any = codes "any"
name_of keys.Isbn = codes "isbn"
name_of keys.Issn = codes "issn"
name_of keys.Year = codes "year"

-- the keys of the terms of a catalogue
abbrev pub term_keys : List Key
term_keys = keys.Title ∷ keys.Author ∷ keys.Subject ∷ keys.Any ∷ keys.Isbn ∷ keys.Issn ∷ keys.Year ∷ []

-- the settings that may stand for all
abbrev pub keys_for_all : List Key
keys_for_all =
    keys.Syntax ∷ keys.Elements ∷ keys.Records ∷ keys.Step ∷ keys.Window ∷ keys.Charset ∷ keys.Patience ∷ keys.Connect
    ∷ []

-- the keys of the table of a catalogue
abbrev pub catalogue_keys : List Key
catalogue_keys =
    keys.Address ∷ keys.Database ∷ keys.Syntax ∷ keys.Elements ∷ keys.Records ∷ keys.Step ∷ keys.Window ∷ keys.Charset
    ∷ keys.Patience ∷ keys.Connect ∷ keys.Terms ∷ keys.Query ∷ []

-- the keys of a table of this kind
abbrev pub keys_of : TableKind → List Key
keys_of kinds.Top = keys_for_all
keys_of kinds.Catalogue = catalogue_keys
keys_of kinds.Terms = term_keys

-- a table of this kind has a key of this name
unfoldable pub is_known : TableKind → List ℕ → Bool
is_known kind word = list_any (λ key. bytes_eq (name_of key) word) (keys_of kind)
