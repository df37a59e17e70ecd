-- The line of a catalogue of a file: what the file says of it.
use Rattle.std.specs.Prelude.{ℕ, ◌==◌, ◌&&◌, nat_le, nat_lt, not, Bool, if◌then◌else◌, List, [], ◌++◌, length, codes, Option, Some, None}
use Rattle.std.specs.Fmt.{decimal}
use Rattle.std.specs.List.{flat_map, list_all}
use Rattle.zapdu.specs.Text.{quoted}
use Rattle.zmeta_catalogues.specs.declared.catalogue.Catalogue.{Catalogue}
use Rattle.zmeta_catalogues.specs.declared.catalogue.Settings.{Settings}
use Rattle.zmeta_catalogues.specs.declared.catalogue.Terms.{Terms}
use Rattle.zmeta_catalogues.specs.declared.charset.Charset.{Charset}
use Rattle.zmeta_catalogues.specs.declared.charset.Charset.TheVariants as charsets
use Rattle.zmeta_catalogues.specs.declared.fault.Key.{Key}
use Rattle.zmeta_catalogues.specs.declared.fault.Key.TheVariants as keys
use Rattle.zmeta_catalogues.specs.Keys.{name_of}

-- the octet stands for itself in a word: 21 to 7E, but no quote and no backslash
abbrev pub is_bare : ℕ → Bool
is_bare b = nat_le 33 b && nat_le b 126 && not (b == 34) && not (b == 92)

-- each of the octets stands for itself in a word
abbrev pub are_bare : List ℕ → Bool
are_bare octets = list_all is_bare octets

-- the octets are a word: there is one, and each stands for itself
abbrev pub is_word : List ℕ → Bool
is_word octets = nat_lt 0 (length octets) && are_bare octets

-- a text: as it is, if it is a word, or else in quotes
unfoldable pub word_text : List ℕ → List ℕ
word_text octets = if is_word octets then octets else quoted octets

-- a value behind a space and its key
abbrev pub keyed : Key → List ℕ → List ℕ
keyed key value = codes " " ++ name_of key ++ codes " " ++ value

-- a word of this key, if there is one
abbrev pub word_part : Key → Option (List ℕ) → List ℕ
word_part key None = []
word_part key (Some text) = keyed key (word_text text)

-- a text of this key in quotes, if there is one
abbrev pub text_part : Key → Option (List ℕ) → List ℕ
text_part key None = []
text_part key (Some text) = keyed key (quoted text)

-- a number of this key, if there is one
abbrev pub number_part : Key → Option ℕ → List ℕ
number_part key None = []
number_part key (Some n) = keyed key (decimal n)

-- the name of a charset
abbrev pub charset_name : Charset → List ℕ
charset_name charsets.Utf8 = codes "utf-8"
charset_name charsets.Latin1 = codes "latin-1"

-- the charset, if one is given
abbrev pub charset_part : Option Charset → List ℕ
charset_part None = []
charset_part (Some charset) = keyed keys.Charset (charset_name charset)

-- a name of a database, behind a space
abbrev pub database_part : List ℕ → List ℕ
database_part name = codes " " ++ quoted name

-- the settings whose values are words
abbrev pub words_part : Settings → List ℕ
words_part s =
    word_part keys.Syntax s.syntax ++ word_part keys.Elements s.elements ++ word_part keys.Records s.records

-- the other settings
abbrev pub numbers_part : Settings → List ℕ
numbers_part s =
    number_part keys.Step s.step ++ number_part keys.Window s.window ++ charset_part s.charset
    ++ number_part keys.Patience s.patience ++ number_part keys.Connect s.connect

-- how a catalogue is asked, as far as it says so
abbrev pub terms_part : Terms → List ℕ
terms_part t =
    text_part keys.Title t.title ++ text_part keys.Author t.author ++ text_part keys.Subject t.subject
    ++ text_part keys.Any t.any ++ text_part keys.Isbn t.isbn ++ text_part keys.Issn t.issn
    ++ text_part keys.Year t.year

-- where a catalogue is: the number of its line, its name, its address and its databases
abbrev pub place_part : Catalogue → List ℕ
place_part c =
    decimal c.line ++ codes " " ++ quoted c.name ++ codes " " ++ word_text c.address
    ++ flat_map database_part c.databases

-- the line of a catalogue
abbrev pub catalogue_line : Catalogue → List ℕ
catalogue_line c =
    place_part c ++ words_part c.settings ++ numbers_part c.settings ++ terms_part c.terms
    ++ text_part keys.Query c.query ++ codes "\n"

-- the lines of catalogues, in order
abbrev pub catalogue_lines : List Catalogue → List ℕ
catalogue_lines cs = flat_map catalogue_line cs
