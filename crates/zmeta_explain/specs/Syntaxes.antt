-- The names of record syntaxes, and what else people write for them.
use Rattle.std.specs.Prelude.{ℕ, Bool, ◌||◌, if◌then◌else◌, Option, Some, None, List, ◌++◌, codes}
use Rattle.std.specs.Str.{str_eq_ignore_ascii_case}
use Rattle.zmeta_explain.specs.declared.syntaxes.NamedSyntax.{NamedSyntax}
use Rattle.zmeta_explain.specs.declared.syntaxes.NamedSyntax.TheVariants.{Marc21, Unimarc, Xml, Sutrs, Opac, Grs1}
use Rattle.zmeta_explain.specs.Shown.{shown_text}

-- the name, as `--syntax` takes it
abbrev pub syntax_name : NamedSyntax → List ℕ
syntax_name Marc21 = codes "marc21"
syntax_name Unimarc = codes "unimarc"
syntax_name Xml = codes "xml"
syntax_name Sutrs = codes "sutrs"
syntax_name Opac = codes "opac"
syntax_name Grs1 = codes "grs1"

-- the object identifier in dotted form (Z39.50-2003, Appendix REC)
abbrev pub syntax_oid : NamedSyntax → List ℕ
syntax_oid Marc21 = codes "1.2.840.10003.5.10"
syntax_oid Unimarc = codes "1.2.840.10003.5.1"
syntax_oid Xml = codes "1.2.840.10003.5.109.10"
syntax_oid Sutrs = codes "1.2.840.10003.5.101"
syntax_oid Opac = codes "1.2.840.10003.5.102"
syntax_oid Grs1 = codes "1.2.840.10003.5.105"

-- ---- the words for each, in either case

abbrev pub marc21_word : List ℕ → Bool
marc21_word text =
    str_eq_ignore_ascii_case text (codes "marc21") || str_eq_ignore_ascii_case text (codes "usmarc")
    || str_eq_ignore_ascii_case text (codes "marc")

abbrev pub unimarc_word : List ℕ → Bool
unimarc_word text = str_eq_ignore_ascii_case text (codes "unimarc")

abbrev pub xml_word : List ℕ → Bool
xml_word text = str_eq_ignore_ascii_case text (codes "xml") || str_eq_ignore_ascii_case text (codes "marcxml")

abbrev pub sutrs_word : List ℕ → Bool
sutrs_word text = str_eq_ignore_ascii_case text (codes "sutrs") || str_eq_ignore_ascii_case text (codes "text")

abbrev pub opac_word : List ℕ → Bool
opac_word text = str_eq_ignore_ascii_case text (codes "opac")

abbrev pub grs1_word : List ℕ → Bool
grs1_word text = str_eq_ignore_ascii_case text (codes "grs1") || str_eq_ignore_ascii_case text (codes "grs-1")

-- the syntax that a word is a name of, here or elsewhere
abbrev pub meant_syntax : List ℕ → Option NamedSyntax
meant_syntax text =
    if marc21_word text then Some Marc21
    else if unimarc_word text then Some Unimarc
    else if xml_word text then Some Xml
    else if sutrs_word text then Some Sutrs
    else if opac_word text then Some Opac
    else if grs1_word text then Some Grs1
    else None

-- ---- words

-- of a text for which this syntax is meant, if one is
abbrev pub other_words : List ℕ → Option NamedSyntax → List ℕ
other_words text (Some s) = shown_text text ++ codes " is no name of a syntax here; write " ++ syntax_name s
other_words text None =
    shown_text text
    ++ codes " is no syntax; syntaxes are marc21, unimarc, xml, sutrs, opac, grs1, or a dotted OID"

-- of a text that is no syntax of `--syntax`
abbrev pub syntax_words : List ℕ → List ℕ
syntax_words text = other_words text (meant_syntax text)
