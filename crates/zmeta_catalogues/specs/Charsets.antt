-- The octets of a text in the character set of a catalogue.
use Rattle.std.specs.Prelude.{ℕ, List, [], ◌∷◌, Bool, nat_le, if◌then◌else◌, Option, Some, None, codes}
use Rattle.std.specs.Option.{option_map}
use Rattle.std.specs.Str.{chars, bytes_eq}
use Rattle.zmeta_catalogues.specs.declared.charset.Charset.{Charset}
use Rattle.zmeta_catalogues.specs.declared.charset.Charset.TheVariants as charsets

-- the character is one of ISO 8859-1, whose octet is its number
abbrev pub is_latin1 : ℕ → Bool
is_latin1 c = nat_le c 255

-- the octets of these characters in ISO 8859-1, if all are of it
abbrev pub latin1 : List ℕ → Option (List ℕ)
latin1 [] = Some []
latin1 (c ∷ cs) = if is_latin1 c then option_map (λ octets. c ∷ octets) (latin1 cs) else None

-- the octets of the text in this character set, if it has all characters of the text; in UTF-8, if none is given
abbrev pub octets_in : Option Charset → List ℕ → Option (List ℕ)
octets_in None text = Some text
octets_in (Some charsets.Utf8) text = Some text
octets_in (Some charsets.Latin1) text = latin1 (chars text)

-- the character set of this name
abbrev pub charset_named : List ℕ → Option Charset
charset_named text =
    if bytes_eq text (codes "utf-8") then Some charsets.Utf8
    else if bytes_eq text (codes "latin-1") then Some charsets.Latin1
    else None
