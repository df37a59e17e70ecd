-- ANSEL (ANSI/NISO Z39.47) with the additions of MARC 21: the characters of the octets from A0 on, as the Library of
-- Congress maps them to Unicode, each with the name that Unicode gives it. EB and FA are the first halves of marks that
-- span two letters, and are mapped to the marks of Unicode that span both.
use Rattle.std.specs.Prelude.{ℕ, ◌==◌, if◌then◌else◌, List, [], ◌∷◌, ◌++◌}

-- the octets of letters and signs, and what each means
abbrev pub ansel_letters : List (ℕ × ℕ)
ansel_letters =
    (0xA1, 0x0141) ∷  -- LATIN CAPITAL LETTER L WITH STROKE
    (0xA2, 0x00D8) ∷  -- LATIN CAPITAL LETTER O WITH STROKE
    (0xA3, 0x0110) ∷  -- LATIN CAPITAL LETTER D WITH STROKE
    (0xA4, 0x00DE) ∷  -- LATIN CAPITAL LETTER THORN
    (0xA5, 0x00C6) ∷  -- LATIN CAPITAL LETTER AE
    (0xA6, 0x0152) ∷  -- LATIN CAPITAL LIGATURE OE
    (0xA7, 0x02B9) ∷  -- MODIFIER LETTER PRIME
    (0xA8, 0x00B7) ∷  -- MIDDLE DOT
    (0xA9, 0x266D) ∷  -- MUSIC FLAT SIGN
    (0xAA, 0x00AE) ∷  -- REGISTERED SIGN
    (0xAB, 0x00B1) ∷  -- PLUS-MINUS SIGN
    (0xAC, 0x01A0) ∷  -- LATIN CAPITAL LETTER O WITH HORN
    (0xAD, 0x01AF) ∷  -- LATIN CAPITAL LETTER U WITH HORN
    (0xAE, 0x02BC) ∷  -- MODIFIER LETTER APOSTROPHE
    (0xB0, 0x02BB) ∷  -- MODIFIER LETTER TURNED COMMA
    (0xB1, 0x0142) ∷  -- LATIN SMALL LETTER L WITH STROKE
    (0xB2, 0x00F8) ∷  -- LATIN SMALL LETTER O WITH STROKE
    (0xB3, 0x0111) ∷  -- LATIN SMALL LETTER D WITH STROKE
    (0xB4, 0x00FE) ∷  -- LATIN SMALL LETTER THORN
    (0xB5, 0x00E6) ∷  -- LATIN SMALL LETTER AE
    (0xB6, 0x0153) ∷  -- LATIN SMALL LIGATURE OE
    (0xB7, 0x02BA) ∷  -- MODIFIER LETTER DOUBLE PRIME
    (0xB8, 0x0131) ∷  -- LATIN SMALL LETTER DOTLESS I
    (0xB9, 0x00A3) ∷  -- POUND SIGN
    (0xBA, 0x00F0) ∷  -- LATIN SMALL LETTER ETH
    (0xBC, 0x01A1) ∷  -- LATIN SMALL LETTER O WITH HORN
    (0xBD, 0x01B0) ∷  -- LATIN SMALL LETTER U WITH HORN
    (0xC0, 0x00B0) ∷  -- DEGREE SIGN
    (0xC1, 0x2113) ∷  -- SCRIPT SMALL L
    (0xC2, 0x2117) ∷  -- SOUND RECORDING COPYRIGHT
    (0xC3, 0x00A9) ∷  -- COPYRIGHT SIGN
    (0xC4, 0x266F) ∷  -- MUSIC SHARP SIGN
    (0xC5, 0x00BF) ∷  -- INVERTED QUESTION MARK
    (0xC6, 0x00A1) ∷  -- INVERTED EXCLAMATION MARK
    (0xC7, 0x00DF) ∷  -- LATIN SMALL LETTER SHARP S
    (0xC8, 0x20AC) ∷  -- EURO SIGN
    []

-- the octets of marks that are combined with the letter behind them, and what each means
abbrev pub ansel_marks : List (ℕ × ℕ)
ansel_marks =
    (0xE0, 0x0309) ∷  -- COMBINING HOOK ABOVE
    (0xE1, 0x0300) ∷  -- COMBINING GRAVE ACCENT
    (0xE2, 0x0301) ∷  -- COMBINING ACUTE ACCENT
    (0xE3, 0x0302) ∷  -- COMBINING CIRCUMFLEX ACCENT
    (0xE4, 0x0303) ∷  -- COMBINING TILDE
    (0xE5, 0x0304) ∷  -- COMBINING MACRON
    (0xE6, 0x0306) ∷  -- COMBINING BREVE
    (0xE7, 0x0307) ∷  -- COMBINING DOT ABOVE
    (0xE8, 0x0308) ∷  -- COMBINING DIAERESIS
    (0xE9, 0x030C) ∷  -- COMBINING CARON
    (0xEA, 0x030A) ∷  -- COMBINING RING ABOVE
    (0xEB, 0x0361) ∷  -- COMBINING DOUBLE INVERTED BREVE
    (0xED, 0x0315) ∷  -- COMBINING COMMA ABOVE RIGHT
    (0xEE, 0x030B) ∷  -- COMBINING DOUBLE ACUTE ACCENT
    (0xEF, 0x0310) ∷  -- COMBINING CANDRABINDU
    (0xF0, 0x0327) ∷  -- COMBINING CEDILLA
    (0xF1, 0x0328) ∷  -- COMBINING OGONEK
    (0xF2, 0x0323) ∷  -- COMBINING DOT BELOW
    (0xF3, 0x0324) ∷  -- COMBINING DIAERESIS BELOW
    (0xF4, 0x0325) ∷  -- COMBINING RING BELOW
    (0xF5, 0x0333) ∷  -- COMBINING DOUBLE LOW LINE
    (0xF6, 0x0332) ∷  -- COMBINING LOW LINE
    (0xF7, 0x0326) ∷  -- COMBINING COMMA BELOW
    (0xF8, 0x031C) ∷  -- COMBINING LEFT HALF RING BELOW
    (0xF9, 0x032E) ∷  -- COMBINING BREVE BELOW
    (0xFA, 0x0360) ∷  -- COMBINING DOUBLE TILDE
    (0xFE, 0x0313) ∷  -- COMBINING COMMA ABOVE
    []

-- what these rows say that an octet means; U+FFFD where none of them tells of it
abbrev pub meant_in : List (ℕ × ℕ) → ℕ → ℕ
meant_in [] x = 0xFFFD
meant_in (row ∷ rows) x = if row.0 == x then row.1 else meant_in rows x

-- the character of an octet from A0 on; U+FFFD where the octet means none
unfoldable pub ansel_character : ℕ → ℕ
ansel_character x = meant_in (ansel_letters ++ ansel_marks) x
