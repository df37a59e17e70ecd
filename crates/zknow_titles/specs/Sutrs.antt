-- Records of SUTRS (Z39.50-2003, Appendix REC): text, shown as one line.
use Rattle.std.specs.Prelude.{ℕ, Bool, true, false, ◌&&◌, ◌==◌, nat_le, if◌then◌else◌, Option, unwrap_or, List, [], ◌∷◌, ◌++◌, length, take}
use Rattle.std.specs.Str.{chars, encode_utf8_all}
use Rattle.zmarc.specs.declared.charset.Charset.{Charset}
use Rattle.zmarc.specs.declared.charset.Charset.TheVariants.{Utf8}
use Rattle.zmarc.specs.Charsets.{text}
use Rattle.zknow_titles.specs.Columns.{ellipsis}

-- a character, or one space and it
abbrev pub behind_gap : Bool → ℕ → List ℕ
behind_gap spaced c = if spaced then 0x20 ∷ c ∷ [] else c ∷ []

-- The characters without spaces at the ends, and with one space for several side by side. `begun`: a character was
-- kept; `gap`: there was a space since.
abbrev pub squeezed : Bool → Bool → List ℕ → List ℕ
squeezed begun gap [] = []
squeezed begun gap (c ∷ cs) =
    if c == 0x20 then squeezed begun true cs else behind_gap (begun && gap) c ++ squeezed true false cs

-- the characters, or so many at the front and an ellipsis
abbrev pub shortened : ℕ → List ℕ → List ℕ
shortened most cs =
    if nat_le (length cs) most then encode_utf8_all cs else encode_utf8_all (take most cs) ++ ellipsis

-- the character set that a text is read in: the one that is known of the target's records, else UTF-8
abbrev pub text_charset : Option Charset → Charset
text_charset charset = unwrap_or charset Utf8

-- the line that is shown: at most 200 characters, and an ellipsis where there are more
unfoldable pub sutrs_line : Option Charset → List ℕ → List ℕ
sutrs_line charset octets = shortened 200 (squeezed false false (chars (text (text_charset charset) octets)))
