-- The characters of octets of MARC-8, as far as ASCII and ANSEL go.
use Rattle.std.specs.Prelude.{ℕ, Bool, not, ◌&&◌, ◌||◌, ◌==◌, nat_lt, nat_le, if◌then◌else◌, List, [], ◌∷◌, ◌++◌}
use Rattle.zmarc.specs.Ansel.{ansel_character}
use Rattle.zmarc.specs.declared.marc8.Mode.{Mode}
use Rattle.zmarc.specs.declared.marc8.Mode.TheVariants.{Plain, Escape, Bracket, Foreign}
use Rattle.zmarc.specs.declared.marc8.Step.{Step}
use Rattle.zmarc.specs.declared.marc8.Step.TheVariants.{Nothing, Mark, Letter}

-- ---- ASCII

-- the character of an octet: of ASCII, or a mark for sorting (ISO 6630); U+FFFD where it is none of these
abbrev pub ascii : ℕ → ℕ
ascii x = if nat_lt x 0x80 then x else (if x == 0x88 then 0x98 else (if x == 0x89 then 0x9C else 0xFFFD))

-- ---- MARC-8: ASCII and ANSEL (ANSI/NISO Z39.47)

-- the character of an octet; U+FFFD where the octet means none
abbrev pub ansel : ℕ → ℕ
ansel x = if nat_lt x 0xA0 then ascii x else ansel_character x

-- the octet means a mark that is combined with the letter behind it
abbrev pub is_mark : ℕ → Bool
is_mark x = nat_le 0xE0 x && not (ansel x == 0xFFFD)

-- the second half of a mark that spans two letters, all of which stands with the first
abbrev pub is_second_half : ℕ → Bool
is_second_half x = x == 0xEC || x == 0xFB

-- one octet in the set that is in use. An escape sequence to another set means U+FFFD, and what follows in that set is
-- left out; ESC ( B and ESC s lead back.
abbrev pub meaning : Mode → ℕ → Step
meaning Plain x = if x == 0x1B then Nothing Escape
    else (if is_second_half x then Nothing Plain
    else (if is_mark x then Mark (ansel x) else Letter (ansel x) Plain))
meaning Escape x = if x == 0x73 then Nothing Plain else (if x == 0x28 then Nothing Bracket else Letter 0xFFFD Foreign)
meaning Bracket x = if x == 0x42 then Nothing Plain else Letter 0xFFFD Foreign
meaning Foreign x = if x == 0x1B then Nothing Escape else Nothing Foreign

-- where the next octet stands among escape sequences; behind a mark that is in ASCII and ANSEL
abbrev pub next_mode : Step → Mode
next_mode (Nothing mode) = mode
next_mode (Mark c) = Plain
next_mode (Letter c mode) = mode

-- the marks that wait for their letter
abbrev pub next_marks : Step → List ℕ → List ℕ
next_marks (Nothing mode) marks = marks
next_marks (Mark c) marks = marks ++ c ∷ []
next_marks (Letter c mode) marks = []

-- a letter, and behind it the marks that stood before it
abbrev pub written : Step → List ℕ → List ℕ
written (Nothing mode) marks = []
written (Mark c) marks = []
written (Letter c mode) marks = c ∷ marks

-- marks whose letter is missing
abbrev pub without_letter : List ℕ → List ℕ
without_letter [] = []
without_letter (c ∷ marks) = 0xFFFD ∷ c ∷ marks

-- the characters of octets, where these marks wait for their letter
abbrev pub marc8_from : Mode → List ℕ → List ℕ → List ℕ
marc8_from mode marks [] = without_letter marks
marc8_from mode marks (x ∷ xs) =
    written (meaning mode x) marks ++ marc8_from (next_mode (meaning mode x)) (next_marks (meaning mode x) marks) xs

-- the characters that octets of MARC-8 stand for, in UTF-8
unfoldable pub marc8 : List ℕ → List ℕ
marc8 octets = marc8_from Plain [] octets
