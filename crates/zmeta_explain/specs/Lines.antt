-- What is wrong with a refused line of a world file, in words.
use Rattle.std.specs.Prelude.{ℕ, zero, suc, ◌-◌, Bool, true, false, not, ◌&&◌, ◌||◌, ◌==◌, if◌then◌else◌, Option, Some, None, List, [], ◌∷◌, ◌++◌, codes, bytes_eq, length, drop}
use Rattle.std.specs.Char.{is_ascii_digit}
use Rattle.std.specs.Fmt.{decimal}
use Rattle.std.specs.List.{before_first}
use Rattle.std.specs.Str.{str_eq_ignore_ascii_case}
use Rattle.zmeta_explain.specs.declared.syntaxes.NamedSyntax.{NamedSyntax}
use Rattle.zmeta_explain.specs.Places.{is_space, is_quote, is_feed, is_token_octet, from_first}
use Rattle.zmeta_explain.specs.Ranges.{is_no_want, want_advice}
use Rattle.zmeta_explain.specs.Shown.{shown_text}
use Rattle.zmeta_explain.specs.Syntaxes.{meant_syntax, syntax_oid}
use Rattle.zmeta_explain.specs.Tokens.{token_front}

-- ---- tokens

-- the text behind the token at its front
abbrev pub behind_token : List ℕ → List ℕ
behind_token [] = []
behind_token (x ∷ xs) = if is_quote x then drop 1 (from_first is_quote xs) else from_first is_space (x ∷ xs)

-- the text from the second token on
abbrev pub next_token : List ℕ → List ℕ
next_token text = from_first is_token_octet (behind_token text)

-- ---- lines

-- the key word gives a name to a target or host
abbrev pub is_end : List ℕ → Bool
is_end word = bytes_eq word (codes "host") || bytes_eq word (codes "target")

-- the line, from its first token on, gives this name to a target or host
abbrev pub gives : List ℕ → List ℕ → Bool
gives first name = is_end (token_front first) && bytes_eq (token_front (next_token first)) name

-- a line gives this name to a target or host
abbrev pub defines : List ℕ → List ℕ → Bool
defines line name = gives (from_first is_token_octet line) name

-- what stands behind the first line
abbrev pub behind_line : List ℕ → List ℕ
behind_line world = drop 1 (from_first is_feed world)

-- one of so many lines at the front gives this name
abbrev pub defined_in : ℕ → List ℕ → List ℕ → Bool
defined_in zero world name = false
defined_in (suc n) world name =
    defines (before_first is_feed world) name || defined_in n (behind_line world) name

-- what stands behind so many lines
abbrev pub lines_from : ℕ → List ℕ → List ℕ
lines_from zero world = world
lines_from (suc n) world = lines_from n (behind_line world)

-- ---- what one token shows

-- a single quote, or a curly one in UTF-8
abbrev pub other_quotes : List ℕ → Bool
other_quotes [] = false
other_quotes (x ∷ []) = x == 0x27
other_quotes (x ∷ y ∷ xs) = x == 0x27 || (x == 0xE2 && y == 0x80)

-- a byte order mark
abbrev pub has_mark : List ℕ → Bool
has_mark (x ∷ y ∷ z ∷ xs) = x == 0xEF && y == 0xBB && z == 0xBF
has_mark _ = false

abbrev pub is_comment : List ℕ → Bool
is_comment [] = false
is_comment (x ∷ xs) = x == 0x23

-- a digit or a hyphen is in front
abbrev pub has_digit : List ℕ → Bool
has_digit [] = false
has_digit (x ∷ xs) = is_ascii_digit x || x == 0x2D

-- ---- key words

-- the form of a line with this key word, if it is neither `ask` nor `host`
abbrev pub form_of : List ℕ → List ℕ
form_of word =
    if bytes_eq word (codes "step") then codes "step N, of 1 to 1000"
    else if bytes_eq word (codes "window") then codes "window N, of 1 to 64"
    else if bytes_eq word (codes "target") then
    codes "target NAME SIZE FLAGS, with a name of its own; FLAGS are c, n and r, or -"
    else if bytes_eq word (codes "db") then codes "db NAME, below a target, with a name of its own"
    else if bytes_eq word (codes "rec") then codes "rec OID OCTETS, below a db"
    else if bytes_eq word (codes "field") then codes "field USE TEXT, below a rec"
    else if bytes_eq word (codes "to") then codes "to NAME K, below the ask of this target"
    else if bytes_eq word (codes "rel") then codes "rel NAME K, below the ask of this target"
    else if bytes_eq word (codes "from") then codes "from NAME K, below the ask of this target"
    else []

-- the key word that a word is in another case
abbrev pub lower_word : List ℕ → List ℕ
lower_word word =
    if str_eq_ignore_ascii_case word (codes "ask") then codes "ask"
    else if str_eq_ignore_ascii_case word (codes "host") then codes "host"
    else if str_eq_ignore_ascii_case word (codes "target") then codes "target"
    else if str_eq_ignore_ascii_case word (codes "step") then codes "step"
    else if str_eq_ignore_ascii_case word (codes "window") then codes "window"
    else []

-- of a first word that is no key word
abbrev pub other_keyword_words : List ℕ → List ℕ
other_keyword_words word =
    if not (length (lower_word word) == 0) then
    codes "begins with " ++ shown_text word ++ codes "; write " ++ lower_word word ++ codes " in lower case"
    else codes "begins with " ++ shown_text word
    ++ codes "; lines begin with host, ask, step, window, target, db, rec, field, to, rel or from"

-- of a line whose first word is neither `ask` nor `host`
abbrev pub keyword_words : List ℕ → List ℕ
keyword_words word =
    if not (length (form_of word) == 0) then
    codes "is not as it has to be; write " ++ form_of word ++ codes " there"
    else other_keyword_words word

-- ---- lines that ask

abbrev pub meant_field_words : List ℕ → Option NamedSyntax → List ℕ
meant_field_words syntax (Some s) =
    codes "has the syntax " ++ shown_text syntax ++ codes "; write " ++ syntax_oid s ++ codes " in its place"
meant_field_words syntax None =
    codes "has the syntax " ++ shown_text syntax ++ codes "; write a dotted OID, or - for none"

-- of a SYNTAX that is no object identifier
abbrev pub syntax_field_words : List ℕ → List ℕ
syntax_field_words syntax = meant_field_words syntax (meant_syntax syntax)

-- of a WANT that is neither a number nor ranges
abbrev pub want_field_words : List ℕ → List ℕ
want_field_words want =
    codes "wants the records " ++ shown_text want ++ codes "; " ++ want_advice want ++ codes ", as 20 or 1-3,10-12"

-- of the line of a question: NAME, SYNTAX, WANT and QUERY, each with what stands behind it
abbrev pub question_words : List ℕ → List ℕ → List ℕ → List ℕ → Bool → List ℕ
question_words fields third fourth query known =
    if length query == 0 then codes "has too few fields; write ask NAME DB SYNTAX WANT QUERY"
    else if other_quotes query || other_quotes fields then
    codes "has quotes of another kind; write \" on both sides of the words"
    else if not known then
    codes "asks " ++ shown_text (token_front fields) ++ codes ", and no line above is its host or target"
    else if not (has_digit third) then syntax_field_words (token_front third)
    else if is_no_want (token_front fourth) then want_field_words (token_front fourth)
    else if not (length (next_token query) == 0) then codes "has too many fields; put the query in quotes"
    else codes "is wrong in its ranges or its query, or asks " ++ shown_text (token_front fields)
    ++ codes " again; zmeta pqf tries a query"

-- of the line of a question, from its NAME on
abbrev pub ask_words : List ℕ → Bool → List ℕ
ask_words fields known =
    question_words fields (next_token (next_token fields)) (next_token (next_token (next_token fields)))
    (next_token (next_token (next_token (next_token fields)))) known

-- ---- other lines

-- of the line of a host, from its NAME on
abbrev pub host_words : List ℕ → Bool → List ℕ
host_words fields known =
    if length (next_token fields) == 0 then codes "has too few fields; write host NAME ADDRESS"
    else if not (length (next_token (next_token fields)) == 0) then
    codes "has too many fields; put a name of several words in quotes"
    else if known then
    codes "gives the name " ++ shown_text (token_front fields) ++ codes " again; each host and target has another"
    else codes "has the address " ++ shown_text (token_front (next_token fields))
    ++ codes "; write it as z3950.example.org:210"

-- of a line with this first word, from its second token on
unfoldable pub keyed_words : List ℕ → List ℕ → Bool → List ℕ
keyed_words word fields known =
    if bytes_eq word (codes "ask") then ask_words fields known
    else if bytes_eq word (codes "host") then host_words fields known
    else keyword_words word

-- of a line, from its first token on; `known`: a line above gives the name that is its second token
unfoldable pub text_words : List ℕ → Bool → List ℕ
text_words first known =
    if has_mark first then codes "begins with a byte order mark; save the file as UTF-8 without one"
    else if is_comment (token_front first) then codes "is a comment, which these files cannot have"
    else keyed_words (token_front first) (next_token first) known

-- the line of this number, from its first token on
abbrev pub line_at : List ℕ → ℕ → List ℕ
line_at world number = from_first is_token_octet (before_first is_feed (lines_from (number - 1) world))

-- words for a line, with its number in front
abbrev pub numbered_words : ℕ → List ℕ → List ℕ
numbered_words number words = (codes "line " ++ decimal number ++ codes " ") ++ words

-- of the line of this number, from 1
abbrev pub line_words : List ℕ → ℕ → List ℕ
line_words world number =
    numbered_words number
    (text_words (line_at world number)
    (defined_in (number - 1) world (token_front (next_token (line_at world number)))))
