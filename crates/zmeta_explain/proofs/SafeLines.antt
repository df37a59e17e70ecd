-- Words for lines are printable ASCII.
use Rattle.std.proofs.Common.{◌≡◌, ◌∙◌, ℕ, zero, suc, ◌-◌, Bool, true, false, List, [], ◌∷◌, ◌++◌, length, refl, drop, Option, Some, None}
use Rattle.std.specs.Prelude.{All, not, ◌==◌, ◌||◌, codes, bytes_eq}
use Rattle.std.specs.Fmt.{decimal}
use Rattle.std.specs.List.{list_all, before_first, position_or_len}
use Rattle.std.specs.Str.{str_eq_ignore_ascii_case}
use Rattle.std.proofs.lemmas.Bool.{cond_both, and_from}
use Rattle.std.proofs.lemmas.List.Elements.{All-tail, All-take, All-drop}
use Rattle.std.proofs.lemmas.List.Folds.{list_all-append}
use Rattle.zmeta_explain.specs.declared.syntaxes.NamedSyntax.{NamedSyntax}
use Rattle.zmeta_explain.specs.declared.syntaxes.NamedSyntax.TheVariants.{Marc21, Unimarc, Xml, Sutrs, Opac, Grs1}
use Rattle.zmeta_explain.specs.Laws.{IsPrintable, IsOctet, SafeLineLaw}
use Rattle.zmeta_explain.specs.Lines.{behind_token, next_token, behind_line, defined_in, lines_from, other_quotes, has_mark, is_comment, has_digit, form_of, lower_word, other_keyword_words, keyword_words, meant_field_words, question_words, ask_words, host_words, keyed_words, text_words, line_at, line_words}
use Rattle.zmeta_explain.specs.Places.{is_space, is_quote, is_feed, is_token_octet, from_first}
use Rattle.zmeta_explain.specs.Ranges.{is_no_want, want_advice}
use Rattle.zmeta_explain.specs.Shown.{shown_text}
use Rattle.zmeta_explain.specs.Syntaxes.{meant_syntax, syntax_oid}
use Rattle.zmeta_explain.specs.Tokens.{token_front}
use Rattle.zmeta_explain.proofs.OctetParts.{front, from_octet}
use Rattle.zmeta_explain.proofs.Printable.{Passes, is_printable, literal, behind, between, number, shown, advised}

-- ---- parts of the file

tail : (xs : List ℕ) → All IsOctet xs → All IsOctet (behind_token xs)
tail [] h = h
tail (x ∷ xs) h =
    cond_both (is_quote x) (drop 1 (from_first is_quote xs)) (from_first is_space (x ∷ xs)) (All IsOctet)
    (λ _. All-drop IsOctet 1 (from_first is_quote xs) (from_octet is_quote xs (All-tail IsOctet x xs h)))
    (λ _. from_octet is_space (x ∷ xs) h)

next : (xs : List ℕ) → All IsOctet xs → All IsOctet (next_token xs)
next xs h = from_octet is_token_octet (behind_token xs) (tail xs h)

lines : (n : ℕ) (w : List ℕ) → All IsOctet w → All IsOctet (lines_from n w)
lines zero w h = h
lines (suc n) w h = lines n (behind_line w) (All-drop IsOctet 1 (from_first is_feed w) (from_octet is_feed w h))

one_line : (world : List ℕ) (n : ℕ) → All IsOctet world → All IsOctet (line_at world n)
one_line world n h =
    let rest = lines_from (n - 1) world in
    from_octet is_token_octet (before_first is_feed rest)
    (All-take IsOctet (position_or_len is_feed rest) rest (lines (n - 1) world h))

-- ---- key words

form : (word : List ℕ) → Passes (form_of word)
form word =
    cond_both (bytes_eq word (codes "step")) _ _ Passes (λ _. refl)
    (λ _. cond_both (bytes_eq word (codes "window")) _ _ Passes (λ _. refl)
    (λ _. cond_both (bytes_eq word (codes "target")) _ _ Passes (λ _. refl)
    (λ _. cond_both (bytes_eq word (codes "db")) _ _ Passes (λ _. refl)
    (λ _. cond_both (bytes_eq word (codes "rec")) _ _ Passes (λ _. refl)
    (λ _. cond_both (bytes_eq word (codes "field")) _ _ Passes (λ _. refl)
    (λ _. cond_both (bytes_eq word (codes "to")) _ _ Passes (λ _. refl)
    (λ _. cond_both (bytes_eq word (codes "rel")) _ _ Passes (λ _. refl)
    (λ _. cond_both (bytes_eq word (codes "from")) _ _ Passes (λ _. refl)
    (λ _. refl)))))))))

lower : (word : List ℕ) → Passes (lower_word word)
lower word =
    cond_both (str_eq_ignore_ascii_case word (codes "ask")) _ _ Passes (λ _. refl)
    (λ _. cond_both (str_eq_ignore_ascii_case word (codes "host")) _ _ Passes (λ _. refl)
    (λ _. cond_both (str_eq_ignore_ascii_case word (codes "target")) _ _ Passes (λ _. refl)
    (λ _. cond_both (str_eq_ignore_ascii_case word (codes "step")) _ _ Passes (λ _. refl)
    (λ _. cond_both (str_eq_ignore_ascii_case word (codes "window")) _ _ Passes (λ _. refl)
    (λ _. refl)))))

other : (word : List ℕ) → All IsOctet word → Passes (other_keyword_words word)
other word h =
    cond_both (not (length (lower_word word) == 0)) _ _ Passes
    (λ _. between (shown_text word) _ (lower_word word) _ (shown word h) refl (literal (lower_word word) (lower word)) refl)
    (λ _. behind (shown_text word) _ (shown word h) refl)

keyword : (word : List ℕ) → All IsOctet word → Passes (keyword_words word)
keyword word h =
    cond_both (not (length (form_of word) == 0)) _ _ Passes
    (λ _. behind (form_of word) _ (literal (form_of word) (form word)) refl)
    (λ _. other word h)

-- ---- questions and hosts

oid : (s : NamedSyntax) → Passes (syntax_oid s)
oid Marc21 = refl
oid Unimarc = refl
oid Xml = refl
oid Sutrs = refl
oid Opac = refl
oid Grs1 = refl

meant : (text : List ℕ) (s : Option NamedSyntax) → All IsOctet text → Passes (meant_field_words text s)
meant text (Some s) h =
    between (shown_text text) _ (syntax_oid s) _ (shown text h) refl (literal (syntax_oid s) (oid s)) refl
meant text None h = behind (shown_text text) _ (shown text h) refl

question : (f t u q : List ℕ) (known : Bool) → All IsOctet f → All IsOctet t → All IsOctet u
    → Passes (question_words f t u q known)
question f t u q known hf ht hu =
    let name = shown (token_front f) (front f hf) in
    cond_both (length q == 0) _ _ Passes (λ _. refl)
    (λ _. cond_both (other_quotes q || other_quotes f) _ _ Passes (λ _. refl)
    (λ _. cond_both (not known) _ _ Passes (λ _. behind (shown_text (token_front f)) _ name refl)
    (λ _. cond_both (not (has_digit t)) _ _ Passes
    (λ _. meant (token_front t) (meant_syntax (token_front t)) (front t ht))
    (λ _. cond_both (is_no_want (token_front u)) _ _ Passes
    (λ _. between (shown_text (token_front u)) _ (want_advice (token_front u)) _ (shown (token_front u) (front u hu)) refl (advised (token_front u)) refl)
    (λ _. cond_both (not (length (next_token q) == 0)) _ _ Passes (λ _. refl)
    (λ _. behind (shown_text (token_front f)) _ name refl))))))

ask : (fields : List ℕ) (known : Bool) → All IsOctet fields → Passes (ask_words fields known)
ask fields known h =
    let db = next_token fields in
    let third = next_token db in
    let fourth = next_token third in
    let at_db = next fields h in
    let at_third = next db at_db in
    question fields third fourth (next_token fourth) known h at_third (next third at_third)

host : (fields : List ℕ) (known : Bool) → All IsOctet fields → Passes (host_words fields known)
host fields known h =
    let address = next_token fields in
    cond_both (length address == 0) _ _ Passes (λ _. refl)
    (λ _. cond_both (not (length (next_token address) == 0)) _ _ Passes (λ _. refl)
    (λ _. cond_both known _ _ Passes
    (λ _. behind (shown_text (token_front fields)) _ (shown (token_front fields) (front fields h)) refl)
    (λ _. behind (shown_text (token_front address)) _ (shown (token_front address) (front address (next fields h))) refl)))

-- ---- all lines

keyed : (word fields : List ℕ) (known : Bool) → All IsOctet word → All IsOctet fields
    → Passes (keyed_words word fields known)
unfolding keyed_words
keyed word fields known h k =
    cond_both (bytes_eq word (codes "ask")) _ _ Passes (λ _. ask fields known k)
    (λ _. cond_both (bytes_eq word (codes "host")) _ _ Passes (λ _. host fields known k) (λ _. keyword word h))

words : (first : List ℕ) (known : Bool) → All IsOctet first → Passes (text_words first known)
unfolding text_words
words first known h =
    cond_both (has_mark first) _ _ Passes (λ _. refl)
    (λ _. cond_both (is_comment (token_front first)) _ _ Passes (λ _. refl)
    (λ _. keyed (token_front first) (next_token first) known (front first h) (next first h)))

numbered : (n : ℕ) (text : List ℕ) → Passes text → Passes ((codes "line " ++ decimal n ++ codes " ") ++ text)
numbered n text h =
    list_all-append is_printable (codes "line " ++ decimal n ++ codes " ") text
    ∙ and_from (list_all is_printable (codes "line " ++ decimal n ++ codes " ")) (list_all is_printable text)
    (behind (decimal n) (codes " ") (number n) refl) h

pub safe_lines : SafeLineLaw
safe_lines world n h =
    let first = line_at world n in
    let known = defined_in (n - 1) world (token_front (next_token first)) in
    literal (line_words world n) (numbered n (text_words first known) (words first known (one_line world n h)))
