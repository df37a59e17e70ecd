-- What can be wrong with a query in the prefix notation, in words.
use Rattle.std.specs.Prelude.{ℕ, Bool, if◌then◌else◌, List, ◌++◌, codes, bytes_eq, drop}
use Rattle.zquery.specs.declared.notation.error.PqfErrorKind.{PqfErrorKind}
use Rattle.zquery.specs.declared.notation.error.PqfErrorKind.TheVariants.{OpenQuote, Empty, UnknownWord, MissingOperand, BadAttribute, UnknownSet, BadTermType, BadNumber, TooDeep, Trailing, Memory}
use Rattle.zmeta_explain.specs.Shown.{shown_text}
use Rattle.zmeta_explain.specs.Tokens.{token_at}

abbrev pub is_attrset : List ℕ → Bool
is_attrset token = bytes_eq token (codes "@attrset")

-- of a token that begins with `@` and is no word there
abbrev pub unknown_words : List ℕ → List ℕ
unknown_words token =
    if is_attrset token then codes "@attrset stands at the front of a query, once"
    else shown_text token ++
    codes " is none of @and, @or, @not, @attr, @term and @set; put quotes round a term that begins with @"

-- of a text that is no query, for this reason at this octet of it
abbrev pub query_words : List ℕ → PqfErrorKind → ℕ → List ℕ
query_words text OpenQuote at =
    codes "no quote closes the one before " ++ shown_text (drop 1 (drop at text))
    ++ codes "; write \" behind the last of these words"
query_words text Empty at = codes "the query is empty; write a word, or several in quotes as \"frank herbert\""
query_words text UnknownWord at = unknown_words (token_at at text)
query_words text MissingOperand at =
    codes "the query ends too early; @and, @or and @not have two terms behind them, @attr and @term have one"
query_words text BadAttribute at =
    shown_text (token_at at text) ++ codes " is no attribute; write two numbers, as 1=4 for titles"
query_words text UnknownSet at =
    shown_text (token_at at text)
    ++ codes " is no attribute set; write bib-1 or a dotted OID, or an attribute as 1=4"
query_words text BadTermType at =
    shown_text (token_at at text) ++ codes " is no type of term; write general, numeric or string"
query_words text BadNumber at =
    shown_text (token_at at text) ++ codes " is no number of 64 bits; write digits, with - before them below 0"
query_words text TooDeep at =
    codes "more than 31 operators stand above " ++ shown_text (token_at at text) ++ codes "; write a query with fewer"
query_words text Trailing at =
    codes "the query ends before " ++ shown_text (token_at at text)
    ++ codes "; put words that belong together in quotes"
query_words text Memory at = codes "no memory was found for the query"
