-- What the parser's functions return as they read from the left.
use Rattle.std.specs.Prelude.{◌≡◌, ℕ, ◌+◌, ◌≤◌, List, [], ◌∷◌, ◌++◌, Bool, true, false, Option, Some, None, Result, Ok, Err, ◌⊎◌, if◌then◌else◌}
use Rattle.zquery.specs.declared.notation.token.Token.{Token}
use Rattle.zquery.specs.declared.notation.word.TokenKind.{TokenKind}
use Rattle.zquery.specs.declared.notation.word.TokenKind.TheVariants.{AttrSet, Attribute, TypeOfTerm}
use Rattle.zquery.specs.declared.notation.word.TermKind.{TermKind}
use Rattle.zquery_rpn.specs.declared.query.Attr.{Attr}
use Rattle.zquery.specs.declared.notation.error.PqfError.{PqfError}
use Rattle.zquery.specs.declared.notation.error.PqfErrorKind.{PqfErrorKind}
use Rattle.zquery.specs.declared.notation.error.PqfErrorKind.TheVariants as kind
use Rattle.zquery.specs.Notation.Words.{token_kind}
use Rattle.zquery.specs.Notation.Sets.{bib1, set_of}
use Rattle.zquery.specs.Notation.Values.{numbers_of, has_equals, term_kind_of}
use Rattle.zquery_rpn.specs.Trees.{Tree, height}
use Rattle.zquery.specs.InForce.{alike, in_force}
use Rattle.zquery.specs.Notation.Grammar.{Phrase, IsPhraseOf, placed, tokens_in, attr, kept_set}
use Rattle.zquery.specs.Notation.Table.{error_at}
use Rattle.zquery.specs.Notation.Faults.{memory, missing}

-- One more attribute: its value replaces that of the first attribute with its set and type. If there is none, the
-- attribute is added at the end.
abbrev pub put_in : List Attr → Attr → List Attr
put_in [] a = a ∷ []
put_in (b ∷ bs) a = if alike b a then record b { value = a.value } ∷ bs else b ∷ put_in bs a

-- the result, and the tokens left, are those of `read`, unless no memory was found
abbrev pub IsReadResult : {X : Type 0} → Result (X × List Token) PqfError → Result X PqfError → List Token → Type 0
IsReadResult read (Ok x) rest = read ≡ Ok (x, rest)
IsReadResult read (Err e) rest = (e ≡ memory) ⊎ (read ≡ Err e)

-- what `go` returns; if there is no value, the error at the token
abbrev pub or_error : {A B : Type 0} → Token → PqfErrorKind → Option A → (A → Result B PqfError) → Result B PqfError
or_error t e None go = Err (error_at t e)
or_error t e (Some x) go = go x

-- an attribute of this set, whose type and value are the next token
abbrev pub numbers_at : ℕ → Option (List ℕ) → List Token → Result (Attr × List Token) PqfError
numbers_at len set [] = Err (missing len)
numbers_at len set (w ∷ ts) = or_error w kind.BadAttribute (numbers_of w.text) (λ n. Ok (attr set n, ts))

-- the attribute behind `@attr`
abbrev pub attribute_at : ℕ → List ℕ → List Token → Result (Attr × List Token) PqfError
attribute_at len own [] = Err (missing len)
attribute_at len own (u ∷ ts) =
    if has_equals u.text then numbers_at len None (u ∷ ts) else
    or_error u kind.UnknownSet (set_of u.text) (λ set. numbers_at len (kept_set own set) ts)

-- the type of term behind `@term`
abbrev pub term_kind_at : ℕ → List Token → Result (TermKind × List Token) PqfError
term_kind_at len [] = Err (missing len)
term_kind_at len (u ∷ ts) = or_error u kind.BadTermType (term_kind_of u.text) (λ k. Ok (k, ts))

-- the set behind `@attrset`
abbrev pub own_at : ℕ → List Token → Result (List ℕ × List Token) PqfError
own_at len [] = Err (missing len)
own_at len (u ∷ ts) = or_error u kind.UnknownSet (set_of u.text) (λ set. Ok (set, ts))

-- the token is `@attrset`
abbrev pub is_attrset : TokenKind → Bool
is_attrset AttrSet = true
is_attrset _ = false

-- the query's set: the one behind `@attrset`, or bib-1
abbrev pub query_set_at : ℕ → List Token → Result (List ℕ × List Token) PqfError
query_set_at len [] = Ok (bib1, [])
query_set_at len (t ∷ ts) = if is_attrset (token_kind t) then own_at len ts else Ok (bib1, t ∷ ts)

-- the token is `@attr` or `@term`
abbrev pub is_prefix : TokenKind → Bool
is_prefix Attribute = true
is_prefix TypeOfTerm = true
is_prefix _ = false

-- the next token, if there is one, is neither `@attr` nor `@term`
abbrev pub NoPrefix : List Token → Type 0
NoPrefix [] = Unit {0}
NoPrefix (t ∷ ts) = is_prefix (token_kind t) ≡ false

-- The tokens between `old` and `new` are attributes and types of terms. A phrase at `new` and these tokens are a phrase
-- at `old`, for the same tree.
pub record ArePrefixes (own : List ℕ) (xs : List Attr) (k : TermKind) (old : List Token) (attrs : List Attr)
    (k' : TermKind) (new : List Token) : Type 0 where
  pub below : List Attr
  pub forces : attrs ≡ in_force below
  pub wraps : (p : Phrase) (q : Tree) → IsPhraseOf own below k' p q → (p' : Phrase) × IsPhraseOf own xs k p' q
      × ((n : ℕ) (more : List Token) → new ≡ tokens_in (placed n p) ++ more → old ≡ tokens_in (placed n p') ++ more)

-- The tokens between `old` and `new` are a phrase for the tree. With its level, its height is 33 at most.
pub record IsReadPhrase (own : List ℕ) (xs : List Attr) (k : TermKind) (n : ℕ) (old new : List Token)
    (q : Tree) : Type 0 where
  pub phrase : Phrase
  pub reads : IsPhraseOf own xs k phrase q
  pub front : old ≡ tokens_in (placed n phrase) ++ new
  pub low : n + height q ≤ 33
