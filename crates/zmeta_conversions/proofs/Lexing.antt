-- The tokens of a line that is put together of tokens.
use Rattle.std.proofs.Common.{◌≡◌, refl, sym, ◌∙◌, ap₂, subst, ℕ, ◌+◌, List, [], ◌∷◌, ◌++◌, length, append_assoc, append-nil, arith}
use Rattle.std.proofs.lemmas.List.{map-append}
use Rattle.zquery.specs.declared.notation.token.Token.{Token}
use Rattle.zquery.specs.Notation.Tokens.{IsUnquoted, AreTokens}
use Rattle.zquery.specs.Notation.Printing.{in_quotes}
use Rattle.zquery.proofs.NotationTheory.PrintedTokens.{HasTokens, lex-both, lex-space, lex-word, lex-quoted, lex-whole, word_at, quoted_at}
use Rattle.zmeta_world.specs.WorldLines.{token_texts}

-- from this place on, the text has tokens of these texts
pub record IsLexed (at : ℕ) (text : List ℕ) (texts : List (List ℕ)) : Type 0 where
  pub tokens : List Token
  pub has : HasTokens at text tokens
  pub are : token_texts tokens ≡ texts

-- the same at any place
abbrev pub Lexed : List ℕ → List (List ℕ) → Type 0
Lexed text texts = (at : ℕ) → IsLexed at text texts

-- the tokens of a whole line have these texts
pub record IsLine (text : List ℕ) (texts : List (List ℕ)) : Type 0 where
  pub tokens : List Token
  pub lexed : AreTokens tokens text
  pub are : token_texts tokens ≡ texts

both : (a b : List ℕ) (xs ys : List (List ℕ)) → Lexed a xs → Lexed b ys → Lexed (a ++ b) (xs ++ ys)
both a b xs ys f g = λ at. let fa = f at in let gb = g (at + length a) in record {
  tokens = fa.tokens ++ gb.tokens;
  has = lex-both at a b fa.tokens gb.tokens fa.has gb.has;
  are = map-append (λ (t : Token). t.text) fa.tokens gb.tokens ∙ ap₂ (λ x y. x ++ y) fa.are gb.are;
}

word : (w : List ℕ) → IsUnquoted w → Lexed (w ++ 32 ∷ []) (w ∷ [])
word w h = λ at. record { tokens = word_at at w ∷ []; has = lex-word at w h; are = refl }

space : Lexed (32 ∷ []) []
space = λ at. record { tokens = []; has = lex-space at; are = refl }

pub quoted : (text : List ℕ) → Lexed (in_quotes text) (text ∷ [])
quoted text = λ at. record { tokens = quoted_at at text ∷ []; has = lex-quoted at text; are = refl }

-- a token without quotes, a space, and more
pub word_then : (w rest : List ℕ) (ys : List (List ℕ)) → IsUnquoted w → Lexed rest ys → Lexed (w ++ 32 ∷ rest) (w ∷ ys)
word_then w rest ys h f =
    subst (λ (z : List ℕ). Lexed z (w ∷ ys)) (append_assoc w (32 ∷ []) rest)
    (both (w ++ 32 ∷ []) rest (w ∷ []) ys (word w h) f)

-- a token in quotes, a space, and more
pub quoted_then : (text rest : List ℕ) (ys : List (List ℕ)) → Lexed rest ys
    → Lexed (in_quotes text ++ 32 ∷ rest) (text ∷ ys)
quoted_then text rest ys f =
    both (in_quotes text) (32 ∷ rest) (text ∷ []) ys (quoted text) (both (32 ∷ []) rest [] ys space f)

pub whole : (text : List ℕ) (texts : List (List ℕ)) → Lexed text texts → IsLine text texts
whole text texts f = let l = f 0 in record { tokens = l.tokens; lexed = lex-whole text l.tokens l.has; are = l.are }

-- a token without quotes, a space, and a last token without quotes
pub two_words : (w v : List ℕ) → IsUnquoted w → IsUnquoted v → IsLine (w ++ 32 ∷ v) (w ∷ v ∷ [])
two_words w v h k = let l = word w h 0 in record {
  tokens = word_at 0 w ∷ word_at (0 + length (w ++ 32 ∷ [])) v ∷ [];
  lexed = subst (λ (z : List ℕ). AreTokens (word_at 0 w ∷ word_at (0 + length (w ++ 32 ∷ [])) v ∷ []) z)
      (append_assoc w (32 ∷ []) v)
      ((lex-word 0 w h).lexed (word_at (0 + length (w ++ 32 ∷ [])) v ∷ []) v (
        [],
        (
          v,
          (
            [],
            record { white = tt; place = omega arith; written = (refl, k, tt); whole = sym (append-nil v) },
            tt,
          ),
        ),
      ));
  are = refl;
}
