-- The tokens of texts that are written one after another.
use Rattle.std.proofs.Common.{◌≡◌, refl, sym, ◌∙◌, ap, subst, ℕ, ◌+◌, List, [], ◌∷◌, ◌++◌, Bool, true, false, ◌==◌, ◌||◌, ◌⊎◌, inl, inr, map, length, arith, append_assoc, append-nil, length-append}
use Rattle.std.specs.List.{flat_map}
use Rattle.zquery.specs.declared.notation.token.Token.{Token}
use Rattle.zquery.specs.Notation.Tokens.{is_white, ArePieces, spelled, IsQuoted, IsUnquoted, IsTokenText, TokensThen, AllWhite, AreTokens}
use Rattle.zquery.specs.Notation.Printing.{escaped, in_quotes}

-- from this place on, the text has these tokens, and then those of the octets behind it
pub record HasTokens (at : ℕ) (text : List ℕ) (ts : List Token) : Type 0 where
  pub lexed : (us : List Token) (tail : List ℕ) → TokensThen AllWhite us (at + length text) tail → TokensThen AllWhite (ts ++ us) at (text ++ tail)

pub lex-both : (at : ℕ) (a b : List ℕ) (ts us : List Token) → HasTokens at a ts → HasTokens (at + length a) b us → HasTokens at (a ++ b) (ts ++ us)
lex-both at a b ts us f g = record {
  lexed = λ more tail h.
      let place : at + length (a ++ b) ≡ (at + length a) + length b = omega (arith, length-append a b) in
      let inner = g.lexed more tail (subst (λ (n : ℕ). TokensThen AllWhite more n tail) place h) in
      subst (λ (z : List ℕ). TokensThen AllWhite ((ts ++ us) ++ more) at z) (sym (append_assoc a b tail))
      (subst (λ (z : List Token). TokensThen AllWhite z at (a ++ (b ++ tail))) (sym (append_assoc ts us more)) (f.lexed (us ++ more) (b ++ tail) inner));
}

-- white space before tokens is no matter
white-space : is_white 32 ≡ true
unfolding is_white
white-space = refl

white-first : (us : List Token) (at : ℕ) (tail : List ℕ) → TokensThen AllWhite us (at + 1) tail → TokensThen AllWhite us at (32 ∷ tail)
white-first [] at tail h = (white-space, h)
white-first (u ∷ us) at tail (gap, (lead, (after, n, rest))) =
    let place : (at + 1) + length gap ≡ at + length (32 ∷ gap) = omega arith in (
      32 ∷ gap,
      (
        lead,
        (
          after,
          record { white = (white-space, n.white); place = n.place ∙ place; written = n.written; whole = ap (λ (z : List ℕ). 32 ∷ z) n.whole },
          subst (λ (k : ℕ). TokensThen AllWhite us (k + length lead) after) place rest,
        ),
      ),
    )

pub lex-space : (at : ℕ) → HasTokens at (32 ∷ []) []
lex-space at = record { lexed = λ us tail h. white-first us at tail h }

-- a token first, and others behind it
lex-token : (t : Token) (at : ℕ) (lead after : List ℕ) (us : List Token) → t.at ≡ at → IsTokenText t.quoted t.text lead after → TokensThen AllWhite us (at + length lead) after → TokensThen AllWhite (t ∷ us) at (lead ++ after)
lex-token t at lead after us p w h =
    ([], (lead, (after, record { white = tt; place = p ∙ omega arith; written = w; whole = refl }, subst (λ (k : ℕ). TokensThen AllWhite us (k + length lead) after) (omega arith) h)))

abbrev pub word_at : ℕ → List ℕ → Token
word_at at text = record { at = at; quoted = false; text = text }

abbrev pub quoted_at : ℕ → List ℕ → Token
quoted_at at text = record { at = at; quoted = true; text = text }

-- a token without quotes, with a space behind it
pub lex-word : (at : ℕ) (w : List ℕ) → IsUnquoted w → HasTokens at (w ++ 32 ∷ []) (word_at at w ∷ [])
lex-word at w h = record {
  lexed = λ us tail f.
      let place : at + length (w ++ 32 ∷ []) ≡ (at + length w) + 1 = omega (arith, length-append w (32 ∷ [])) in
      let behind : TokensThen AllWhite us (at + length w) (32 ∷ tail) = white-first us (at + length w) tail (subst (λ (n : ℕ). TokensThen AllWhite us n tail) place f) in
      subst (λ (z : List ℕ). TokensThen AllWhite (word_at at w ∷ us) at z) (sym (append_assoc w (32 ∷ []) tail))
      (lex-token (word_at at w) at w (32 ∷ tail) us refl (refl, h, white-space) behind);
}

-- a text in quotes
abbrev special : ℕ → Bool
special b = (b == 34) || (b == 92)

abbrev escapes : List ℕ → List (ℕ × Bool)
escapes text = map (λ b. (b, special b)) text

lawful-piece : (b : ℕ) (v : Bool) → special b ≡ v → (v ≡ true) ⊎ (special b ≡ false)
lawful-piece b true h = inl refl
lawful-piece b false h = inr h

lawful-escapes : (text : List ℕ) → ArePieces (escapes text)
lawful-escapes [] = tt
lawful-escapes (b ∷ bs) = (lawful-piece b (special b) refl, lawful-escapes bs)

texts-escapes : (text : List ℕ) → text ≡ map (λ x. x.0) (escapes text)
texts-escapes [] = refl
texts-escapes (b ∷ bs) = ap (λ (z : List ℕ). b ∷ z) (texts-escapes bs)

spelled-escapes : (text : List ℕ) → flat_map escaped text ≡ spelled (escapes text)
spelled-escapes [] = refl
spelled-escapes (b ∷ bs) = ap (λ (z : List ℕ). escaped b ++ z) (spelled-escapes bs)

quoted-is : (text : List ℕ) → IsQuoted text (in_quotes text)
quoted-is text = record {
  pieces = escapes text;
  lawful = lawful-escapes text;
  text_is = texts-escapes text;
  whole = ap (λ (z : List ℕ). 34 ∷ (z ++ 34 ∷ [])) (spelled-escapes text);
}

pub lex-quoted : (at : ℕ) (text : List ℕ) → HasTokens at (in_quotes text) (quoted_at at text ∷ [])
lex-quoted at text = record { lexed = λ us tail f. lex-token (quoted_at at text) at (in_quotes text) tail us refl (quoted-is text) f }

-- the whole text
pub lex-whole : (text : List ℕ) (ts : List Token) → HasTokens 0 text ts → AreTokens ts text
lex-whole text ts l =
    subst (λ (z : List ℕ). TokensThen AllWhite ts 0 z) (append-nil text)
    (subst (λ (z : List Token). TokensThen AllWhite z 0 (text ++ [])) (append-nil ts) (l.lexed [] [] tt))
