-- The token with which a text stops being the beginning of a query.
use Rattle.std.specs.Prelude.{◌≡◌, ℕ, List, [], ◌∷◌, ◌++◌, Bool, false, ◌⊎◌}
use Rattle.zquery.specs.declared.notation.token.Token.{Token}
use Rattle.zquery.specs.declared.notation.error.PqfError.{PqfError}
use Rattle.zquery.specs.declared.notation.error.PqfErrorKind.TheVariants as kind
use Rattle.zquery_rpn.specs.Trees.{Tree, RpnQuery}
use Rattle.zquery.specs.Notation.Grammar.{PlacedToken, Whole, IsWholeOf, whole_placed, tokens_in, IsQuery}
use Rattle.zquery.specs.Notation.Table.{below_limit}

-- no operand or operator is on a level that is too deep
abbrev pub AreShallow : (ℕ → Bool) → List PlacedToken → Type 0
AreShallow deep [] = Unit {0}
AreShallow deep (x ∷ xs) = (deep x.level ≡ false) × AreShallow deep xs

-- The tokens begin some query, of any height. None of them is an operand or operator on a level that is too deep.
pub record IsQueryFront (deep : ℕ → Bool) (ts : List Token) : Type 0 where
  pub whole : Whole
  pub own : List ℕ
  pub tree : Tree
  pub reads : IsWholeOf whole own tree
  pub front : List PlacedToken
  pub more : List PlacedToken
  pub is : whole_placed whole ≡ front ++ more
  pub tokens : tokens_in front ≡ ts
  pub shallow : AreShallow deep front

-- the error is at the first token with which the tokens stop being the beginning of a query
pub record IsAtToken (ts : List Token) (e : PqfError) : Type 0 where
  pub before : List Token
  pub token : Token
  pub after : List Token
  pub whole : ts ≡ before ++ token ∷ after
  pub continued : IsQueryFront below_limit before
  pub broken : IsQueryFront below_limit (before ++ token ∷ []) → ⊥
  pub at : e.at ≡ token.at

-- no level is too deep: queries of any height
abbrev pub any_level : ℕ → Bool
any_level n = false

-- the error is at such a token, but with it the tokens begin a query of any height: only its level is too deep
pub record IsBelowLevels (ts : List Token) (e : PqfError) : Type 0 where
  pub first : IsAtToken ts e
  pub front_with_token : IsQueryFront any_level (first.before ++ first.token ∷ [])

-- the error is at the end of a text of this length: its tokens begin a query, but stand for none
pub record IsAtEnd (len : ℕ) (ts : List Token) (e : PqfError) : Type 0 where
  pub continued : IsQueryFront below_limit ts
  pub unfinished : (q : RpnQuery) → IsQuery ts q → ⊥
  pub is : e ≡ record { at = len; kind = kind.MissingOperand }

-- The error of the tokens of a text of this length: it is at a token or at the end, or `Empty` if there is no token.
abbrev pub IsFirstFault : ℕ → List Token → PqfError → Type 0
IsFirstFault len [] e = e ≡ record { at = 0; kind = kind.Empty }
IsFirstFault len (t ∷ ts) e = IsAtToken (t ∷ ts) e ⊎ IsAtEnd len (t ∷ ts) e
