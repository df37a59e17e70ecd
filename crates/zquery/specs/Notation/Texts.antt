-- Which text stands for a query, and which error a text has.
use Rattle.std.specs.Prelude.{◌≡◌, ℕ, List, length, Some, ◌⊎◌}
use Rattle.zquery.specs.declared.notation.token.Token.{Token}
use Rattle.zquery.specs.declared.notation.error.PqfError.{PqfError}
use Rattle.zquery.specs.declared.notation.error.PqfErrorKind.TheVariants as kind
use Rattle.zquery_rpn.specs.Trees.{RpnQuery}
use Rattle.zquery.specs.Notation.Tokens.{AreTokens, IsOpenAt}
use Rattle.zquery.specs.Notation.Grammar.{IsQuery}
use Rattle.zquery.specs.Notation.Table.{tokens_fault}

-- the text's tokens stand for the query
abbrev pub IsText : List ℕ → RpnQuery → Type 0
IsText text q = (ts : List Token) × AreTokens ts text × IsQuery ts q

-- the error is at a quote that no quote closes, or is that of the text's tokens
abbrev pub IsTextFault : List ℕ → PqfError → Type 0
IsTextFault text e =
    ((e.kind ≡ kind.OpenQuote) × IsOpenAt e.at text)
    ⊎ ((ts : List Token) × AreTokens ts text × (tokens_fault (length text) ts ≡ Some e))
