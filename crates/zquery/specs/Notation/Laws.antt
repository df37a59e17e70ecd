-- The laws of the notation.
use Rattle.std.specs.Prelude.{◌≡◌, ◌≤◌, ◌↔◌, ◌⊎◌, ℕ, true, List, Some, None}
use Rattle.zber.specs.Dotted.{dotted}
use Rattle.zber.specs.Elements.{Element}
use Rattle.zber.specs.Oids.{IsOid}
use Rattle.zquery.specs.declared.notation.token.Token.{Token}
use Rattle.zquery.specs.declared.notation.error.PqfError.{PqfError}
use Rattle.zquery.specs.declared.notation.error.PqfErrorKind.TheVariants as kind
use Rattle.zquery.specs.Notation.Sets.{bib1, is_bib1, set_of}
use Rattle.zquery_rpn.specs.Trees.{RpnQuery, height}
use Rattle.zquery.specs.Notation.Tokens.{AreTokens, IsOpenAt}
use Rattle.zquery.specs.Notation.Grammar.{IsQuery}
use Rattle.zquery.specs.Notation.Table.{tokens_fault}
use Rattle.zquery.specs.Notation.Fronts.{IsFirstFault, IsBelowLevels}
use Rattle.zquery.specs.Notation.Texts.{IsText, IsTextFault}
use Rattle.zquery.specs.Lawful.{IsLawfulQuery}
use Rattle.zquery.specs.Notation.Printing.{printable, query_text}
use Rattle.zquery_rpn.specs.Element.Type1.{WritesQuery}

-- a text has one list of tokens at most, or one quote that no quote closes, and not both
pub record OneLexing : Type 0 where
  pub one_list : (text : List ℕ) (ts us : List Token) → AreTokens ts text → AreTokens us text → ts ≡ us
  pub one_open : (text : List ℕ) (p q : ℕ) → IsOpenAt p text → IsOpenAt q text → p ≡ q
  pub either : (text : List ℕ) (ts : List Token) (p : ℕ) → AreTokens ts text → IsOpenAt p text → ⊥

-- a set's name is `bib-1`, in any case, or the arcs of an object identifier in decimal, with dots
abbrev pub SetNames : Type 0
SetNames =
    (text set : List ℕ) → (set_of text ≡ Some set)
    ↔ (((is_bib1 text ≡ true) × (set ≡ bib1)) ⊎ ((text ≡ dotted set) × IsOid set))

-- tokens stand for one query at most
abbrev pub OneQuery : Type 0
OneQuery = (ts : List Token) (q r : RpnQuery) → IsQuery ts q → IsQuery ts r → q ≡ r

-- tokens that stand for a query of height 32 at most are not refused
abbrev pub NoneRefused : Type 0
NoneRefused = (len : ℕ) (ts : List Token) (q : RpnQuery) → IsQuery ts q → height q.root ≤ 32
    → tokens_fault len ts ≡ None

-- an error is at the first token with which the tokens stop being the beginning of a query, or at the end
abbrev pub FirstFault : Type 0
FirstFault = (len : ℕ) (ts : List Token) (e : PqfError) → tokens_fault len ts ≡ Some e → IsFirstFault len ts e

-- an error is `TooDeep` exactly if only the level of its token is wrong
abbrev pub TooDeepAlone : Type 0
TooDeepAlone = (len : ℕ) (ts : List Token) (e : PqfError) → tokens_fault len ts ≡ Some e
    → (e.kind ≡ kind.TooDeep) ↔ IsBelowLevels ts e

-- A text stands for one query at most and has one error at most. It has none if it stands for a query of height 32 at
-- most.
pub record OneQueryOrFault : Type 0 where
  pub one_query : (text : List ℕ) (q r : RpnQuery) → IsText text q → IsText text r → q ≡ r
  pub one_fault : (text : List ℕ) (e f : PqfError) → IsTextFault text e → IsTextFault text f → e ≡ f
  pub either : (text : List ℕ) (q : RpnQuery) (e : PqfError) → IsText text q → height q.root ≤ 32
      → IsTextFault text e → ⊥

-- the text that is printed for a lawful query stands for this query
abbrev pub PrintedQueries : Type 0
PrintedQueries = (q : RpnQuery) → IsLawfulQuery q → printable q ≡ true → IsText (query_text q) q

-- if a text stands for a query of height 32 at most, the query can be printed
abbrev pub PrintableTexts : Type 0
PrintableTexts = (text : List ℕ) (q : RpnQuery) → IsText text q → height q.root ≤ 32 → printable q ≡ true

-- if a text stands for a query, some element stands for it too
abbrev pub SpellableTexts : Type 0
SpellableTexts = (text : List ℕ) (q : RpnQuery) → IsText text q → (n : Element) × WritesQuery q n
