-- Which tokens are expected at each place, and what is wrong with any other token.
use Rattle.std.specs.Prelude.{ℕ, ◌+◌, List, [], ◌∷◌, ◌++◌, Bool, true, false, Option, Some, None, Result, Ok, Err, nat_lt, if◌then◌else◌}
use Rattle.zquery.specs.declared.notation.token.Token.{Token}
use Rattle.zquery.specs.declared.notation.word.TokenKind.{TokenKind}
use Rattle.zquery.specs.declared.notation.word.TokenKind.TheVariants.{AttrSet, Attribute, Op, NamedSet, TypeOfTerm, Unknown, Plain}
use Rattle.zquery.specs.declared.notation.word.TermKind.{TermKind}
use Rattle.zquery.specs.declared.notation.word.TermKind.TheVariants.{GeneralTerm}
use Rattle.zquery.specs.declared.notation.error.PqfError.{PqfError}
use Rattle.zquery.specs.declared.notation.error.PqfErrorKind.{PqfErrorKind}
use Rattle.zquery.specs.declared.notation.error.PqfErrorKind.TheVariants as kind
use Rattle.zquery.specs.Notation.Words.{token_kind}
use Rattle.zquery.specs.Notation.Sets.{set_of}
use Rattle.zquery.specs.Notation.Values.{numbers_of, has_equals, term_kind_of, value_of}

-- What is still to come: an operand on a level, below a type of term; the set or the numbers of an attribute; its
-- numbers; a type of term; any token; or the query's set.
pub data Expected : Type 0 where
  Operand : TermKind → ℕ → Expected
  SetOrNumbers : TermKind → ℕ → Expected
  Numbers : TermKind → ℕ → Expected
  Kind : ℕ → Expected
  Name : Expected
  OwnSet : Expected

-- `TooDeep` if the level is too deep
abbrev pub unless_deep : Bool → List Expected → Result (List Expected) PqfErrorKind
unless_deep true next = Err kind.TooDeep
unless_deep false next = Ok next

-- what comes next if there is a value; otherwise this error
abbrev pub next_if : {A : Type 0} → PqfErrorKind → Option A → (A → Result (List Expected) PqfErrorKind)
    → Result (List Expected) PqfErrorKind
next_if e None next = Err e
next_if e (Some x) next = next x

-- what is to come after a token where an operand is expected
abbrev pub operand : (ℕ → Bool) → TermKind → ℕ → List ℕ → TokenKind → Result (List Expected) PqfErrorKind
operand deep k n text Attribute = Ok (SetOrNumbers k n ∷ [])
operand deep k n text TypeOfTerm = Ok (Kind n ∷ [])
operand deep k n text (Op o) = unless_deep (deep n) (Operand k (n + 1) ∷ Operand k (n + 1) ∷ [])
operand deep k n text NamedSet = unless_deep (deep n) (Name ∷ [])
operand deep k n text Plain = next_if kind.BadNumber (value_of k text) (λ _. unless_deep (deep n) [])
operand deep k n text Unknown = Err kind.UnknownWord
operand deep k n text AttrSet = Err kind.UnknownWord

-- what is to come after the numbers of an attribute
abbrev pub numbers : TermKind → ℕ → List ℕ → Result (List Expected) PqfErrorKind
numbers k n text = next_if kind.BadAttribute (numbers_of text) (λ _. Ok (Operand k n ∷ []))

-- what is to come after a token, if this was expected
abbrev pub expected_after_token : (ℕ → Bool) → Expected → Token → Result (List Expected) PqfErrorKind
expected_after_token deep (Operand k n) t = operand deep k n t.text (token_kind t)
expected_after_token deep (SetOrNumbers k n) t =
    if has_equals t.text then numbers k n t.text
    else next_if kind.UnknownSet (set_of t.text) (λ _. Ok (Numbers k n ∷ []))
expected_after_token deep (Numbers k n) t = numbers k n t.text
expected_after_token deep (Kind n) t = next_if kind.BadTermType (term_kind_of t.text) (λ k. Ok (Operand k n ∷ []))
expected_after_token deep Name t = Ok []
expected_after_token deep OwnSet t = next_if kind.UnknownSet (set_of t.text) (λ _. Ok [])

-- the error of this kind at the token
abbrev pub error_at : Token → PqfErrorKind → PqfError
error_at t e = record { at = t.at; kind = e }

-- go on with what is to come, or return the error at the token
abbrev pub after : Token → Result (List Expected) PqfErrorKind → (List Expected → Result (List Expected) PqfError)
    → Result (List Expected) PqfError
after t (Ok next) go = go next
after t (Err e) go = Err (error_at t e)

-- what is to come after these tokens, or the first error
abbrev pub expected_after : (ℕ → Bool) → List Token → List Expected → Result (List Expected) PqfError
expected_after deep [] ps = Ok ps
expected_after deep (t ∷ ts) [] = Err (error_at t kind.Trailing)
expected_after deep (t ∷ ts) (p ∷ ps) =
    after t (expected_after_token deep p t) (λ next. expected_after deep ts (next ++ ps))

-- What is to come at the first token: `@attrset`, a set and an operand, or an operand.
abbrev pub first_expected : TokenKind → List Expected
first_expected AttrSet = Name ∷ OwnSet ∷ Operand GeneralTerm 1 ∷ []
first_expected _ = Operand GeneralTerm 1 ∷ []

-- the level is too deep: above 32
abbrev pub below_limit : ℕ → Bool
below_limit n = nat_lt 32 n

-- the error of a text of this length: the first one, or `MissingOperand` if something is still to come at its end
abbrev pub fault_left : ℕ → Result (List Expected) PqfError → Option PqfError
fault_left len (Ok []) = None
fault_left len (Ok (p ∷ ps)) = Some (record { at = len; kind = kind.MissingOperand })
fault_left len (Err e) = Some e

-- the error of the tokens of a text of this length, if they have one
abbrev pub tokens_fault : ℕ → List Token → Option PqfError
tokens_fault len [] = Some (record { at = 0; kind = kind.Empty })
tokens_fault len (t ∷ ts) = fault_left len (expected_after below_limit (t ∷ ts) (first_expected (token_kind t)))
