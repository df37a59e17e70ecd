-- The errors that the parser returns.
use Rattle.std.specs.Prelude.{◌≡◌, ℕ, Option, Some, Result, Ok, Err, ◌⊎◌}
use Rattle.zquery.specs.declared.notation.error.PqfError.{PqfError}
use Rattle.zquery.specs.declared.notation.error.PqfErrorKind.TheVariants as kind

-- no memory was found
abbrev pub memory : PqfError
memory = record { at = 0; kind = kind.Memory }

-- a token is missing; the text has this length
abbrev pub missing : ℕ → PqfError
missing len = record { at = len; kind = kind.MissingOperand }

-- if the result is an error, it is this one, unless no memory was found
abbrev pub IsFaultResult : {X : Type 0} → Option PqfError → Result X PqfError → Type 0
IsFaultResult f (Ok x) = Unit {0}
IsFaultResult f (Err e) = (e ≡ memory) ⊎ (f ≡ Some e)
