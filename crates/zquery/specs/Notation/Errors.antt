-- The name of each kind of error.
use Rattle.std.specs.Prelude.{ℕ, List, codes}
use Rattle.zquery.specs.declared.notation.error.PqfErrorKind.{PqfErrorKind}
use Rattle.zquery.specs.declared.notation.error.PqfErrorKind.TheVariants as kind

-- the variant's name
abbrev pub pqf_kind_name : PqfErrorKind → List ℕ
pqf_kind_name kind.OpenQuote = codes "OpenQuote"
pqf_kind_name kind.Empty = codes "Empty"
pqf_kind_name kind.UnknownWord = codes "UnknownWord"
pqf_kind_name kind.MissingOperand = codes "MissingOperand"
pqf_kind_name kind.BadAttribute = codes "BadAttribute"
pqf_kind_name kind.UnknownSet = codes "UnknownSet"
pqf_kind_name kind.BadTermType = codes "BadTermType"
pqf_kind_name kind.BadNumber = codes "BadNumber"
pqf_kind_name kind.TooDeep = codes "TooDeep"
pqf_kind_name kind.Trailing = codes "Trailing"
pqf_kind_name kind.Memory = codes "Memory"
