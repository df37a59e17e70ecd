-- What the tokens of attributes and terms mean.
use Rattle.std.specs.Prelude.{ℕ, List, Bool, ◌==◌, Option, Some, None, codes, if◌then◌else◌}
use Rattle.std.specs.Option.{option_map}
use Rattle.std.specs.Str.{bytes_eq}
use Rattle.std.specs.List.{list_any, before_first, after_first}
use Rattle.zquery.specs.declared.notation.word.TermKind.{TermKind}
use Rattle.zquery.specs.declared.notation.word.TermKind.TheVariants.{GeneralTerm, NumericTerm, TextTerm}
use Rattle.zquery_rpn.specs.declared.query.TermValue.{TermValue}
use Rattle.zquery_rpn.specs.declared.query.TermValue.TheVariants.{General, Numeric, Text}
use Rattle.zquery.specs.Notation.Numbers.{number_of_text, integer_of}

-- the octet is an equals sign, which stands between the type and the value of an attribute
abbrev pub is_equals : ℕ → Bool
is_equals b = b == 61

-- the text has an equals sign
unfoldable pub has_equals : List ℕ → Bool
has_equals text = list_any is_equals text

-- the greatest type and the greatest value of an attribute
abbrev pub most : ℕ
most = 2147483647

-- both, or none
abbrev pub pair_of : Option ℕ → Option ℕ → Option (ℕ × ℕ)
pair_of (Some a) (Some b) = Some (a, b)
pair_of (Some a) None = None
pair_of None o = None

-- the type and the value of an attribute: the numbers before and behind the first equals sign
unfoldable pub numbers_of : List ℕ → Option (ℕ × ℕ)
numbers_of text =
    pair_of (number_of_text most (before_first is_equals text)) (number_of_text most (after_first is_equals text))

-- the type of term of this name
unfoldable pub term_kind_of : List ℕ → Option TermKind
term_kind_of text =
    if bytes_eq text (codes "general") then Some GeneralTerm else
    if bytes_eq text (codes "numeric") then Some NumericTerm else
    if bytes_eq text (codes "string") then Some TextTerm else None

-- the term of this type that the text writes
unfoldable pub value_of : TermKind → List ℕ → Option TermValue
value_of GeneralTerm text = Some (General text)
value_of TextTerm text = Some (Text text)
value_of NumericTerm text = option_map Numeric (integer_of text)
