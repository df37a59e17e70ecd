-- What a token is where a query is expected.
use Rattle.std.specs.Prelude.{codes, nat_eq, if◌then◌else◌}
use Rattle.std.specs.Str.{bytes_eq}
use Rattle.std.specs.List.{starts_with}
use Rattle.zquery.specs.declared.notation.token.Token.{Token}
use Rattle.zquery.specs.declared.notation.word.TokenKind.{TokenKind}
use Rattle.zquery.specs.declared.notation.word.TokenKind.TheVariants.{AttrSet, Attribute, Op, NamedSet, TypeOfTerm, Unknown, Plain}
use Rattle.zquery_rpn.specs.declared.operator.Operator.TheVariants.{And, Or, Not}

-- A token in quotes is a term. Any other that begins with `@` is a keyword of the notation, or unknown.
unfoldable pub token_kind : Token → TokenKind
token_kind t =
    if t.quoted then Plain else
    if bytes_eq t.text (codes "@attrset") then AttrSet else
    if bytes_eq t.text (codes "@attr") then Attribute else
    if bytes_eq t.text (codes "@and") then Op And else
    if bytes_eq t.text (codes "@or") then Op Or else
    if bytes_eq t.text (codes "@not") then Op Not else
    if bytes_eq t.text (codes "@set") then NamedSet else
    if bytes_eq t.text (codes "@term") then TypeOfTerm else
    if starts_with nat_eq t.text (codes "@") then Unknown else Plain
