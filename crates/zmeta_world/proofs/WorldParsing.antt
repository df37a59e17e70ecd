-- The line of a text, and its query.
use Rattle.std.proofs.Common.{◌≡◌, ◌∙◌, sym, ap, subst, ℕ, List, Option, Some, None, Result, Ok, Err, ◌⊎◌, inl, inr, refl}
use Rattle.zquery.specs.declared.notation.token.Token.{Token}
use Rattle.zquery.specs.declared.notation.error.PqfError.{PqfError}
use Rattle.zquery.specs.declared.notation.error.PqfErrorKind.TheVariants as kind
use Rattle.zquery.specs.Notation.Faults.{memory}
use Rattle.zquery.specs.Notation.Laws.{OneLexing, OneQueryOrFault}
use Rattle.zquery.specs.Notation.Texts.{IsTextFault}
use Rattle.zquery.specs.Notation.Tokens.{AreTokens, IsOpenAt}
use Rattle.zmeta_world.specs.World.{LineResult}
use Rattle.zmeta_world.specs.WorldLines.{line_of, token_texts}
use Rattle.zmeta_world.specs.WorldReading.{IsOnlyLine, ParseResult, HasQuery, fault_of, AddLineResult, ReadResult}
use Rattle.zmeta_world.specs.Worlds.{AfterLine}
use Rattle.zmeta_world.specs.declared.world.World.{World}
use Rattle.zmeta_world.specs.declared.world.fault.LineFault.{LineFault}
use Rattle.zmeta_world.specs.declared.world.fault.LineFault.TheVariants as faults
use Rattle.zmeta_world.specs.declared.world.line.Line.{Line}
use Rattle.zmeta_world.specs.declared.world.reader.Reader.{Reader}

pub none_some : {A : Type 0} {x : A} → None ≡ Some x → ⊥
none_some e = absurd (Prim.cc e)

abbrev or_value : {A : Type 0} → A → Option A → A
or_value x None = x
or_value x (Some y) = y

pub some_same : {A : Type 0} (x y : A) → Some x ≡ Some y → x ≡ y
some_same x y e = ap (or_value x) e

-- a text whose tokens are known is the line of these tokens
pub parsed_of : (text : List ℕ) (ts : List Token) (r : Result Line LineFault) → OneLexing → AreTokens ts text → LineResult (line_of (token_texts ts)) r → ParseResult text r
parsed_of text ts (Ok line) law lexed meaning = record {
  tokens = ts;
  lexed = lexed;
  meaning = meaning;
  only = λ us other l s. some_same line other (sym meaning ∙ ap (λ z. line_of (token_texts z)) (law.one_list text ts us lexed l) ∙ s);
}
parsed_of text ts (Err faults.Refused) law lexed meaning = λ us line l s. none_some (sym meaning ∙ ap (λ z. line_of (token_texts z)) (law.one_list text ts us lexed l) ∙ s)
parsed_of text ts (Err faults.Memory) law lexed meaning = tt

memory_refused : faults.Memory ≡ faults.Refused → ⊥
memory_refused e = absurd (Prim.cc e)

memory_is : (e : PqfError) → e ≡ memory → fault_of e.kind ≡ faults.Refused → ⊥
memory_is e m f = memory_refused (ap (λ z. fault_of z.kind) (sym m) ∙ f)

-- a text with an open quote is no line
not_lexed : (text : List ℕ) (e : PqfError) (f : LineFault) → fault_of e.kind ≡ f → OneLexing → (e ≡ memory) ⊎ ((e.kind ≡ kind.OpenQuote) × IsOpenAt e.at text) → ParseResult text (Err f)
not_lexed text e faults.Memory q law h = tt
not_lexed text e faults.Refused q law h = elim h [
  | inl m ↦ absurd (memory_is e m q)
  | inr o ↦ λ us line l s. law.either text us e.at l o.1
]

pub unparsed : (text : List ℕ) (e : PqfError) → OneLexing → (e ≡ memory) ⊎ ((e.kind ≡ kind.OpenQuote) × IsOpenAt e.at text) → ParseResult text (Err (fault_of e.kind))
unparsed text e law h = not_lexed text e (fault_of e.kind) refl law h

-- a text at fault is no query
no_query : (text : List ℕ) (e : PqfError) (f : LineFault) → fault_of e.kind ≡ f → OneQueryOrFault → (e ≡ memory) ⊎ IsTextFault text e → HasQuery text (Err f)
no_query text e faults.Memory q law h = tt
no_query text e faults.Refused q law h = elim h [
  | inl m ↦ absurd (memory_is e m q)
  | inr g ↦ λ query is. law.either text query e is.0 is.1 g
]

pub unasked : (text : List ℕ) (e : PqfError) → OneQueryOrFault → (e ≡ memory) ⊎ IsTextFault text e → HasQuery text (Err (fault_of e.kind))
unasked text e law h = no_query text e (fault_of e.kind) refl law h

-- the line of a text makes the world that the reader has
pub made : (number : ℕ) (text : List ℕ) (line : Line) (w : World) (r : Reader) (e : Result Unit LineFault) → IsOnlyLine text line → AddLineResult number line w r e → ReadResult number text w r e
made number text line w r (Ok _) s f = (f.0, record { tokens = s.tokens; line = line; lexed = s.lexed; meaning = s.meaning; effect = f.1 })
made number text line w r (Err faults.Refused) s f = λ v m. f v (subst (λ z. AfterLine number z w v) (sym (s.only m.tokens m.line m.lexed m.meaning)) m.effect)
made number text line w r (Err faults.Memory) s f = tt

-- ---- a question
