-- The state of the reader, and the results of its calls.
use Rattle.std.specs.Prelude.{◌≡◌, ◌≤◌, ◌+◌, ◌++◌, length, ℕ, List, Option, Some, None, Result, Ok, Err}
use Rattle.zquery.specs.declared.notation.error.PqfErrorKind.{PqfErrorKind}
use Rattle.zquery.specs.declared.notation.error.PqfErrorKind.TheVariants as kinds
use Rattle.zquery.specs.declared.notation.token.Token.{Token}
use Rattle.zquery.specs.Notation.Tokens.{AreTokens}
use Rattle.zquery.specs.Trees.{RpnQuery}
use Rattle.zmeta_world.specs.declared.world.World.{World}
use Rattle.zmeta_world.specs.declared.world.WorldError.{WorldError}
use Rattle.zmeta_world.specs.declared.world.WorldError.TheVariants as errors
use Rattle.zmeta_world.specs.declared.world.fault.LineFault.{LineFault}
use Rattle.zmeta_world.specs.declared.world.fault.LineFault.TheVariants as faults
use Rattle.zmeta_world.specs.declared.world.line.Line.{Line}
use Rattle.zmeta_world.specs.declared.world.reader.Reader.{Reader}
use Rattle.zmeta_world.specs.WorldLines.{lines_of, line_of, token_texts}
use Rattle.zmeta_world.specs.WorldParts.{list_of}
use Rattle.zmeta_world.specs.Worlds.{target_names, host_names, asked_names, IsQueryOf, AfterLine, AfterLineText, AreWorld, IsRefused}
use Rattle.zmeta_world.specs.World.{pieces}

-- the world of the lines that were read
abbrev pub world_of : Reader → World
world_of r = record {
  step = r.step;
  window = r.window;
  targets = list_of r.targets;
  hosts = r.hosts.items;
  questions = r.questions.items;
  moves = r.moves.items;
}

-- the reader's sets of names are the names of its targets, hosts and questions
pub record HasItsNames (r : Reader) : Type 0 where
  pub targets : r.target_names.keys ≡ target_names (list_of r.targets)
  pub hosts : r.host_names.keys ≡ host_names r.hosts.items
  pub asked : r.asked_names.keys ≡ asked_names r.questions.items

-- the reader has the expected world; or the line is refused if there is none
abbrev pub AddResult : Option World → Reader → Result Unit LineFault → Type 0
AddResult due r (Ok _) = HasItsNames r × (due ≡ Some (world_of r))
AddResult due r (Err faults.Refused) = due ≡ None
AddResult due r (Err faults.Memory) = Unit {0}

-- the line makes the reader's world of the world before; or it makes none, and is refused
abbrev pub AddLineResult : ℕ → Line → World → Reader → Result Unit LineFault → Type 0
AddLineResult number line w r (Ok _) = HasItsNames r × AfterLine number line w (world_of r)
AddLineResult number line w r (Err faults.Refused) = (v : World) → AfterLine number line w v → ⊥
AddLineResult number line w r (Err faults.Memory) = Unit {0}

-- the line with this text makes the reader's world of the world before; or it makes none, and is refused
abbrev pub ReadResult : ℕ → List ℕ → World → Reader → Result Unit LineFault → Type 0
ReadResult number text w r (Ok _) = HasItsNames r × AfterLineText number text w (world_of r)
ReadResult number text w r (Err faults.Refused) = (v : World) → AfterLineText number text w v → ⊥
ReadResult number text w r (Err faults.Memory) = Unit {0}

-- the tokens of the text are this line, and no other
pub record IsOnlyLine (text : List ℕ) (line : Line) : Type 0 where
  pub tokens : List Token
  pub lexed : AreTokens tokens text
  pub meaning : line_of (token_texts tokens) ≡ Some line
  pub only : (others : List Token) (other : Line) → AreTokens others text
      → line_of (token_texts others) ≡ Some other → line ≡ other

-- the line of a text; or the text is no line, and is refused
abbrev pub ParseResult : List ℕ → Result Line LineFault → Type 0
ParseResult text (Ok line) = IsOnlyLine text line
ParseResult text (Err faults.Refused) =
    (tokens : List Token) (line : Line) → AreTokens tokens text → line_of (token_texts tokens) ≡ Some line → ⊥
ParseResult text (Err faults.Memory) = Unit {0}

-- the query of a text; or the text is no query, and is refused
abbrev pub HasQuery : List ℕ → Result RpnQuery LineFault → Type 0
HasQuery text (Ok query) = IsQueryOf text query
HasQuery text (Err faults.Refused) = (query : RpnQuery) → IsQueryOf text query → ⊥
HasQuery text (Err faults.Memory) = Unit {0}

-- the line fault of a text that is no query
abbrev pub fault_of : PqfErrorKind → LineFault
fault_of kinds.Memory = faults.Memory
fault_of _ = faults.Refused

-- ---- the lines, one after the other

-- how many octets are left, plus one if a line is left
abbrev pub octets_left : Option (List ℕ) → ℕ
octets_left None = 0
octets_left (Some rest) = length rest + 1

-- this many lines were read, and the rest is left
pub record IsReading (file : List ℕ) (number : ℕ) (rest : Option (List ℕ)) (r : Reader) : Type 0 where
  pub front : List (List ℕ)
  pub cut : lines_of file ≡ front ++ pieces 10 rest
  pub place : number ≡ length front
  pub world : AreWorld front (world_of r)
  pub names : HasItsNames r
  pub within : number + octets_left rest ≤ length file + 1

-- line `number` makes the reader's world of the world before; or it makes none, and is the line refused
abbrev pub ReadLineResult : ℕ → List ℕ → World → Reader → Result Unit WorldError → Type 0
ReadLineResult number text w r (Ok _) = HasItsNames r × AfterLineText number text w (world_of r)
ReadLineResult number text w r (Err (errors.Refused line)) = (line ≡ number)
    × ((v : World) → AfterLineText number text w v → ⊥)
ReadLineResult number text w r (Err errors.Memory) = Unit {0}

-- a refusal gives the first line of the file that is at fault
abbrev pub IsFaultOf : List ℕ → WorldError → Type 0
IsFaultOf file (errors.Refused line) = IsRefused file line
IsFaultOf file errors.Memory = Unit {0}
