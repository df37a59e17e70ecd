-- The world file that says a world whose questions go to hosts.
use Rattle.std.specs.Prelude.{◌≡◌, ℕ, ◌+◌, ◌-◌, ◌==◌, Bool, not, if◌then◌else◌, List, [], ◌∷◌, ◌++◌, length, codes, Option, Some, None, Result, Ok, Err}
use Rattle.std.specs.Fmt.{decimal}
use Rattle.std.specs.List.{flat_map, list_any}
use Rattle.std.specs.Option.{option_map, option_or, is_some}
use Rattle.zber.specs.Dotted.{dotted}
use Rattle.zber.specs.Oids.{IsOid}
use Rattle.zquery.specs.Notation.Printing.{in_quotes, printable, query_text}
use Rattle.zquery.specs.Notation.Texts.{IsText}
use Rattle.zplan.specs.Ranges.{natural}
use Rattle.zplan.specs.declared.range.Range.{Range}
use Rattle.zmeta_world.specs.declared.world.World.{World}
use Rattle.zmeta_world.specs.declared.world.NamedHost.{NamedHost}
use Rattle.zmeta_world.specs.declared.world.AskedQuestion.{AskedQuestion}
use Rattle.zmeta_world.specs.WorldLines.{is_feed}
use Rattle.zmeta_conversions.specs.declared.worlds.Unsaid.{Unsaid}
use Rattle.zmeta_conversions.specs.declared.worlds.Unsaid.TheVariants as reasons
use Rattle.zmeta_conversions.specs.declared.worlds.WorldFileError.{WorldFileError}
use Rattle.zmeta_conversions.specs.declared.worlds.WorldFileError.TheVariants as errors

-- ---- wanted positions

-- the last position of a range
abbrev pub last_of : Range → ℕ
last_of r = natural r.start + natural r.n - 1

-- a range: its first and its last position, with a hyphen between them
abbrev pub range_text : Range → List ℕ
range_text r = decimal (natural r.start) ++ (codes "-" ++ decimal (last_of r))

-- a range behind another
abbrev pub next_range : Range → List ℕ
next_range r = codes "," ++ range_text r

-- ranges with commas between them; `0` for none
abbrev pub wanted_text : List Range → List ℕ
wanted_text [] = codes "0"
wanted_text (r ∷ rs) = range_text r ++ flat_map next_range rs

-- ---- lines

-- a record syntax with dots; `-` for none
abbrev pub syntax_text : Option (List ℕ) → List ℕ
syntax_text None = codes "-"
syntax_text (Some oid) = dotted oid

-- the line of a host
abbrev pub host_text : NamedHost → List ℕ
host_text h = codes "host " ++ (in_quotes h.name ++ (codes " " ++ in_quotes h.address))

-- how a question wants its records, and its query
abbrev pub wants_text : AskedQuestion → List ℕ
wants_text q =
    syntax_text q.question.syntax ++ (codes " " ++ (wanted_text q.question.wanted ++ (codes " "
    ++ in_quotes (query_text q.question.query))))

-- the line of a question
abbrev pub ask_text : AskedQuestion → List ℕ
ask_text q =
    codes "ask " ++ (in_quotes q.name ++ (codes " " ++ (flat_map in_quotes q.question.databases ++ (codes " "
    ++ wants_text q))))

-- the line of a number
abbrev pub number_text : List ℕ → ℕ → List ℕ
number_text word n = word ++ (codes " " ++ decimal n)

-- a line with its end
abbrev pub ended : List ℕ → List ℕ
ended text = text ++ codes "\n"

-- the line of a host, with its end
abbrev pub host_line : NamedHost → List ℕ
host_line h = ended (host_text h)

-- the line of a question, with its end
abbrev pub ask_line : AskedQuestion → List ℕ
ask_line q = ended (ask_text q)

-- the world file of a world: step, window, the hosts and the questions, a line each
abbrev pub world_text : World → List ℕ
world_text w =
    ended (number_text (codes "step") w.step) ++ (ended (number_text (codes "window") w.window)
    ++ (flat_map host_line w.hosts ++ flat_map ask_line w.questions))

-- ---- what a world file cannot say

-- a line feed is among the octets
abbrev pub has_feed : List ℕ → Bool
has_feed octets = list_any is_feed octets

-- a name, and why a world file cannot say what it names
abbrev pub Reason : Type 0
Reason = List ℕ × Unsaid

-- why a world file cannot say a host: a line feed would end its line
abbrev pub host_reason : NamedHost → Option Unsaid
host_reason h = if has_feed (host_text h) then Some reasons.LineFeed else None

-- why a world file cannot say a question: its line has one database and no element set name; its query needs a text;
-- and a line feed would end the line
abbrev pub ask_reason : AskedQuestion → Option Unsaid
ask_reason q =
    if not (length q.question.databases == 1) then Some reasons.Databases
    else if is_some q.question.elements then Some reasons.Elements
    else if not (printable q.question.query) then Some reasons.Query
    else if has_feed (ask_text q) then Some reasons.LineFeed
    else None

-- the host that cannot be said, by its name
abbrev pub unsaid_host : NamedHost → Option Reason
unsaid_host h = option_map (λ r. (h.name, r)) (host_reason h)

-- the question that cannot be said, by its name
abbrev pub unsaid_question : AskedQuestion → Option Reason
unsaid_question q = option_map (λ r. (q.name, r)) (ask_reason q)

-- the first of a list that cannot be said
abbrev pub first_unsaid : {A F : Type 0} → (A → Option F) → List A → Option F
first_unsaid unsaid [] = None
first_unsaid unsaid (x ∷ xs) = option_or (unsaid x) (first_unsaid unsaid xs)

-- what a world file cannot say of a world: the first such host, or else the first such question
abbrev pub unsaid : World → Option Reason
unsaid w = option_or (first_unsaid unsaid_host w.hosts) (first_unsaid unsaid_question w.questions)

-- ---- results

-- the record syntax, if there is one, is an object identifier
abbrev pub IsSyntax : Option (List ℕ) → Type 0
IsSyntax syntax = (oid : List ℕ) → syntax ≡ Some oid → IsOid oid

-- the text of the query stands for it, and the record syntax is an object identifier
pub record IsReadable (q : AskedQuestion) : Type 0 where
  pub query : IsText (query_text q.question.query) q.question.query
  pub syntax : IsSyntax q.question.syntax

-- each question is such
abbrev pub AreReadable : List AskedQuestion → Type 0
AreReadable [] = Unit {0}
AreReadable (q ∷ qs) = IsReadable q × AreReadable qs

-- this is what cannot be said
abbrev pub IsUnsaid : Option Reason → WorldFileError → Type 0
IsUnsaid due (errors.Unsaid name reason) = due ≡ Some (name, reason)
IsUnsaid due errors.Memory = Unit {0}

-- the text was appended, and nothing is unsaid; or something is
abbrev pub PutResult : Option Reason → List ℕ → List ℕ → List ℕ → Result Unit WorldFileError → Type 0
PutResult due text old new (Ok _) = (due ≡ None) × (new ≡ old ++ text)
PutResult due text old new (Err e) = IsUnsaid due e

-- the question can be said, and this is its line
pub record IsSaid (q : AskedQuestion) (text : List ℕ) : Type 0 where
  pub said : ask_reason q ≡ None
  pub line : text ≡ ask_text q
  pub readable : IsReadable q
