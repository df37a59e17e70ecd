-- The world that the lines of a file make, and the line that is refused.
use Rattle.std.specs.Prelude.{◌≡◌, ℕ, ◌+◌, ◌≤◌, Bool, ◌||◌, if◌then◌else◌, List, [], ◌∷◌, ◌++◌, length, map, position, Option, Some, None}
use Rattle.std.specs.List.{list_any}
use Rattle.std.specs.Option.{option_map, option_or}
use Rattle.std.specs.Str.{bytes_eq}
use Rattle.zquery.specs.declared.notation.token.Token.{Token}
use Rattle.zquery.specs.Notation.Tokens.{AreTokens}
use Rattle.zquery.specs.Notation.Texts.{IsText}
use Rattle.zquery.specs.Trees.{RpnQuery, height}
use Rattle.ztarget.specs.declared.database.Database.{Database}
use Rattle.ztarget.specs.declared.database.Entry.{Entry}
use Rattle.ztarget.specs.declared.database.Field.{Field}
use Rattle.ztarget.specs.declared.settings.TargetSettings.{TargetSettings}
use Rattle.zoom_questions.specs.declared.moves.Move.{Move}
use Rattle.zoom_questions.specs.declared.moves.Move.TheVariants as moves
use Rattle.zoom_questions.specs.declared.question.Question.{Question}
use Rattle.zmeta_world.specs.declared.world.World.{World}
use Rattle.zmeta_world.specs.declared.world.NamedTarget.{NamedTarget}
use Rattle.zmeta_world.specs.declared.world.NamedHost.{NamedHost}
use Rattle.zmeta_world.specs.declared.world.AskedQuestion.{AskedQuestion}
use Rattle.zmeta_world.specs.declared.world.End.{End}
use Rattle.zmeta_world.specs.declared.world.End.TheVariants as ends
use Rattle.zmeta_world.specs.declared.world.line.AskLine.{AskLine}
use Rattle.zmeta_world.specs.declared.world.line.Content.{Content}
use Rattle.zmeta_world.specs.declared.world.line.Content.TheVariants as contents
use Rattle.zmeta_world.specs.declared.world.line.Line.{Line}
use Rattle.zmeta_world.specs.declared.world.line.Line.TheVariants as lines
use Rattle.zmeta_world.specs.declared.world.line.Way.{Way}
use Rattle.zmeta_world.specs.declared.world.line.Way.TheVariants as ways
use Rattle.zmeta_world.specs.WorldLines.{lines_of, token_texts, line_of}

-- ---- names

-- the names of the targets in memory
abbrev pub target_names : List NamedTarget → List (List ℕ)
target_names = map (λ t. t.name)

-- the names of the hosts
abbrev pub host_names : List NamedHost → List (List ℕ)
host_names = map (λ h. h.name)

-- the names that the questions go to
abbrev pub asked_names : List AskedQuestion → List (List ℕ)
asked_names = map (λ q. q.name)

-- the names of the databases
abbrev pub database_names : List Database → List (List ℕ)
database_names = map (λ d. d.name)

-- the name is among these names
abbrev pub is_among : List ℕ → List (List ℕ) → Bool
is_among name names = list_any (bytes_eq name) names

-- the index of the name among these names
abbrev pub place_of : List ℕ → List (List ℕ) → Option ℕ
place_of name names = position (bytes_eq name) names

-- a target or a host has this name
abbrev pub is_defined : List ℕ → List NamedTarget → List NamedHost → Bool
is_defined name targets hosts = is_among name (target_names targets) || is_among name (host_names hosts)

-- the target or host with this name
abbrev pub end_of : List ℕ → List NamedTarget → List NamedHost → Option End
end_of name targets hosts =
    option_or (option_map ends.Target (place_of name (target_names targets)))
    (option_map ends.Host (place_of name (host_names hosts)))

-- ---- the last of a list

-- the list with its last item changed, if that item can be changed
abbrev pub in_last : {A : Type 0} → (A → Option A) → List A → Option (List A)
in_last change [] = None
in_last change (x ∷ []) = option_map (λ y. y ∷ []) (change x)
in_last change (x ∷ y ∷ ys) = option_map (λ zs. x ∷ zs) (in_last change (y ∷ ys))

-- ---- what a line adds to the targets and the hosts

-- a target without databases
abbrev pub new_target : List ℕ → TargetSettings → NamedTarget
new_target name settings = record { name = name; settings = settings; databases = [] }

-- a host at this address
abbrev pub new_host : List ℕ → List ℕ → NamedHost
new_host name address = record { name = name; address = address }

-- a database without records
abbrev pub new_database : List ℕ → Database
new_database name = record { name = name; entries = [] }

-- a record without fields
abbrev pub new_entry : List ℕ → List ℕ → Entry
new_entry syntax octets = record { syntax = syntax; octets = octets; fields = [] }

-- the record with one more field
abbrev pub add_field : Field → Entry → Option Entry
add_field field entry = Some (record entry { fields = entry.fields ++ field ∷ [] })

-- the records with one more, or with one more field of the last
abbrev pub add_content : Content → List Entry → Option (List Entry)
add_content (contents.Record syntax octets) entries = Some (entries ++ new_entry syntax octets ∷ [])
add_content (contents.Field field) entries = in_last (add_field field) entries

-- the database with its records changed
abbrev pub in_database : (List Entry → Option (List Entry)) → Database → Option Database
in_database change database =
    option_map (λ entries. record database { entries = entries }) (change database.entries)

-- the target with one more database, if none of its databases has the name
abbrev pub add_database : List ℕ → NamedTarget → Option NamedTarget
add_database name target =
    if is_among name (database_names target.databases)
    then None
    else Some (record target { databases = target.databases ++ new_database name ∷ [] })

-- the target with its last database changed
abbrev pub in_target : (Database → Option Database) → NamedTarget → Option NamedTarget
in_target change target =
    option_map (λ databases. record target { databases = databases }) (in_last change target.databases)

-- ---- the world after a line

-- the world before any line
abbrev pub empty : World
empty = record { step = 10; window = 4; targets = []; hosts = []; questions = []; moves = [] }

-- the world with these targets
abbrev pub with_targets : World → List NamedTarget → World
with_targets w targets = record w { targets = targets }

-- the world with one more target, if its name is not yet defined
abbrev pub put_target : List ℕ → TargetSettings → World → Option World
put_target name settings w =
    if is_defined name w.targets w.hosts
    then None
    else Some (record w { targets = w.targets ++ new_target name settings ∷ [] })

-- the world with one more host, if its name is not yet defined
abbrev pub put_host : List ℕ → List ℕ → World → Option World
put_host name address w =
    if is_defined name w.targets w.hosts
    then None
    else Some (record w { hosts = w.hosts ++ new_host name address ∷ [] })

-- the world with its last target changed
abbrev pub change_target : (NamedTarget → Option NamedTarget) → World → Option World
change_target change w = option_map (with_targets w) (in_last change w.targets)

-- the question in one database
abbrev pub question : AskLine → RpnQuery → Question
question line query = record {
  databases = line.database ∷ [];
  query = query;
  syntax = line.syntax;
  elements = None;
  wanted = line.wanted;
}

-- the question of line `number`, with the end that it goes to
abbrev pub asked_question : ℕ → AskLine → RpnQuery → End → AskedQuestion
asked_question number line query end =
    record { line = number; name = line.name; end = end; question = question line query }

-- the world with one more question, on line `number`, if its name is defined and was not asked before
abbrev pub put_question : ℕ → AskLine → RpnQuery → World → Option World
put_question number line query w =
    if is_among line.name (asked_names w.questions)
    then None
    else option_map
    (λ end. record w { questions = w.questions ++ asked_question number line query end ∷ [] })
    (end_of line.name w.targets w.hosts)

-- the move in this direction
abbrev pub move_of : Way → ℕ → ℕ → Move
move_of ways.To c k = moves.To c k
move_of ways.Release c k = moves.Release c k
move_of ways.From c k = moves.From c k

-- the world with one more move, between a target in memory that was asked and its connection
abbrev pub put_move : Way → List ℕ → ℕ → World → Option World
put_move way name k w =
    if is_among name (target_names w.targets)
    then option_map
    (λ c. record w { moves = w.moves ++ move_of way c k ∷ [] })
    (place_of name (asked_names w.questions))
    else None

-- the text is this query, with at most 31 operators above an operand
abbrev pub IsQueryOf : List ℕ → RpnQuery → Type 0
IsQueryOf text query = IsText text query × (height query.root ≤ 32)

-- line `number` makes the second world of the first
abbrev pub AfterLine : ℕ → Line → World → World → Type 0
AfterLine number lines.Empty w v = Some w ≡ Some v
AfterLine number (lines.Step n) w v = Some (record w { step = n }) ≡ Some v
AfterLine number (lines.Window n) w v = Some (record w { window = n }) ≡ Some v
AfterLine number (lines.Target name settings) w v = put_target name settings w ≡ Some v
AfterLine number (lines.Host name address) w v = put_host name address w ≡ Some v
AfterLine number (lines.Database name) w v = change_target (add_database name) w ≡ Some v
AfterLine number (lines.Content content) w v =
    change_target (in_target (in_database (add_content content))) w ≡ Some v
AfterLine number (lines.Ask line) w v =
    (query : RpnQuery) × IsQueryOf line.text query × (put_question number line query w ≡ Some v)
AfterLine number (lines.Carry way name k) w v = put_move way name k w ≡ Some v

-- the text is line `number`, which makes the second world of the first
pub record AfterLineText (number : ℕ) (text : List ℕ) (w v : World) : Type 0 where
  pub tokens : List Token
  pub line : Line
  pub lexed : AreTokens tokens text
  pub meaning : line_of (token_texts tokens) ≡ Some line
  pub effect : AfterLine number line w v

-- ---- the world of a file

-- the lines make this world; the first of them is line 1
pub data AreWorld : List (List ℕ) → World → Type 0 where
  none : AreWorld [] empty
  more : {front : List (List ℕ)} {text : List ℕ} {w v : World} → AreWorld front w
      → AfterLineText (length front + 1) text w v
      → AreWorld (front ++ text ∷ []) v

-- the lines of the file make this world
abbrev pub IsWorld : List ℕ → World → Type 0
IsWorld file w = AreWorld (lines_of file) w

-- the lines before this one make a world, and this line makes none of it
pub record IsRefused (file : List ℕ) (number : ℕ) : Type 0 where
  pub front : List (List ℕ)
  pub text : List ℕ
  pub rest : List (List ℕ)
  pub world : World
  pub cut : lines_of file ≡ front ++ text ∷ rest
  pub place : number ≡ length front + 1
  pub before : AreWorld front world
  pub fault : (v : World) → AfterLineText number text world v → ⊥
