-- The lines of a world file, and the contents of each by itself.
use Rattle.std.specs.Prelude.{ℕ, ◌^◌, ◌-◌, pos, Bool, ◌==◌, ◌&&◌, ◌||◌, not, nat_le, if◌then◌else◌, List, [], ◌∷◌, length, map, codes, Option, Some, None}
use Rattle.std.specs.List.{slice_split, list_all, list_any}
use Rattle.std.specs.Option.{option_map, option_and_then}
use Rattle.std.specs.Str.{bytes_eq}
use Rattle.zquery.specs.declared.notation.token.Token.{Token}
use Rattle.zquery.specs.Notation.Sets.{oid_of_text}
use Rattle.ztarget.specs.declared.settings.TargetSettings.{TargetSettings}
use Rattle.zmeta_world.specs.WorldWants.{number_in, wanted_of}
use Rattle.zmeta_world.specs.declared.world.keyword.Keyword.{Keyword}
use Rattle.zmeta_world.specs.declared.world.keyword.Keyword.TheVariants as keys
use Rattle.zmeta_world.specs.declared.world.line.Content.TheVariants as contents
use Rattle.zmeta_world.specs.declared.world.line.Line.{Line}
use Rattle.zmeta_world.specs.declared.world.line.Line.TheVariants as lines
use Rattle.zmeta_world.specs.declared.world.line.Way.{Way}
use Rattle.zmeta_world.specs.declared.world.line.Way.TheVariants as ways

-- ---- lines and tokens

-- the octet is a line feed
abbrev pub is_feed : ℕ → Bool
is_feed b = b == 10

-- the lines, with a line feed between each two
abbrev pub lines_of : List ℕ → List (List ℕ)
lines_of text = slice_split is_feed text

-- the texts of the tokens of a line, quoted or not
abbrev pub token_texts : List Token → List (List ℕ)
token_texts ts = map (λ t. t.text) ts

-- the keyword that a token is
unfoldable pub keyword_of : List ℕ → Option Keyword
keyword_of w =
    if bytes_eq w (codes "step") then Some keys.Step
    else if bytes_eq w (codes "window") then Some keys.Window
    else if bytes_eq w (codes "target") then Some keys.Target
    else if bytes_eq w (codes "host") then Some keys.Host
    else if bytes_eq w (codes "db") then Some keys.Database
    else if bytes_eq w (codes "rec") then Some keys.Record
    else if bytes_eq w (codes "field") then Some keys.Field
    else if bytes_eq w (codes "ask") then Some keys.Ask
    else if bytes_eq w (codes "to") then Some keys.To
    else if bytes_eq w (codes "rel") then Some keys.Release
    else if bytes_eq w (codes "from") then Some keys.From
    else None

-- ---- what follows the keyword

-- step N: 1 to 1,000
abbrev pub step_line : List (List ℕ) → Option Line
step_line (n ∷ []) = option_map lines.Step (number_in 1 1000 n)
step_line _ = None

-- window N: 1 to 64
abbrev pub window_line : List (List ℕ) → Option Line
window_line (n ∷ []) = option_map lines.Window (number_in 1 64 n)
window_line _ = None

-- c: concurrent operations; n: named result sets; r: a target that refuses the association; - for none of them
abbrev pub is_flag : ℕ → Bool
is_flag b = (b == 99) || (b == 110) || (b == 114)

-- the text is a list of flags, or -
abbrev pub are_flags : List ℕ → Bool
are_flags text = bytes_eq text (codes "-") || (not (length text == 0) && list_all is_flag text)

-- the flag is in the text
abbrev pub has_flag : ℕ → List ℕ → Bool
has_flag flag text = list_any (λ b. b == flag) text

-- the settings of a target with these flags and this size
abbrev pub settings : List ℕ → ℕ → TargetSettings
settings flags size = record {
  size = pos size;
  concurrent = has_flag 99 flags;
  named = has_flag 110 flags;
  refuse = has_flag 114 flags;
}

-- target NAME SIZE FLAGS: records of 1 to 2 ^ 63 - 1 octets in one response
abbrev pub target_line : List (List ℕ) → Option Line
target_line (name ∷ size ∷ flags ∷ []) =
    if are_flags flags
    then option_map (λ n. lines.Target name (settings flags n)) (number_in 1 (2 ^ 63 - 1) size)
    else None
target_line _ = None

-- host NAME ADDRESS
abbrev pub host_line : List (List ℕ) → Option Line
host_line (name ∷ address ∷ []) = Some (lines.Host name address)
host_line _ = None

-- db NAME
abbrev pub database_line : List (List ℕ) → Option Line
database_line (name ∷ []) = Some (lines.Database name)
database_line _ = None

-- rec OID OCTETS
abbrev pub record_line : List (List ℕ) → Option Line
record_line (syntax ∷ octets ∷ []) = option_map (λ oid. lines.Content (contents.Record oid octets)) (oid_of_text syntax)
record_line _ = None

-- field USE TEXT
abbrev pub field_line : List (List ℕ) → Option Line
field_line (attr ∷ text ∷ []) =
    option_map
    (λ n. lines.Content (contents.Field (record { attr = pos n; text = text })))
    (number_in 0 (2 ^ 63 - 1) attr)
field_line _ = None

-- a record syntax of at most 1,000 arcs
abbrev pub short : List ℕ → Option (Option (List ℕ))
short oid = if nat_le (length oid) 1000 then Some (Some oid) else None

-- a record syntax, or - for none
unfoldable pub syntax_of : List ℕ → Option (Option (List ℕ))
syntax_of text = if bytes_eq text (codes "-") then Some None else option_and_then short (oid_of_text text)

-- ask NAME DB SYNTAX WANT QUERY
abbrev pub ask_line : List (List ℕ) → Option Line
ask_line (name ∷ database ∷ syntax ∷ want ∷ query ∷ []) =
    option_and_then
    (λ oid. option_map
    (λ ranges. lines.Ask (record { name = name; database = database; syntax = oid; wanted = ranges; text = query }))
    (wanted_of want))
    (syntax_of syntax)
ask_line _ = None

-- to NAME K, rel NAME K, from NAME K
abbrev pub carry_line : Way → List (List ℕ) → Option Line
carry_line way (name ∷ k ∷ []) = option_map (λ n. lines.Carry way name n) (number_in 0 (2 ^ 32 - 1) k)
carry_line way _ = None

-- the contents of a line with this keyword
abbrev pub line_by : Keyword → List (List ℕ) → Option Line
line_by keys.Step = step_line
line_by keys.Window = window_line
line_by keys.Target = target_line
line_by keys.Host = host_line
line_by keys.Database = database_line
line_by keys.Record = record_line
line_by keys.Field = field_line
line_by keys.Ask = ask_line
line_by keys.To = carry_line ways.To
line_by keys.Release = carry_line ways.Release
line_by keys.From = carry_line ways.From

-- the contents of a line with these tokens; a line may be empty
abbrev pub line_of : List (List ℕ) → Option Line
line_of [] = Some lines.Empty
line_of (word ∷ others) = option_and_then (λ key. line_by key others) (keyword_of word)
