-- The contents of each line are within their bounds.
use Rattle.std.proofs.Common.{◌≡◌, subst, ℕ, ◌≤◌, ◌-◌, ◌^◌, pos, List, [], ◌∷◌, Bool, true, false, if◌then◌else◌, Option, Some, None}
use Rattle.std.specs.Option.{option_map}
use Rattle.zquery.specs.Notation.Sets.{oid_of_text}
use Rattle.zoom_questions.specs.Askable.{HasFewArcs}
use Rattle.zmeta_world.specs.WorldLines.{keyword_of, line_by, line_of, step_line, window_line, target_line, host_line, database_line, record_line, field_line, ask_line, carry_line, are_flags, settings, syntax_of}
use Rattle.zmeta_world.specs.WorldWants.{number_in, wanted_of}
use Rattle.zmeta_world.specs.declared.world.line.Content.TheVariants as contents
use Rattle.zmeta_world.specs.declared.world.line.Line.{Line}
use Rattle.zmeta_world.specs.declared.world.line.Line.TheVariants as lines
use Rattle.zmeta_world.specs.declared.world.line.Way.{Way}
use Rattle.zmeta_world.specs.declared.world.line.Way.TheVariants as ways
use Rattle.zmeta_world.specs.declared.world.keyword.Keyword.{Keyword}
use Rattle.zmeta_world.specs.declared.world.keyword.Keyword.TheVariants as keys
use Rattle.zmeta_world.proofs.WorldParsing.{none_some, some_same}
use Rattle.zmeta_world.proofs.FitWants.{Fits, mapped, chained, number_within, wanted_fits, syntax_fits}

abbrev pub IsWithin : Line → Type 0
IsWithin (lines.Step n) = (1 ≤ n) × (n ≤ 1000)
IsWithin (lines.Window n) = (1 ≤ n) × (n ≤ 64)
IsWithin (lines.Ask line) = Fits 1 1000000 line.wanted × HasFewArcs line.syntax
IsWithin _ = Unit {0}

step_within : (ws : List (List ℕ)) (line : Line) → step_line ws ≡ Some line → IsWithin line
step_within (n ∷ []) line e =
    let m = mapped lines.Step (number_in 1 1000 n) line e in
    subst IsWithin m.gives (number_within 1 1000 m.from n m.is)
step_within _ line e = absurd (none_some e)

window_within : (ws : List (List ℕ)) (line : Line) → window_line ws ≡ Some line → IsWithin line
window_within (n ∷ []) line e =
    let m = mapped lines.Window (number_in 1 64 n) line e in
    subst IsWithin m.gives (number_within 1 64 m.from n m.is)
window_within _ line e = absurd (none_some e)

-- a value that passed the test
allowed : {A : Type 0} (b : Bool) (o : Option A) (y : A) → (if b then o else None) ≡ Some y → o ≡ Some y
allowed true o y e = e
allowed false o y e = absurd (none_some e)

target_within : (ws : List (List ℕ)) (line : Line) → target_line ws ≡ Some line → IsWithin line
target_within (name ∷ size ∷ flags ∷ []) line e =
    let o = allowed (are_flags flags) (option_map (λ n. lines.Target name (settings flags n)) (number_in 1 (2 ^ 63 - 1) size)) line e in
    let m = mapped (λ n. lines.Target name (settings flags n)) (number_in 1 (2 ^ 63 - 1) size) line o in
    subst IsWithin m.gives tt
target_within _ line e = absurd (none_some e)

host_within : (ws : List (List ℕ)) (line : Line) → host_line ws ≡ Some line → IsWithin line
host_within (name ∷ address ∷ []) line e = subst IsWithin (some_same (lines.Host name address) line e) tt
host_within _ line e = absurd (none_some e)

database_within : (ws : List (List ℕ)) (line : Line) → database_line ws ≡ Some line → IsWithin line
database_within (name ∷ []) line e = subst IsWithin (some_same (lines.Database name) line e) tt
database_within _ line e = absurd (none_some e)

record_within : (ws : List (List ℕ)) (line : Line) → record_line ws ≡ Some line → IsWithin line
record_within (syntax ∷ octets ∷ []) line e =
    let m = mapped (λ oid. lines.Content (contents.Record oid octets)) (oid_of_text syntax) line e in
    subst IsWithin m.gives tt
record_within _ line e = absurd (none_some e)

field_within : (ws : List (List ℕ)) (line : Line) → field_line ws ≡ Some line → IsWithin line
field_within (attr ∷ text ∷ []) line e =
    let m = mapped (λ n. lines.Content (contents.Field (record { attr = pos n; text = text }))) (number_in 0 (2 ^ 63 - 1) attr) line e in
    subst IsWithin m.gives tt
field_within _ line e = absurd (none_some e)

ask_within : (ws : List (List ℕ)) (line : Line) → ask_line ws ≡ Some line → IsWithin line
ask_within (name ∷ database ∷ syntax ∷ want ∷ query ∷ []) line e =
    let c = chained
    (λ oid. option_map
    (λ ranges. lines.Ask (record { name = name; database = database; syntax = oid; wanted = ranges; text = query }))
    (wanted_of want))
    (syntax_of syntax) line e in
    let m = mapped
    (λ ranges. lines.Ask (record { name = name; database = database; syntax = c.from; wanted = ranges; text = query }))
    (wanted_of want) line c.gives in
    subst IsWithin m.gives (wanted_fits want m.from m.is, syntax_fits syntax c.from c.is)
ask_within _ line e = absurd (none_some e)

carry_within : (way : Way) (ws : List (List ℕ)) (line : Line) → carry_line way ws ≡ Some line → IsWithin line
carry_within way (name ∷ k ∷ []) line e =
    let m = mapped (λ n. lines.Carry way name n) (number_in 0 (2 ^ 32 - 1) k) line e in
    subst IsWithin m.gives tt
carry_within way _ line e = absurd (none_some e)

by_within : (key : Keyword) (ws : List (List ℕ)) (line : Line) → line_by key ws ≡ Some line → IsWithin line
by_within keys.Step ws line e = step_within ws line e
by_within keys.Window ws line e = window_within ws line e
by_within keys.Target ws line e = target_within ws line e
by_within keys.Host ws line e = host_within ws line e
by_within keys.Database ws line e = database_within ws line e
by_within keys.Record ws line e = record_within ws line e
by_within keys.Field ws line e = field_within ws line e
by_within keys.Ask ws line e = ask_within ws line e
by_within keys.To ws line e = carry_within ways.To ws line e
by_within keys.Release ws line e = carry_within ways.Release ws line e
by_within keys.From ws line e = carry_within ways.From ws line e

pub line_within : (ws : List (List ℕ)) (line : Line) → line_of ws ≡ Some line → IsWithin line
line_within [] line e = subst IsWithin (some_same lines.Empty line e) tt
line_within (word ∷ others) line e =
    let c = chained (λ key. line_by key others) (keyword_of word) line e in
    by_within c.from others line c.gives
