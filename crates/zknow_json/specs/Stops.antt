-- The lines of the catalogues whose connection stopped.
use Rattle.std.specs.Prelude.{ℕ, ◌+◌, Option, Some, None, List, [], ◌∷◌, ◌++◌, codes, slice_get}
use Rattle.std.specs.Str.Lossy.{utf8_lossy}
use Rattle.json.specs.Token.{Token}
use Rattle.zknow_stops.specs.declared.stop.Stop.{Stop}
use Rattle.zknow_stops.specs.Details.{detail_words}
use Rattle.zknow_json.specs.Members.{text_member, object, line}
use Rattle.zknow_json.specs.Sets.{catalogue_member}

-- the name of the reason, and what can be told of it; a reason that is UTF-8, as each `str`, stands as it is
unfoldable pub reason_members : Stop → List Token
reason_members s =
    text_member (codes "reason") (utf8_lossy s.reason.now) ++ text_member (codes "detail") (detail_words s.detail)

-- the line of a target that stopped
unfoldable pub stop_line : List (List ℕ) → ℕ → Stop → List ℕ
stop_line names target s =
    line (object (text_member (codes "type") (codes "stopped") ++ catalogue_member target (slice_get names target)
    ++ reason_members s))

-- that line, if the target stopped
abbrev pub stop_lines : List (List ℕ) → ℕ → Option Stop → List ℕ
stop_lines names target None = []
stop_lines names target (Some s) = stop_line names target s

-- the lines of this target and those after it, with their stops
abbrev pub lines_from : List (List ℕ) → ℕ → List (Option Stop) → List ℕ
lines_from names target [] = []
lines_from names target (s ∷ stops) = stop_lines names target s ++ lines_from names (target + 1) stops
