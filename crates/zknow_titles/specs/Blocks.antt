-- The head of the view: a line for each target's set of which something is known.
use Rattle.std.specs.Prelude.{ℕ, ℤ, pos, ◌==◌, ◌&&◌, not, Bool, if◌then◌else◌, unwrap_or, List, [], ◌∷◌, ◌++◌, codes, length, map}
use Rattle.std.specs.List.{flat_map, list_any, count_by}
use Rattle.std.specs.BTreeMap.{is_at}
use Rattle.std.specs.Map.{lookup}
use Rattle.std.specs.Fmt.{decimal, signed_decimal}
use Rattle.std.specs.Ordering.{int_eq}
use Rattle.zapdu.specs.declared.productions.diagnostic.DiagRec.{DiagRec}
use Rattle.zknow.specs.declared.fact.Fact.{Fact}
use Rattle.zknow.specs.declared.tables.keys.SetKey.{SetKey}
use Rattle.zknow.specs.Known.{counts_at, records_at, is_failed_at, diags_at}
use Rattle.zknow.specs.List.Listing.{positions_at}
use Rattle.zknow.specs.Tables.Keys.{set_cmp}
use Rattle.zknow_titles.specs.declared.filled.Filled.{Filled}
use Rattle.zknow_titles.specs.declared.filled.Filled.TheVariants.{Known, Told}
use Rattle.zknow_titles.specs.Diagnostics.{diag_words}
use Rattle.zknow_titles.specs.Entries.{is_shown}
use Rattle.zknow_titles.specs.Names.{label}

-- the texts, each behind a separator
abbrev pub joined_behind : List ℕ → List (List ℕ) → List ℕ
joined_behind separator texts = flat_map (λ t. separator ++ t) texts

-- the texts with a separator between each two
abbrev pub joined_by : List ℕ → List (List ℕ) → List ℕ
joined_by separator [] = []
joined_by separator (t ∷ texts) = t ++ joined_behind separator texts

-- a record is shown at a position of a set: one of several, if there are several
abbrev pub is_shown_at : List Fact → ℕ → ℕ → ℤ → Bool
is_shown_at facts target set position = list_any is_shown (records_at target set position facts)

-- at how many positions of a set
abbrev pub shown_count : List Fact → ℕ → ℕ → ℕ
shown_count facts target set = count_by (is_shown_at facts target set) (positions_at target set facts)

-- `24 found, 2 shown`, `24 or 25 found, 2 shown`
abbrev pub count_text : ℕ → List ℤ → List ℕ
count_text shown counts =
    joined_by (codes " or ") (map signed_decimal counts) ++ codes " found, " ++ decimal shown ++ codes " shown"

-- that, where a count is known
abbrev pub count_part : ℕ → List ℤ → List (List ℕ)
count_part shown counts = if length counts == 0 then [] else count_text shown counts ∷ []

-- diagnostics in words, behind a colon
abbrev pub behind_colon : List (List ℕ) → List ℕ
behind_colon texts = if length texts == 0 then [] else codes ": " ++ joined_by (codes ", ") texts

-- what failed, the association of set 0 or else the search; or what diagnostics are of
abbrev pub heading : ℕ → Bool → List ℕ
heading set failed =
    if failed then (if set == 0 then codes "association refused" else codes "search refused") else codes "search"

-- the failure of a search and its diagnostics, where there is any of these
abbrev pub failure_part : ℕ → Bool → List (List ℕ) → List (List ℕ)
failure_part set failed texts =
    if not failed && length texts == 0 then [] else (heading set failed ++ behind_colon texts) ∷ []

-- a diagnostic of a search, in words
abbrev pub search_text : ℤ × DiagRec → List (List ℕ)
search_text d = if int_eq d.0 (pos 0) then diag_words d.1 ∷ [] else []

-- a diagnostic of a request for records: from which position on
abbrev pub request_text : ℤ × DiagRec → List (List ℕ)
request_text d =
    if int_eq d.0 (pos 0) then []
    else (codes "records from " ++ signed_decimal d.0 ++ codes ": " ++ diag_words d.1) ∷ []

-- at how many positions of a set a record is shown, by the facts
abbrev pub filled_in : List Fact → SetKey → ℕ
filled_in facts b = shown_count facts b.target b.set

-- the same, as a table says it; 0 if it has no entry
abbrev pub filled_at : List (SetKey × ℕ) → SetKey → ℕ
filled_at table b = unwrap_or (lookup (is_at (set_cmp b)) table) 0

-- by the facts, or by a table
abbrev pub filled_by : Filled → List Fact → SetKey → ℕ
filled_by Known facts b = filled_in facts b
filled_by (Told table) facts b = filled_at table.now.entries b

-- what is known of a set, if a record is shown at so many positions
abbrev pub block_parts : ℕ → List Fact → SetKey → List (List ℕ)
block_parts filled facts b =
    count_part filled (counts_at b.target b.set facts)
    ++ failure_part b.set (is_failed_at b.target b.set facts) (flat_map search_text (diags_at b.target b.set facts))
    ++ flat_map request_text (diags_at b.target b.set facts)

-- its line
abbrev pub block_line : (SetKey → ℕ) → List (List ℕ) → List Fact → SetKey → List ℕ
block_line filled shown facts b =
    label shown b.target b.set ++ codes ": " ++ joined_by (codes "; ") (block_parts (filled b) facts b)
