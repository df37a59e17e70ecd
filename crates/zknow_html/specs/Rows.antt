-- The rows of the page as texts: of each row its class, and what its cells show.
use Rattle.std.specs.Prelude.{ℕ, ◌+◌, ◌==◌, ℤ, pos, int_lt, if◌then◌else◌, Option, Some, None, List, [], ◌∷◌, ◌++◌}
use Rattle.std.specs.Prelude.{codes, length, map, slice_get}
use Rattle.std.specs.Fmt.{decimal, signed_decimal}
use Rattle.std.specs.List.{flat_map}
use Rattle.zhtml.specs.Tables.{RowText}
use Rattle.zhtml.specs.Texts.{visible}
use Rattle.zknow.specs.declared.fact.Fact.{Fact}
use Rattle.zknow.specs.declared.tables.keys.RowKey.{RowKey}
use Rattle.zknow.specs.declared.tables.keys.SetKey.{SetKey}
use Rattle.zknow.specs.Known.{counts_at, is_failed_at, diags_at}
use Rattle.zmarc.specs.declared.charset.Charset.{Charset}
use Rattle.zknow_stops.specs.declared.stop.Stop.{Stop}
use Rattle.zknow_titles.specs.Blocks.{shown_count}
use Rattle.zknow_titles.specs.Heads.{stop_words}
use Rattle.zknow_titles.specs.Names.{name_or_number, label}
use Rattle.zknow_titles.specs.Titles.{sets_of, rows_of}
use Rattle.zknow_html.specs.declared.differences.Differences.{Differences}
use Rattle.zknow_html.specs.Catalogues.{found_text, refused_count, missing_text, share_text, reasons}
use Rattle.zknow_html.specs.Differences.{DescriptionTexts, differences}
use Rattle.zknow_html.specs.Records.{one_of, descriptions_at}

-- ---- catalogues

-- what the bar of a share shows
abbrev pub share_words : ℕ → List ℤ → List ℕ
share_words shown [] = []
share_words shown (c ∷ []) = if int_lt (pos 0) c then visible (share_text shown c) else []
share_words shown (c ∷ d ∷ counts) = []

-- the texts of numbers
abbrev pub number_texts : List ℤ → ℕ → ℕ → List (List ℕ)
number_texts counts shown refused =
    visible (found_text counts) ∷ visible (decimal shown) ∷ visible (decimal refused)
    ∷ visible (missing_text shown refused counts) ∷ share_words shown counts ∷ []

-- a set, by what is known of it
abbrev pub known_text : List ℕ → List ℤ → ℕ → ℕ → List (List ℕ) → RowText
known_text name counts shown refused why =
    (codes "catalogue", visible name ∷ number_texts counts shown refused ++ flat_map visible why ∷ [])

-- a set
abbrev pub set_text : List (List ℕ) → List Fact → SetKey → RowText
set_text shown facts b =
    known_text (label shown b.target b.set) (counts_at b.target b.set facts) (shown_count facts b.target b.set)
    (refused_count facts b.target b.set)
    (reasons b.set (is_failed_at b.target b.set facts) (diags_at b.target b.set facts))

-- a catalogue whose connection stopped
abbrev pub stop_text : List (List ℕ) → ℕ → Stop → RowText
stop_text shown target s = (
  codes "stopped",
  visible (name_or_number target (slice_get shown target)) ∷ visible [] ∷ visible [] ∷ visible []
      ∷ visible [] ∷ visible [] ∷ visible (stop_words s.detail) ∷ [],
)

-- the same, if it stopped
abbrev pub stop_texts : List (List ℕ) → ℕ → Option Stop → List RowText
stop_texts shown target None = []
stop_texts shown target (Some s) = stop_text shown target s ∷ []

-- of this catalogue and those after it
abbrev pub stop_texts_from : List (List ℕ) → ℕ → List (Option Stop) → List RowText
stop_texts_from shown target [] = []
stop_texts_from shown target (s ∷ stops) = stop_texts shown target s ++ stop_texts_from shown (target + 1) stops

-- ---- records

-- what is marked
abbrev pub mark_text : List ℕ → List ℕ
mark_text octets = if length octets == 0 then [] else visible octets

-- a line, with the line feed that ends it
abbrev pub line_text : List ℕ → List ℕ
line_text octets = visible octets ++ codes "\n"

-- what a reader opens, and the lines behind it
abbrev pub hidden_text : List ℕ → List (List ℕ) → List ℕ
hidden_text title texts = if length texts == 0 then [] else visible title ++ flat_map line_text texts

-- the texts of what is shown of a record
abbrev pub description_texts : DescriptionTexts → List (List ℕ)
description_texts d =
    visible d.year ∷ (visible d.title ++ hidden_text (codes "Fields") d.lines) ∷ visible d.author ∷ visible d.isbn
    ∷ flat_map visible d.copies ∷ []

-- a record: of a class, with a mark
abbrev pub record_text : List ℕ → List ℕ → List (List ℕ) → RowKey → DescriptionTexts → RowText
record_text class marked shown k d = (
  class,
  visible (signed_decimal k.position) ∷ (visible (label shown k.target k.set) ++ mark_text marked)
      ∷ description_texts d,
)

-- each of several records, with its mark
abbrev pub differing_texts : List (List ℕ) → RowKey → Differences → List DescriptionTexts → List RowText
differing_texts shown k parts ds = map (record_text (codes "differs") (one_of (length ds) parts) shown k) ds

-- Each record. Of several each has a mark, which says how many there are, and which of their texts are not all alike.
abbrev pub described_texts : List (List ℕ) → RowKey → List DescriptionTexts → List RowText
described_texts shown k [] = []
described_texts shown k (d ∷ []) = record_text (codes "record") [] shown k d ∷ []
described_texts shown k (d ∷ e ∷ rest) = differing_texts shown k (differences d (e ∷ rest)) (d ∷ e ∷ rest)

-- the records at a position of a set
abbrev pub position_texts : List (List ℕ) → List (Option Charset) → List Fact → RowKey → List RowText
position_texts shown charsets facts k = described_texts shown k (descriptions_at charsets facts k)

-- ---- the page

-- the catalogues
abbrev pub catalogue_texts : List (List ℕ) → List (Option Stop) → List Fact → List RowText
catalogue_texts shown stops facts = map (set_text shown facts) (sets_of facts) ++ stop_texts_from shown 0 stops

-- The rows of the page: a row for each set that has a line in the view of `zknow_titles`, one for each catalogue that
-- stopped, and one for each record in the rows of that view.
abbrev pub row_texts : List (List ℕ) → List (Option Charset) → List (Option Stop) → List Fact → List RowText
row_texts shown charsets stops facts =
    catalogue_texts shown stops facts ++ flat_map (position_texts shown charsets facts) (rows_of facts)

-- ---- the page of changes

-- The rows of the page of changes: one for each record that is new, changed and gone. No character set is known of
-- them.
abbrev pub change_texts : List (List ℕ) → List (List ℕ) → List Fact → List Fact → List Fact → List RowText
change_texts earlier later new changed gone =
    flat_map (position_texts later [] new) (rows_of new) ++ flat_map (position_texts later [] changed) (rows_of changed)
    ++ flat_map (position_texts earlier [] gone) (rows_of gone)
