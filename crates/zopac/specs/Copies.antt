-- The lines of a record's copies, for people.
--
-- A copy has these parts with `; ` between them: its location and item, each volume, the public note, each item's
-- circulation. What is missing or empty is left out:
--
--     Main library, Reference: QA76 .H3, copy 2, v.3; not available, until 2026-12-01, on hold
use Rattle.std.specs.Prelude.{ℕ, ◌==◌, nat_eq, ◌||◌, Bool, if◌then◌else◌, Option, Some, None, List, [], ◌∷◌, ◌++◌, codes, length}
use Rattle.std.specs.Prelude.{map, All}
use Rattle.std.specs.List.{flat_map, starts_with}
use Rattle.zapdu.specs.declared.productions.external.Content.{Content}
use Rattle.zapdu.specs.declared.productions.external.Content.TheVariants.{Single, Aligned, Arbitrary}
use Rattle.zapdu.specs.declared.productions.external.External.{External}
use Rattle.zmarc.specs.declared.format.Format.TheVariants.{Marc21}
use Rattle.zmarc.specs.Briefs.{brief, read_in}
use Rattle.zmarc.specs.Shown.{IsSafeText}
use Rattle.zopac.specs.declared.circulation.Circulation.{Circulation}
use Rattle.zopac.specs.declared.holding.Holding.{Holding}
use Rattle.zopac.specs.declared.holding.Holding.TheVariants.{Marc, Copy}
use Rattle.zopac.specs.declared.holdings.HoldingsAndCirc.{HoldingsAndCirc}
use Rattle.zopac.specs.declared.opac.OpacRecord.{OpacRecord}
use Rattle.zopac.specs.declared.volume.Volume.{Volume}
use Rattle.zopac.specs.Joined.{shown, labelled, joined}

-- where the copy stands: the library or its branch, the collection or the room, the library's code
abbrev pub location : HoldingsAndCirc → List ℕ
location c = joined (codes ", ") (shown c.local_location ∷ shown c.shelving_location ∷ shown c.nuc_code ∷ [])

-- the number of a copy begins with the word `copy`, as some catalogues send it
abbrev pub is_worded : List ℕ → Bool
is_worded number =
    starts_with nat_eq number (codes "copy") || starts_with nat_eq number (codes "Copy")
    || starts_with nat_eq number (codes "COPY")

-- the word before the number of a copy
abbrev pub copy_word : Option (List ℕ) → List ℕ
copy_word None = codes "copy "
copy_word (Some number) = if is_worded number then [] else codes "copy "

-- which copy it is: its call number, its number, and which volumes it has
abbrev pub item : HoldingsAndCirc → List ℕ
item c =
    joined (codes ", ")
    (shown c.call_number ∷ labelled (copy_word c.copy_number) (shown c.copy_number)
    ∷ shown c.enumeration_and_chronology ∷ [])

-- both
abbrev pub head : HoldingsAndCirc → List ℕ
head c = joined (codes ": ") (location c ∷ item c ∷ [])

-- a volume: its number, its date, and both in one text
abbrev pub volume_text : Volume → List ℕ
volume_text v =
    joined (codes ", ") (shown v.enumeration ∷ shown v.chronology ∷ shown v.enumeration_and_chronology ∷ [])

-- volumes in order
abbrev pub volume_texts : Option (List Volume) → List (List ℕ)
volume_texts None = []
volume_texts (Some volumes) = map volume_text volumes

-- whether an item is available now
abbrev pub availability : Bool → List ℕ
availability now = if now then codes "available" else codes "not available"

-- when an item will be available, where it is not available now
abbrev pub until : Bool → Option (List ℕ) → List ℕ
until now date = if now then [] else labelled (codes "until ") (shown date)

-- whether somebody has reserved an item
abbrev pub hold : Bool → List ℕ
hold reserved = if reserved then codes "on hold" else []

-- whether an item is available, and when
abbrev pub state : Circulation → List ℕ
state r =
    joined (codes ", ")
    (availability r.available_now ∷ until r.available_now r.availability_date ∷ hold r.on_hold ∷ [])

-- the same behind which item it is, where that is said
abbrev pub circulation_text : Circulation → List ℕ
circulation_text r = joined (codes ": ") (shown r.enumeration_and_chronology ∷ state r ∷ [])

-- items in order
abbrev pub circulation_texts : Option (List Circulation) → List (List ℕ)
circulation_texts None = []
circulation_texts (Some circulations) = map circulation_text circulations

-- the parts of a copy's line
abbrev pub copy_parts : HoldingsAndCirc → List (List ℕ)
copy_parts c = head c ∷ (volume_texts c.volumes ++ shown c.public_note ∷ circulation_texts c.circulations)

-- a line, or words for a copy of which nothing is said
abbrev pub described : List ℕ → List ℕ
described line = if length line == 0 then codes "copy without details" else line

-- the line of a copy
unfoldable pub copy_line : HoldingsAndCirc → List ℕ
copy_line c = described (joined (codes "; ") (copy_parts c))

-- the line of a record of MARC, where the content is octets
abbrev pub brief_of : Content → List ℕ
brief_of (Single e) = []
brief_of (Aligned octets) = brief (read_in Marc21 None) octets
brief_of (Arbitrary bits) = []

-- the line of a record of MARC for holdings: that it is one, and what is shown of it
unfoldable pub marc_line : External → List ℕ
marc_line v = joined (codes ": ") (codes "MARC holdings record" ∷ brief_of v.content ∷ [])

-- the line of what is said of a copy
abbrev pub holding_line : Holding → List ℕ
holding_line (Marc v) = marc_line v
holding_line (Copy c) = copy_line c

-- the holdings, none where the record has no such part
abbrev pub holdings_of : Option (List Holding) → List Holding
holdings_of None = []
holdings_of (Some holdings) = holdings

-- the lines of a record's copies, in order
abbrev pub copy_lines : OpacRecord → List (List ℕ)
copy_lines r = map holding_line (holdings_of r.holdings)

-- lines, each with its line feed
abbrev pub ended : List (List ℕ) → List ℕ
ended lines = flat_map (λ l. l ++ codes "\n") lines

-- lines of safe text: no control character, so no line feed, in any of them
abbrev pub AreSafe : List (List ℕ) → Type 0
AreSafe lines = All IsSafeText lines
