-- The entries that tell what a search was given.
use Rattle.std.specs.Prelude.{◌≡◌, ℕ, List, ◌∷◌, ◌++◌, map, Option, None, Some, option_to_list, option_map}
use Rattle.zoom_trace.specs.declared.entry.Given.{Given}
use Rattle.zoom_trace.specs.declared.entry.Given.TheVariants as givens
use Rattle.zoom_trace.specs.declared.entry.TraceEntry.{TraceEntry}
use Rattle.zoom_trace.specs.Recording.{began, opening}
use Rattle.zmeta_world.specs.Search.{SearchTexts}
use Rattle.zmeta_trace.specs.declared.head.Begun.{Begun}
use Rattle.zmeta_trace.specs.declared.parts.Part.{Part}
use Rattle.zmeta_trace.specs.declared.parts.Part.TheVariants as parts
use Rattle.zmeta_trace.specs.Heads.{HeadTexts, head_in, first_given}

-- octets that are given for a part
abbrev pub given_for : Part → List ℕ → Given
given_for parts.World octets = givens.World octets
given_for parts.Query octets = givens.Query octets
given_for parts.Records octets = givens.Records octets
given_for parts.Elements octets = givens.Elements octets
given_for parts.Syntax octets = givens.Syntax octets
given_for parts.Only octets = givens.Only octets

-- the entry of such octets; what is given before the search begins has the time 0
abbrev pub text_entry : Part → List ℕ → TraceEntry
text_entry part octets = began 0 (given_for part octets)

-- the same, if there are any
abbrev pub text_entries : Part → Option (List ℕ) → List TraceEntry
text_entries part text = option_to_list (option_map (text_entry part) text)

-- what is put to every question
abbrev pub search_entries : SearchTexts → List TraceEntry
search_entries s = text_entries parts.Query s.query ++ (text_entries parts.Records s.records
    ++ (text_entries parts.Elements s.elements ++ text_entries parts.Syntax s.syntax))

-- the names that were chosen
abbrev pub name_entries : List (List ℕ) → List TraceEntry
name_entries only = map (text_entry parts.Only) only

-- what a search was given: the version of the format, the world file, what is put to every question, and the names that
-- were chosen
abbrev pub given_entries : List ℕ → SearchTexts → List (List ℕ) → List TraceEntry
given_entries world search only =
    began 0 (givens.Version 1) ∷ text_entry parts.World world ∷ (search_entries search ++ name_entries only)

-- how hosts are talked with, from when on, and for how long
abbrev pub begun_entries : Begun → List TraceEntry
begun_entries b =
    opening b.start b.manner (record { connect = b.connect; patience = b.patience }) b.total

-- the whole head
abbrev pub head_entries : HeadTexts → List TraceEntry
head_entries h = given_entries h.world h.search h.only ++ begun_entries h.begun

-- the head of entries that begin so is that head, if what follows tells nothing more that was given
abbrev pub HeadLaw : Type 0
HeadLaw =
    (h : HeadTexts) (rest : List TraceEntry) → first_given rest ≡ None
    → head_in (head_entries h ++ rest) ≡ (Some h, rest)

-- entries that begin with a head that limits all have no other head, whatever follows
abbrev pub OneHeadLaw : Type 0
OneHeadLaw =
    (h k : HeadTexts) (total : ℕ) (rest others : List TraceEntry) → h.begun.total ≡ Some total
    → head_in (head_entries h ++ rest) ≡ (Some k, others) → k ≡ h
