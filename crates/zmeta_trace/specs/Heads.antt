-- The head of a trace: what the search was given.
use Rattle.std.specs.Prelude.{◌≡◌, ℕ, ◌+◌, ◌-◌, ◌==◌, Bool, true, false, if◌then◌else◌, List, [], ◌∷◌, length, map, Option, Some, None, is_some, Result, Ok, Err}
use Rattle.std.specs.Borrow.{Bor}
use Rattle.std.specs.Option.{option_map, option_and_then}
use Rattle.zoom_asking.specs.declared.inquiry.Manner.{Manner}
use Rattle.zoom_trace.specs.declared.entry.Given.{Given}
use Rattle.zoom_trace.specs.declared.entry.Given.TheVariants as givens
use Rattle.zoom_trace.specs.declared.entry.Traced.{Traced}
use Rattle.zoom_trace.specs.declared.entry.Traced.TheVariants as traced
use Rattle.zoom_trace.specs.declared.entry.TraceEntry.{TraceEntry}
use Rattle.zoom_trace.specs.declared.fault.TraceError.{TraceError}
use Rattle.zoom_trace.specs.declared.fault.TraceError.TheVariants as errors
use Rattle.zmeta_world.specs.Search.{SearchTexts, search_texts}
use Rattle.zmeta_trace.specs.declared.parts.Part.{Part}
use Rattle.zmeta_trace.specs.declared.parts.Part.TheVariants as parts
use Rattle.zmeta_trace.specs.declared.parts.Measure.{Measure}
use Rattle.zmeta_trace.specs.declared.parts.Measure.TheVariants as measures
use Rattle.zmeta_trace.specs.declared.head.Begun.{Begun}
use Rattle.zmeta_trace.specs.declared.head.Head.{Head}

-- ---- the parts of an entry

-- the octets that are given for a part, if it is that one
abbrev pub text_of : Part → Given → Option (List ℕ)
text_of parts.World (givens.World octets) = Some octets
text_of parts.Query (givens.Query octets) = Some octets
text_of parts.Records (givens.Records octets) = Some octets
text_of parts.Elements (givens.Elements octets) = Some octets
text_of parts.Syntax (givens.Syntax octets) = Some octets
text_of parts.Only (givens.Only octets) = Some octets
text_of _ _ = None

-- the number that is given for a measure, if it is that one
abbrev pub number_of : Measure → Given → Option ℕ
number_of measures.Version (givens.Version number) = Some number
number_of measures.Connect (givens.Connect number) = Some number
number_of measures.Patience (givens.Patience number) = Some number
number_of measures.Total (givens.Total number) = Some number
number_of _ _ = None

-- the manner that is given, if it is a manner
abbrev pub manner_of : Given → Option Manner
manner_of (givens.Manner manner) = Some manner
manner_of _ = None

-- what was given, if that is told
abbrev pub given_of : Traced → Option Given
given_of (traced.Began given) = Some given
given_of _ = None

-- ---- the first of the entries that are left

-- what it tells that was given
abbrev pub first_given : List TraceEntry → Option Given
first_given [] = None
first_given (e ∷ es) = given_of e.what

-- the octets that it gives for a part
abbrev pub first_text : Part → List TraceEntry → Option (List ℕ)
first_text part es = option_and_then (text_of part) (first_given es)

-- the number that it gives for a measure
abbrev pub first_number : Measure → List TraceEntry → Option ℕ
first_number measure es = option_and_then (number_of measure) (first_given es)

-- a time and a manner
abbrev pub at_time : ℕ → Manner → ℕ × Manner
at_time at manner = (at, manner)

-- its time and the manner that it gives
abbrev pub first_manner : List TraceEntry → Option (ℕ × Manner)
first_manner [] = None
first_manner (e ∷ es) = option_map (at_time e.at) (option_and_then manner_of (given_of e.what))

-- the entries behind it, if it was read
abbrev pub behind : Bool → List TraceEntry → List TraceEntry
behind false es = es
behind true [] = []
behind true (e ∷ es) = es

abbrev pub behind_text : Part → List TraceEntry → List TraceEntry
behind_text part es = behind (is_some (first_text part es)) es

abbrev pub behind_number : Measure → List TraceEntry → List TraceEntry
behind_number measure es = behind (is_some (first_number measure es)) es

abbrev pub behind_manner : List TraceEntry → List TraceEntry
behind_manner es = behind (is_some (first_manner es)) es

-- ---- what a search was given

-- what a search was given: the world file, what is put to every question, and the names that were chosen; then how and
-- from when on hosts are talked with, and for how long
pub record HeadTexts : Type 0 where
  pub world : List ℕ
  pub search : SearchTexts
  pub only : List (List ℕ)
  pub begun : Begun

-- the same, of a head that was read
abbrev pub head_texts : Head → HeadTexts
head_texts h = record {
  world = h.world.now;
  search = search_texts h.search;
  only = map (λ (name : Bor (List ℕ)). name.now) h.only.items;
  begun = h.begun;
}

-- ---- how it is read: each step gives what was read, and the entries that are left

-- the number is that of the format
abbrev pub is_version : Option ℕ → Bool
is_version None = false
is_version (Some number) = number == 1

-- what is put to every question
abbrev pub search_in : List TraceEntry → SearchTexts
search_in es =
    let second = behind_text parts.Query es in
    let third = behind_text parts.Records second in
    let fourth = behind_text parts.Elements third in
    record {
      query = first_text parts.Query es;
      records = first_text parts.Records second;
      elements = first_text parts.Elements third;
      syntax = first_text parts.Syntax fourth;
    }

abbrev pub behind_search : List TraceEntry → List TraceEntry
behind_search es =
    behind_text parts.Syntax (behind_text parts.Elements (behind_text parts.Records (behind_text parts.Query es)))

-- the name, if there is one, and the others
abbrev pub with_name : Option (List ℕ) → List (List ℕ) → List (List ℕ)
with_name None others = []
with_name (Some name) others = name ∷ others

-- the names that were chosen
abbrev pub names_in : List TraceEntry → List (List ℕ)
names_in [] = []
names_in (e ∷ es) = with_name (first_text parts.Only (e ∷ es)) (names_in es)

abbrev pub behind_names : List TraceEntry → List TraceEntry
behind_names [] = []
behind_names (e ∷ es) = if is_some (first_text parts.Only (e ∷ es)) then behind_names es else e ∷ es

-- how the hosts are talked with, once all but the last limit is read
abbrev pub begun_with : ℕ × Manner → ℕ → ℕ → List TraceEntry → Begun
begun_with m connect patience es = record {
  start = m.0;
  manner = m.1;
  connect = connect;
  patience = patience;
  total = first_number measures.Total es;
}

abbrev pub with_patience : ℕ × Manner → ℕ → Option ℕ → List TraceEntry → Option Begun × List TraceEntry
with_patience m connect None es = (None, es)
with_patience m connect (Some patience) es =
    (Some (begun_with m connect patience (behind true es)), behind_number measures.Total (behind true es))

abbrev pub with_connect : ℕ × Manner → Option ℕ → List TraceEntry → Option Begun × List TraceEntry
with_connect m None es = (None, es)
with_connect m (Some connect) es =
    with_patience m connect (first_number measures.Patience (behind true es)) (behind true es)

abbrev pub with_manner : Option (ℕ × Manner) → List TraceEntry → Option Begun × List TraceEntry
with_manner None es = (None, es)
with_manner (Some m) es = with_connect m (first_number measures.Connect (behind true es)) (behind true es)

-- how the hosts are talked with
unfoldable pub begun_in : List TraceEntry → Option Begun × List TraceEntry
begun_in es = with_manner (first_manner es) es

-- the head, if nothing more was given
abbrev pub ended : Bool → HeadTexts → List TraceEntry → Option HeadTexts × List TraceEntry
ended false h es = (Some h, es)
ended true h es = (None, es)

abbrev pub with_begun
    : List ℕ → SearchTexts → List (List ℕ) → Option Begun → List TraceEntry → Option HeadTexts × List TraceEntry
with_begun world search only None es = (None, es)
with_begun world search only (Some begun) es = ended (is_some (first_given es))
    (record { world = world; search = search; only = only; begun = begun }) es

abbrev pub with_world : Option (List ℕ) → List TraceEntry → Option HeadTexts × List TraceEntry
with_world None es = (None, es)
with_world (Some world) es =
    let search = behind true es in
    let names = behind_search search in
    let begun = begun_in (behind_names names) in
    with_begun world (search_in search) (names_in names) begun.0 begun.1

abbrev pub with_version : Bool → List TraceEntry → Option HeadTexts × List TraceEntry
with_version false es = (None, es)
with_version true es = with_world (first_text parts.World (behind true es)) (behind true es)

-- the head of a trace, if it has one, and the entries behind it; else those from the first on that is out of place
unfoldable pub head_in : List TraceEntry → Option HeadTexts × List TraceEntry
head_in es = with_version (is_version (first_number measures.Version es)) es

-- the number, from 1, of the first entry that is left
abbrev pub number_at : List TraceEntry → List TraceEntry → ℕ
number_at es rest = length es - length rest + 1

-- the head was read; or the entry of this number, from 1, is the first out of place, or misses
abbrev pub HeadResult : List TraceEntry → Result Head TraceError → Type 0
HeadResult es (Ok h) = (rest : List TraceEntry) × (head_in es ≡ (Some (head_texts h), rest))
HeadResult es (Err (errors.Refused number)) =
    (rest : List TraceEntry) × (head_in es ≡ (None, rest)) × (number ≡ number_at es rest)
HeadResult es (Err errors.Memory) = Unit {0}
