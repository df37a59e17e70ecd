-- The lines of an entry, as they are appended.
use Rattle.std.specs.Prelude.{◌≡◌, ℕ, Bool, true, false, List, ◌++◌, length}
use Rattle.zoom_trace.specs.declared.entry.Traced.{Traced}
use Rattle.zoom_trace.specs.declared.entry.TraceEntry.{TraceEntry}
use Rattle.zoom_trace.specs.Replays.{is_within}
use Rattle.zmeta_trace.specs.declared.dialogue.Talk.{Talk}
use Rattle.zmeta_trace.specs.Dialogue.{TalkText, IsShownOn, EntryText}

-- the lines of what happened on a connection were appended
abbrev pub AfterTalk : ℕ → List ℕ → Traced → Talk → Talk → List ℕ → List ℕ → Type 0
AfterTalk at name what before after old new =
    (text : List ℕ) × TalkText at name what before after text × (new ≡ old ++ text)

-- the lines of an entry of connection c were appended
abbrev pub AfterEntryOn
    : List (List ℕ) → List Bool → ℕ → TraceEntry → List Talk → List Talk → List ℕ → List ℕ → Type 0
AfterEntryOn names chosen c e before after old new =
    (text : List ℕ) × IsShownOn names chosen c e before after text × (new ≡ old ++ text)
    × (length after ≡ length before)

-- the lines of an entry were appended, and no connection more is there
abbrev pub AfterEntry : List (List ℕ) → List Bool → TraceEntry → List Talk → List Talk → List ℕ → List ℕ → Type 0
AfterEntry names chosen e before after old new =
    (text : List ℕ) × EntryText names chosen e before after text × (new ≡ old ++ text)
    × (length after ≡ length before)

-- the lines of an entry were appended; or it speaks of a connection that is not there
abbrev pub PutEntryResult
    : List (List ℕ) → List Bool → TraceEntry → List Talk → List Talk → List ℕ → List ℕ → Bool → Type 0
PutEntryResult names chosen e before after old new true =
    AfterEntry names chosen e before after old new × (is_within (length names) e ≡ true)
PutEntryResult names chosen e before after old new false = is_within (length names) e ≡ false
