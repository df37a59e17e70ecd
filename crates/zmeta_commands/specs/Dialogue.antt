-- What `show --trace` prints and reports for a trace, and how it ends.
use Rattle.std.specs.Prelude.{◌≡◌, ◌⊎◌, ℕ, Bool, List, length, map, Option, Result, Ok, Err, IfSome, IfErr}
use Rattle.zmeta_devices.specs.Devices.{Device, Outputs, HasGained, HasStopped, AfterEnd}
use Rattle.zmeta_devices.specs.Faults.{as_done}
use Rattle.zmeta_devices.specs.declared.fault.Fault.{Fault}
use Rattle.zmeta_devices.specs.declared.fault.Fault.TheVariants.{Read, Write, Line, NoQuestion, Memory}
use Rattle.zmeta_devices.specs.declared.fault.Status.{Status}
use Rattle.zmeta_offline.specs.Names.{is_picked, AreAllKnown, IsFirstUnknown}
use Rattle.zmeta_trace.specs.Dialogue.{IsDialogue, IsFirstOutside}
use Rattle.zmeta_trace.specs.Heads.{HeadTexts}
use Rattle.zmeta_world.specs.declared.network.NetworkRun.{NetworkRun}
use Rattle.zoom.specs.Trace.{Trace}
use Rattle.zoom.specs.TraceEntry.{TraceEntry}
use Rattle.zoom.specs.Traces.{IsTrace, IsRefusedAt}
use Rattle.zmeta_commands.specs.Replay.{IsSearchOf, IsChoice, HasNoChoice, IsHeadRefused, HasNoSearch}

-- ---- the text

-- whether each catalogue is shown: its name is chosen, or none is
abbrev pub are_shown : List (List ℕ) → List (List ℕ) → List Bool
are_shown only names = map (is_picked only) names

-- an entry of this number speaks of a connection that is not there, or no memory was found
abbrev pub IsOutside : List (List ℕ) → List TraceEntry → Fault → Type 0
IsOutside names es (Line number) = IsFirstOutside (length names) es number
IsOutside names es Memory = Unit {0}
IsOutside names es _ = ⊥

-- The dialogue of a trace with this head, whose world has this plan: the lines of its entries, with the catalogues of
-- these names, or with all if there are none. Each name is a catalogue's.
pub record IsDialogueBy (only : List (List ℕ)) (trace : Trace) (h : HeadTexts) (e : NetworkRun) (text : List ℕ)
    : Type 0 where
  pub known : AreAllKnown only e.names
  pub chosen : List (Option (List ℕ))
  pub choice : IsChoice h e chosen
  pub dialogue : IsDialogue e.names (are_shown only e.names) trace.entries.items text

-- an entry speaks of a connection that is not there, or a name of the head is no catalogue's
abbrev pub IsEntryUnshown : Trace → HeadTexts → NetworkRun → ℕ → Type 0
IsEntryUnshown trace h e number =
    ((number ≡ 2) × HasNoChoice h.only e.names) ⊎ IsFirstOutside (length e.names) trace.entries.items number

-- why there is no dialogue of such a trace
abbrev pub IsUnshownBy : List (List ℕ) → Trace → HeadTexts → NetworkRun → Fault → Type 0
IsUnshownBy only trace h e (Line number) = IsEntryUnshown trace h e number
IsUnshownBy only trace h e (NoQuestion unknown) = IsFirstUnknown only e.names unknown.now
IsUnshownBy only trace h e Memory = Unit {0}
IsUnshownBy only trace h e _ = ⊥

-- the dialogue of a trace, by its head
abbrev pub IsDialogueOf : List (List ℕ) → Trace → List ℕ → Type 0
IsDialogueOf only trace text =
    (h : HeadTexts) × (e : NetworkRun) × IsSearchOf trace h e × IsDialogueBy only trace h e text

-- why there is no dialogue of a trace that has a head
abbrev pub IsUnshownOf : List (List ℕ) → Trace → Fault → Type 0
IsUnshownOf only trace f = (h : HeadTexts) × (e : NetworkRun) × IsSearchOf trace h e × IsUnshownBy only trace h e f

-- the line is refused: in the head, with the world file, or behind
abbrev pub IsTraceUnshown : List (List ℕ) → Trace → Fault → Type 0
IsTraceUnshown only trace (Line number) =
    IsHeadRefused trace number ⊎ HasNoSearch trace number ⊎ IsUnshownOf only trace (Line number)
IsTraceUnshown only trace Memory = Unit {0}
IsTraceUnshown only trace f = IsUnshownOf only trace f

-- the dialogue of the trace of these octets
abbrev pub IsFileDialogue : List (List ℕ) → List ℕ → List ℕ → Type 0
IsFileDialogue only file text = (trace : Trace) × IsTrace file trace × IsDialogueOf only trace text

-- why there is no dialogue of the trace of these octets
abbrev pub IsFileUnshown : List (List ℕ) → List ℕ → Fault → Type 0
IsFileUnshown only file (Line number) =
    IsRefusedAt file number ⊎ ((trace : Trace) × IsTrace file trace × IsTraceUnshown only trace (Line number))
IsFileUnshown only file (Read path) = ⊥
IsFileUnshown only file Memory = Unit {0}
IsFileUnshown only file f = (trace : Trace) × IsTrace file trace × IsTraceUnshown only trace f

-- ---- the command

-- the whole text of the dialogue was written
abbrev pub HasShown : List (List ℕ) → List ℕ → Device → Device → Type 0
HasShown only file old new = (text : List ℕ) × IsFileDialogue only file text × HasGained old new text

-- the stream failed after a front of that text was written
abbrev pub HasShownInPart : List (List ℕ) → List ℕ → Device → Device → Type 0
HasShownInPart only file old new = (text : List ℕ) × IsFileDialogue only file text × HasStopped old new text

-- the dialogue was written; or why not, and then nothing was, unless the stream failed
abbrev pub ShowTraceResult : List (List ℕ) → List ℕ → Device → Device → Result (Unit {0}) Fault → Type 0
ShowTraceResult only file old new (Ok done) = HasShown only file old new
ShowTraceResult only file old new (Err (Write failed)) = HasShownInPart only file old new
ShowTraceResult only file old new (Err f) = IsFileUnshown only file f × (new ≡ old)

-- a fault of the text of the trace at a path: it cannot be read, a line is refused, no catalogue has a name, or no
-- memory was found
abbrev pub IsOfText : List ℕ → Fault → Type 0
IsOfText path (Read failed) = failed.now ≡ path
IsOfText path (Line number) = Unit {0}
IsOfText path (NoQuestion unknown) = Unit {0}
IsOfText path Memory = Unit {0}
IsOfText path _ = ⊥

-- the same, or the stream failed
abbrev pub IsOfShown : List ℕ → List ℕ → Fault → Type 0
IsOfShown path output (Write failed) = failed.now ≡ output
IsOfShown path output f = IsOfText path f

-- The streams and the status after `show --trace` of the trace at a path with these octets, if they are known.
abbrev pub AfterDialogue : List (List ℕ) → Option (List ℕ) → List ℕ → Outputs → Outputs → Status → Type 0
AfterDialogue only file path before after status =
    (result : Result (Unit {0}) Fault)
    × IfSome file (λ octets. ShowTraceResult only octets before.output after.output result)
    × IfErr result (IsOfShown path before.output.path)
    × AfterEnd (as_done result) before.errors after.errors status
