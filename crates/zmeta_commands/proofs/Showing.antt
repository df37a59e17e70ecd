-- The dialogue of a trace, and why there is none.
use Rattle.std.proofs.Common.{◌≡◌, refl, sym, ◌∙◌, ap, subst, ℕ, List, [], length, Option, Some, None, Result, Ok, Err, IfSome, MatchResult, inl, inr}
use Rattle.zmeta_devices.specs.Devices.{Device, HasGained, HasStopped, PutFailure}
use Rattle.zmeta_devices.specs.declared.fault.Fault.{Fault}
use Rattle.zmeta_devices.specs.declared.fault.Fault.TheVariants.{Read, Write, Line, NoQuestion, Memory}
use Rattle.zmeta_offline.specs.Names.{AreAllKnown}
use Rattle.zmeta_trace.specs.Dialogue.{IsDialogue}
use Rattle.zmeta_trace.specs.Heads.{HeadTexts, head_in}
use Rattle.zmeta_world.specs.declared.network.NetworkRun.{NetworkRun}
use Rattle.zoom.specs.Trace.{Trace}
use Rattle.zoom.specs.TraceEntry.{TraceEntry}
use Rattle.zoom.specs.Traces.{IsTrace}
use Rattle.zmeta_commands.specs.Dialogue.{are_shown, IsOutside, IsDialogueBy, IsUnshownBy, IsDialogueOf, IsTraceUnshown, IsFileDialogue, IsFileUnshown, IsOfText, ShowTraceResult, IsOfShown}
use Rattle.zmeta_commands.specs.Finished.{IsOfFile}
use Rattle.zmeta_commands.specs.Replay.{HeadNetworkResult, ChosenResult, IsChoice, TraceFileResult}

-- ---- the plan of a head

-- no addresses were chosen
pub head_unchosen : (only : List (List ℕ)) (trace : Trace) (h : HeadTexts) (e : NetworkRun) (f : Fault)
    → ChosenResult h.only e.names e.addresses (Err f) → IsUnshownBy only trace h e f
head_unchosen only trace h e (Line number) is = inl is
head_unchosen only trace h e Memory is = tt
head_unchosen only trace h e f is = absurd is

pub unshown_by : (only : List (List ℕ)) (trace : Trace) (h : HeadTexts) (e : NetworkRun) (f : Fault)
    → IsOutside e.names trace.entries.items f → IsUnshownBy only trace h e f
unshown_by only trace h e (Line number) is = inr is
unshown_by only trace h e Memory is = tt
unshown_by only trace h e f is = absurd is

-- the text, or why there is none
pub by_plan : {A : Type 0} (items : A → List ℕ) (only : List (List ℕ)) (trace : Trace) (h : HeadTexts) (e : NetworkRun)
    (names : List (List ℕ)) (chosen : List (Option (List ℕ))) (result : Result A Fault) → names ≡ e.names
    → ChosenResult h.only e.names e.addresses (Ok chosen) → AreAllKnown only names
    → MatchResult result (λ text. IsDialogue names (are_shown only names) trace.entries.items (items text))
    (IsOutside names trace.entries.items)
    → MatchResult result (λ text. IsDialogueBy only trace h e (items text)) (IsUnshownBy only trace h e)
by_plan items only trace h e names chosen (Ok text) same choice known is = record {
  known = subst (AreAllKnown only) same known;
  chosen = chosen;
  choice = choice;
  dialogue = subst (λ (l : List (List ℕ)). IsDialogue l (are_shown only l) trace.entries.items (items text)) same is;
}
by_plan items only trace h e names chosen (Err f) same choice known is =
    unshown_by only trace h e f (subst (λ (l : List (List ℕ)). IsOutside l trace.entries.items f) same is)

-- ---- the trace

shown_of : (only : List (List ℕ)) (trace : Trace) (h : HeadTexts) (rest : List TraceEntry) (e : NetworkRun)
    (text : List ℕ) → head_in trace.entries.items ≡ (Some h, rest) → HeadNetworkResult h (Ok e)
    → IsDialogueBy only trace h e text → IsDialogueOf only trace text
shown_of only trace h rest e text head from is = (h, e, record { rest = rest; head = head; from = from }, is)

unshown_of : (only : List (List ℕ)) (trace : Trace) (h : HeadTexts) (rest : List TraceEntry) (e : NetworkRun)
    (f : Fault) → head_in trace.entries.items ≡ (Some h, rest) → HeadNetworkResult h (Ok e)
    → IsUnshownBy only trace h e f → IsTraceUnshown only trace f
unshown_of only trace h rest e (Line number) head from is =
    inr (inr (h, e, record { rest = rest; head = head; from = from }, is))
unshown_of only trace h rest e (NoQuestion unknown) head from is =
    (h, e, record { rest = rest; head = head; from = from }, is)
unshown_of only trace h rest e Memory head from is = tt
unshown_of only trace h rest e f head from is = absurd is

pub of_head : {A : Type 0} (items : A → List ℕ) (only : List (List ℕ)) (trace : Trace) (h : HeadTexts)
    (rest : List TraceEntry) (e : NetworkRun) (result : Result A Fault)
    → head_in trace.entries.items ≡ (Some h, rest) → HeadNetworkResult h (Ok e)
    → MatchResult result (λ text. IsDialogueBy only trace h e (items text)) (IsUnshownBy only trace h e)
    → MatchResult result (λ text. IsDialogueOf only trace (items text)) (IsTraceUnshown only trace)
of_head items only trace h rest e (Ok text) head from is = shown_of only trace h rest e (items text) head from is
of_head items only trace h rest e (Err f) head from is = unshown_of only trace h rest e f head from is

pub unplanned_of : (only : List (List ℕ)) (trace : Trace) (h : HeadTexts) (rest : List TraceEntry) (f : Fault)
    → head_in trace.entries.items ≡ (Some h, rest) → HeadNetworkResult h (Err f) → IsTraceUnshown only trace f
unplanned_of only trace h rest (Line number) head is = inr (inl (h, rest, head, is.0, is.1))
unplanned_of only trace h rest Memory head is = tt
unplanned_of only trace h rest f head is = absurd is

-- ---- the file

unshown_in : (only : List (List ℕ)) (octets : List ℕ) (trace : Trace) (f : Fault) → IsTrace octets trace
    → IsTraceUnshown only trace f → IsFileUnshown only octets f
unshown_in only octets trace (Line number) read is = inr (trace, read, is)
unshown_in only octets trace (NoQuestion unknown) read is = (trace, read, is)
unshown_in only octets trace Memory read is = tt
unshown_in only octets trace f read is = absurd is.3

text_in : {A : Type 0} (items : A → List ℕ) (only : List (List ℕ)) (octets : List ℕ) (trace : Trace)
    (result : Result A Fault) → IsTrace octets trace
    → MatchResult result (λ text. IsDialogueOf only trace (items text)) (IsTraceUnshown only trace)
    → MatchResult result (λ text. IsFileDialogue only octets (items text)) (IsFileUnshown only octets)
text_in items only octets trace (Ok text) read is = (trace, read, is)
text_in items only octets trace (Err f) read is = unshown_in only octets trace f read is

pub file_text : {A : Type 0} (items : A → List ℕ) (only : List (List ℕ)) (file : Option (List ℕ)) (octets : List ℕ)
    (trace : Trace) (result : Result A Fault)
    → IfSome file (λ known. octets ≡ known) → IsTrace octets trace
    → MatchResult result (λ text. IsDialogueOf only trace (items text)) (IsTraceUnshown only trace)
    → IfSome file (λ known. MatchResult result (λ text. IsFileDialogue only known (items text))
    (IsFileUnshown only known))
file_text items only None octets trace result same read is = tt
file_text items only (Some known) octets trace result same read is =
    text_in items only known trace result (subst (λ (l : List ℕ). IsTrace l trace) same read) is

untraced_in : (only : List (List ℕ)) (octets : List ℕ) (f : Fault) → TraceFileResult octets (Err f)
    → IsFileUnshown only octets f
untraced_in only octets (Line number) is = inl is
untraced_in only octets Memory is = tt
untraced_in only octets f is = absurd is

pub untraced : (only : List (List ℕ)) (file : Option (List ℕ)) (octets : List ℕ) (f : Fault)
    → IfSome file (λ known. octets ≡ known) → TraceFileResult octets (Err f)
    → IfSome file (λ known. IsFileUnshown only known f)
untraced only None octets f same is = tt
untraced only (Some known) octets f same is =
    untraced_in only known f (subst (λ (l : List ℕ). TraceFileResult l (Err f)) same is)

pub unread : (only : List (List ℕ)) (path : List ℕ) (file : Option (List ℕ)) (f : Fault) → IsOfFile file path f
    → IfSome file (λ known. IsFileUnshown only known f)
unread only path None f of = tt
unread only path (Some known) (Read failed) of = let no = of.1 in absurd cc
unread only path (Some known) Memory of = tt
unread only path (Some known) f of = absurd of

-- ---- faults

pub of_file : (file : Option (List ℕ)) (path : List ℕ) (f : Fault) → IsOfFile file path f → IsOfText path f
of_file file path (Read failed) of = of.0
of_file file path Memory of = tt
of_file file path f of = absurd of

pub of_traced : (path octets : List ℕ) (f : Fault) → TraceFileResult octets (Err f) → IsOfText path f
of_traced path octets (Line number) is = tt
of_traced path octets Memory is = tt
of_traced path octets f is = absurd is

pub of_unshown : (path : List ℕ) (only : List (List ℕ)) (trace : Trace) (f : Fault) → IsTraceUnshown only trace f
    → IsOfText path f
of_unshown path only trace (Line number) is = tt
of_unshown path only trace (NoQuestion unknown) is = tt
of_unshown path only trace Memory is = tt
of_unshown path only trace f is = absurd is.3

pub of_text : (path output : List ℕ) (f : Fault) → IsOfText path f → IsOfShown path output f
of_text path output (Write failed) of = absurd of
of_text path output (Read failed) of = of
of_text path output (Line number) of = tt
of_text path output (NoQuestion unknown) of = tt
of_text path output Memory of = tt
of_text path output f of = absurd of

-- ---- the stream

put_in : (only : List (List ℕ)) (octets text : List ℕ) (old new : Device) (result : Result (Unit {0}) Fault)
    → IsFileDialogue only octets text → MatchResult result (λ _. HasGained old new text) (PutFailure old new text)
    → ShowTraceResult only octets old new result
put_in only octets text old new (Ok done) is put = (text, is, put)
put_in only octets text old new (Err (Write failed)) is put = (text, is, put.1)
put_in only octets text old new (Err f) is put = absurd put

pub put_shown : (only : List (List ℕ)) (file : Option (List ℕ)) (text : List ℕ) (old new : Device)
    (result : Result (Unit {0}) Fault) → IfSome file (λ octets. IsFileDialogue only octets text)
    → MatchResult result (λ _. HasGained old new text) (PutFailure old new text)
    → IfSome file (λ octets. ShowTraceResult only octets old new result)
put_shown only None text old new result is put = tt
put_shown only (Some octets) text old new result is put = put_in only octets text old new result is put

none_in : (path : List ℕ) (only : List (List ℕ)) (octets : List ℕ) (device : Device) (f : Fault) → IsOfText path f
    → IsFileUnshown only octets f → ShowTraceResult only octets device device (Err f)
none_in path only octets device (Write failed) of is = absurd of
none_in path only octets device (Read failed) of is = (is, refl)
none_in path only octets device (Line number) of is = (is, refl)
none_in path only octets device (NoQuestion unknown) of is = (is, refl)
none_in path only octets device Memory of is = (is, refl)
none_in path only octets device f of is = absurd of

pub none_shown : (path : List ℕ) (only : List (List ℕ)) (file : Option (List ℕ)) (device : Device) (f : Fault)
    → IsOfText path f → IfSome file (λ octets. IsFileUnshown only octets f)
    → IfSome file (λ octets. ShowTraceResult only octets device device (Err f))
none_shown path only None device f of is = tt
none_shown path only (Some octets) device f of is = none_in path only octets device f of is

pub put_of : (path text : List ℕ) (old new : Device) (result : Result (Unit {0}) Fault)
    → MatchResult result (λ _. HasGained old new text) (PutFailure old new text)
    → MatchResult result (λ _. Unit {0}) (IsOfShown path old.path)
put_of path text old new (Ok done) put = tt
put_of path text old new (Err (Write failed)) put = put.0
put_of path text old new (Err f) put = absurd put

-- why the trace of a file has no text; what is shown of the file
pub ruleset text_faults = (untraced, unread, of_file, of_traced, of_unshown)

pub ruleset file_shown = (none_shown, of_text, put_of)
