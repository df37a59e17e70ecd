-- The dialogue of a trace, for people: its lines, entry by entry.
use Rattle.std.specs.Prelude.{◌≡◌, ℕ, ◌+◌, ◌-◌, ◌/◌, ◌%◌, ◌^◌, nat_lt, min, Bool, true, false, if◌then◌else◌, List, [], ◌∷◌, ◌++◌, codes, length, replicate, slice_get, slice_set, Option, Some, None, Result, Ok, Err}
use Rattle.std.specs.Fmt.{decimal}
use Rattle.std.specs.List.{list_all}
use Rattle.zber.specs.declared.fault.FaultKind.{FaultKind}
use Rattle.zber.specs.declared.fault.FaultKind.TheVariants as kinds
use Rattle.zber.specs.declared.framer.TheConstants.{MESSAGE_LIMIT}
use Rattle.zber.specs.Elements.{Element}
use Rattle.zber.specs.Faults.{fault_kind_name}
use Rattle.zber.specs.Shown.{HasFault}
use Rattle.zber.specs.Spelling.{HasFirstMessage}
use Rattle.zber.specs.Unfinished.{IsUnfinished}
use Rattle.zapdu.specs.Apdus.{apdu_kind_name}
use Rattle.zapdu.specs.Text.{quoted}
use Rattle.zapdu.specs.Writes.{IsDecodeResult}
use Rattle.zapdu.specs.declared.apdu.Apdu.{Apdu}
use Rattle.zapdu.specs.declared.apdu.ApduError.{ApduError}
use Rattle.zapdu.specs.declared.apdu.ApduError.TheVariants as apdus
use Rattle.zapdu_lines.specs.Lines.{apdu_text}
use Rattle.zoom_clock.specs.declared.action.Task.{Task}
use Rattle.zoom_clock.specs.declared.action.Task.TheVariants as tasks
use Rattle.zoom_asking.specs.declared.inquiry.Report.{Report}
use Rattle.zoom_asking.specs.declared.inquiry.Report.TheVariants as reports
use Rattle.zoom_trace.specs.declared.entry.Traced.{Traced}
use Rattle.zoom_trace.specs.declared.entry.Traced.TheVariants as traced
use Rattle.zoom_trace.specs.declared.entry.TraceEntry.{TraceEntry}
use Rattle.zoom_trace.specs.declared.fault.TraceError.{TraceError}
use Rattle.zoom_trace.specs.declared.fault.TraceError.TheVariants as errors
use Rattle.zoom_trace.specs.declared.notice.Notice.{Notice}
use Rattle.zoom_trace.specs.declared.notice.Notice.TheVariants as notices
use Rattle.zoom_trace.specs.Replays.{connection_of, is_within}
use Rattle.zmeta_trace.specs.declared.dialogue.Talk.{Talk}
use Rattle.zmeta_trace.specs.declared.place.Words.{Words}

-- ---- the front of a line

-- what stands before a number below 1000, so that it has three digits
abbrev pub zeros_before : ℕ → List ℕ
zeros_before n = if nat_lt n 10 then codes "00" else if nat_lt n 100 then codes "0" else []

-- a time in nanoseconds: seconds, a point, and three digits for milliseconds
abbrev pub seconds_text : ℕ → List ℕ
seconds_text milliseconds =
    decimal (milliseconds / 1000) ++ codes "." ++ zeros_before (milliseconds % 1000) ++ decimal (milliseconds % 1000)

unfoldable pub time_text : ℕ → List ℕ
time_text at = seconds_text (at / 1000000)

-- where a line stands: the time, the name of the catalogue in quotes, the mark of the way, if there is one, and a space
unfoldable pub place_text : ℕ → List ℕ → List ℕ → List ℕ
place_text at name mark = time_text at ++ codes " " ++ quoted name ++ mark ++ codes " "

-- the front of a line of a connection, of what was received on it, and of what was sent
abbrev pub place_of : ℕ → List ℕ → List ℕ
place_of at name = place_text at name []

abbrev pub place_from : ℕ → List ℕ → List ℕ
place_from at name = place_text at name (codes " <")

abbrev pub place_to : ℕ → List ℕ → List ℕ
place_to at name = place_text at name (codes " >")

-- ---- messages

-- what stands behind the place of octets at fault
unfoldable pub fault_text : FaultKind → ℕ → List ℕ
fault_text kind at = fault_kind_name kind ++ codes " at " ++ decimal at ++ codes "\n"

-- what stands behind the place of a message: the lines of its APDU as `show` prints them, or why it is none
unfoldable pub message_text : Result Apdu ApduError → List ℕ
message_text (Ok apdu) = apdu_text apdu
message_text (Err apdus.NotApdu) = codes "not an APDU\n"
message_text (Err (apdus.Malformed kind at)) =
    apdu_kind_name kind ++ codes " malformed at " ++ decimal at ++ codes "\n"
message_text (Err apdus.Memory) = []

-- memory was found to decode
abbrev pub IsDecoded : Result Apdu ApduError → Type 0
IsDecoded (Err apdus.Memory) = ⊥
IsDecoded decoded = Unit {0}

-- the element stands for this APDU, or for none, and this is why
abbrev pub IsDecodedAs : Element → Result Apdu ApduError → Type 0
IsDecodedAs e decoded = IsDecoded decoded × IsDecodeResult e decoded

-- The lines, each behind this place, of octets that stand on one way of a connection: of each message, up to the octets
-- that are no whole message yet, which are left; or up to the first fault, and nothing is left.
pub data AreMessages (place : List ℕ) : List ℕ → List ℕ → Option (List ℕ) → Type 0 where
  unfinished : {xs : List ℕ} → IsUnfinished MESSAGE_LIMIT xs → AreMessages place xs [] (Some xs)
  message : {xs rest text : List ℕ} {e : Element} {left : Option (List ℕ)} (decoded : Result Apdu ApduError)
      → HasFirstMessage MESSAGE_LIMIT xs e rest → IsDecodedAs e decoded → AreMessages place rest text left
      → AreMessages place xs ((place ++ message_text decoded) ++ text) left
  fault : {xs : List ℕ} {kind : FaultKind} {at : ℕ} → HasFault MESSAGE_LIMIT xs kind at
      → AreMessages place xs (place ++ fault_text kind at) None

-- octets come behind those that were left; behind a fault they are not shown
abbrev pub OctetsText : List ℕ → List ℕ → Option (List ℕ) → Option (List ℕ) → List ℕ → Type 0
OctetsText place octets None new text = (new ≡ None) × (text ≡ [])
OctetsText place octets (Some left) new text = AreMessages place (left ++ octets) text new

-- the line of octets that end within a message, if they do
abbrev pub end_text : List ℕ → Option (List ℕ) → List ℕ
end_text place None = []
end_text place (Some []) = []
end_text place (Some (x ∷ xs)) = place ++ fault_text kinds.Truncated (length (x ∷ xs))

-- ---- what else happened

-- the number, from 1, of an address, or the most that 64 bits hold
abbrev pub count_from : ℕ → ℕ
count_from k = min (k + 1) (2 ^ 64 - 1)

-- words of these, and their number, if they have one
abbrev pub told_by : Words → List ℕ × Option ℕ
told_by words = (words.text.now, words.number)

-- what is told of a report, if anything
abbrev pub report_words : Report → Option (List ℕ × Option ℕ)
report_words (reports.Resolved count) = Some (codes "addresses:", Some count)
report_words (reports.Connected k) = Some (codes "connected at address", Some (count_from k))
report_words (reports.Unreachable k) = Some (codes "not reached at address", Some (count_from k))
report_words (reports.NoSocket k) = Some (codes "no socket was left", None)
report_words reports.Taken = None
report_words reports.End = Some (codes "no more comes", None)
report_words reports.Unreadable = Some (codes "cannot be read", None)
report_words reports.Unwritable = Some (codes "cannot be written", None)

-- what is told of a task, if anything
abbrev pub task_words : Task → Option (List ℕ × Option ℕ)
task_words (tasks.Connect k) = Some (codes "connecting to address", Some (count_from k))
task_words (tasks.Leave k) = Some (codes "left address", Some (count_from k))
task_words tasks.Send = None
task_words tasks.Read = None

-- what is told of what was noticed of a host
abbrev pub notice_words : Notice → List ℕ
notice_words notices.Nothing = codes "nothing was noticed"
notice_words notices.NoPort = codes "the address has no port"
notice_words notices.NoName = codes "the name has no address"
notice_words notices.NoFamily = codes "the name has no address of this family"
notice_words notices.Refused = codes "refused the connection"
notice_words notices.NoRoute = codes "there is no way to it"
notice_words notices.Ended = codes "ended the connection"
notice_words notices.Reset = codes "the connection broke"

-- a number behind words, if there is one
abbrev pub count_text : Option ℕ → List ℕ
count_text None = []
count_text (Some n) = codes " " ++ decimal n

-- a line of words at a place
unfoldable pub words_text : List ℕ → List ℕ × Option ℕ → List ℕ
words_text place words = place ++ words.0 ++ count_text words.1 ++ codes "\n"

-- the same, if there are any words
abbrev pub words_text_if : List ℕ → Option (List ℕ × Option ℕ) → List ℕ
words_text_if place None = []
words_text_if place (Some words) = words_text place words

-- no octets come any more after this report
abbrev pub is_last : Report → Bool
is_last reports.End = true
is_last reports.Unreadable = true
is_last _ = false

-- ---- connections

-- what is left of what was received, and the line of its end, if this was the last report
abbrev pub left_after : Bool → Option (List ℕ) → Option (List ℕ)
left_after true left = None
left_after false left = left

abbrev pub end_text_if : Bool → List ℕ → Option (List ℕ) → List ℕ
end_text_if true place left = end_text place left
end_text_if false place left = []

-- the lines of what happened at a time on the connection to a catalogue
abbrev pub TalkText : ℕ → List ℕ → Traced → Talk → Talk → List ℕ → Type 0
TalkText at name (traced.Received c octets) old new text =
    OctetsText (place_from at name) octets old.received new.received text × (new.sent ≡ old.sent)
TalkText at name (traced.Sent c octets) old new text =
    OctetsText (place_to at name) octets old.sent new.sent text × (new.received ≡ old.received)
TalkText at name (traced.Reported c report) old new text =
    (text ≡ end_text_if (is_last report) (place_from at name) old.received
    ++ words_text_if (place_of at name) (report_words report))
    × (new.received ≡ left_after (is_last report) old.received) × (new.sent ≡ old.sent)
TalkText at name (traced.Wanted c task) old new text =
    (text ≡ words_text_if (place_of at name) (task_words task)) × (new ≡ old)
TalkText at name (traced.Noticed c notice) old new text =
    (text ≡ words_text (place_of at name) (notice_words notice, None)) × (new ≡ old)
TalkText at name _ old new text = (text ≡ []) × (new ≡ old)

-- the same, if the catalogue is shown; of one that is not, no octets are taken and there are no lines
abbrev pub TalkTextIf : Bool → ℕ → List ℕ → Traced → Talk → Talk → List ℕ → Type 0
TalkTextIf true at name what old new text = TalkText at name what old new text
TalkTextIf false at name what old new text = (text ≡ []) × (new ≡ old)

-- the lines of an entry that speaks of connection c, to the catalogue with its number
pub record IsShownOn
    (names : List (List ℕ)) (chosen : List Bool) (c : ℕ) (e : TraceEntry) (old new : List Talk) (text : List ℕ)
    : Type 0 where
  pub name : List ℕ
  pub shown : Bool
  pub before : Talk
  pub after : Talk
  pub named : slice_get names c ≡ Some name
  pub chosen_so : slice_get chosen c ≡ Some shown
  pub stood : slice_get old c ≡ Some before
  pub stands : new ≡ slice_set old c after
  pub lines : TalkTextIf shown e.at name e.what before after text

abbrev pub EntryTextOn
    : List (List ℕ) → List Bool → Option ℕ → TraceEntry → List Talk → List Talk → List ℕ → Type 0
EntryTextOn names chosen None e old new text = (text ≡ []) × (new ≡ old)
EntryTextOn names chosen (Some c) e old new text = IsShownOn names chosen c e old new text

-- the lines of an entry
abbrev pub EntryText : List (List ℕ) → List Bool → TraceEntry → List Talk → List Talk → List ℕ → Type 0
EntryText names chosen e old new text = EntryTextOn names chosen (connection_of e.what) e old new text

-- ---- the dialogue

-- nothing was sent or received yet
abbrev pub new_talk : Talk
new_talk = record { sent = Some []; received = Some [] }

-- The lines of the entries, in their order, with the catalogues of these names, of which these are chosen; and what is
-- left of what was sent and received on each connection.
pub data AreLinesOf (names : List (List ℕ)) (chosen : List Bool)
    : List TraceEntry → List Talk → List ℕ → Type 0 where
  none : AreLinesOf names chosen [] (replicate (length names) new_talk) []
  more : {es : List TraceEntry} {old : List Talk} {text : List ℕ} (e : TraceEntry) (new : List Talk) (line : List ℕ)
      → AreLinesOf names chosen es old text → EntryText names chosen e old new line
      → AreLinesOf names chosen (es ++ e ∷ []) new (text ++ line)

-- the text of the dialogue
abbrev pub IsDialogue : List (List ℕ) → List Bool → List TraceEntry → List ℕ → Type 0
IsDialogue names chosen es text = (talks : List Talk) × AreLinesOf names chosen es talks text

-- entries have one dialogue at most
abbrev pub OneDialogue : Type 0
OneDialogue =
    (names : List (List ℕ)) (chosen : List Bool) (es : List TraceEntry) (s t : List ℕ)
    → IsDialogue names chosen es s → IsDialogue names chosen es t → s ≡ t

-- the entry of this number, from 1, is the first that speaks of a connection that is not there
pub record IsFirstOutside (count : ℕ) (es : List TraceEntry) (number : ℕ) : Type 0 where
  pub before : List TraceEntry
  pub entry : TraceEntry
  pub rest : List TraceEntry
  pub whole : es ≡ before ++ entry ∷ rest
  pub place : number ≡ length before + 1
  pub within : list_all (is_within count) before ≡ true
  pub outside : is_within count entry ≡ false

-- the dialogue was appended; or an entry speaks of a connection that is not there
abbrev pub DialogueResult
    : List (List ℕ) → List Bool → List TraceEntry → List ℕ → List ℕ → Result (Unit {0}) TraceError → Type 0
DialogueResult names chosen es old new (Ok done) =
    (text : List ℕ) × IsDialogue names chosen es text × (new ≡ old ++ text)
DialogueResult names chosen es old new (Err (errors.Refused number)) = IsFirstOutside (length names) es number
DialogueResult names chosen es old new (Err errors.Memory) = Unit {0}
