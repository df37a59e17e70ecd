-- How the words and numbers of a line are found.
use Rattle.std.specs.Prelude.{ℕ, ◌+◌, ◌-◌, ◌^◌, ◌==◌, if◌then◌else◌, List, [], ◌∷◌, take, drop, codes, Option, Some, None, Result}
use Rattle.std.specs.List.{position}
use Rattle.std.specs.Option.{option_map, option_and_then, option_or}
use Rattle.std.specs.Result.{result_ok}
use Rattle.std.specs.Str.{bytes_eq}
use Rattle.hex.specs.Hex.{decode_of}
use Rattle.zquery.specs.Notation.Numbers.{number_of_text}
use Rattle.zoom_clock.specs.declared.action.Task.{Task}
use Rattle.zoom_clock.specs.declared.action.Task.TheVariants as tasks
use Rattle.zoom_asking.specs.declared.inquiry.Manner.{Manner}
use Rattle.zoom_asking.specs.declared.inquiry.Manner.TheVariants as manners
use Rattle.zoom_asking.specs.declared.inquiry.Report.{Report}
use Rattle.zoom_asking.specs.declared.inquiry.Report.TheVariants as reports
use Rattle.zoom_trace.specs.declared.entry.Given.{Given}
use Rattle.zoom_trace.specs.declared.entry.Given.TheVariants as givens
use Rattle.zoom_trace.specs.declared.entry.Traced.{Traced}
use Rattle.zoom_trace.specs.declared.entry.Traced.TheVariants as traced
use Rattle.zoom_trace.specs.declared.entry.TraceEntry.{TraceEntry}
use Rattle.zoom_trace.specs.declared.notice.Notice.{Notice}
use Rattle.zoom_trace.specs.declared.notice.Notice.TheVariants as notices

-- the texts before and behind this place
abbrev pub around : List ℕ → ℕ → List ℕ × List ℕ
around text k = (take k text, drop (k + 1) text)

-- the texts before and behind the first octet `mark`
abbrev pub cut : ℕ → List ℕ → Option (List ℕ × List ℕ)
cut mark text = option_map (around text) (position (λ x. x == mark) text)

-- the text between the first two quotation marks, and the text behind them
abbrev pub word : List ℕ → Option (List ℕ × List ℕ)
word text = option_and_then (λ (p : List ℕ × List ℕ). cut 34 p.1) (cut 34 text)

-- a number, before a text
abbrev pub before : List ℕ → ℕ → ℕ × List ℕ
before text n = (n, text)

-- the number that a text writes, and another text
abbrev pub number_and : ℕ → List ℕ × List ℕ → Option (ℕ × List ℕ)
number_and most texts = option_map (before texts.1) (number_of_text most texts.0)

-- the number between the first colon and the octet `mark`, and the text behind it
abbrev pub number_in : ℕ → ℕ → List ℕ → Option (ℕ × List ℕ)
number_in mark most text =
    option_and_then (number_and most) (option_and_then (λ (p : List ℕ × List ℕ). cut mark p.1) (cut 58 text))

-- the last number of a line
abbrev pub count_in : List ℕ → Option ℕ
count_in text = option_map (λ (p : ℕ × List ℕ). p.0) (number_in 125 (2 ^ 64 - 1) text)

-- the report with a name
unfoldable pub report_of : List ℕ → List ℕ → Option Report
report_of name rest =
    if bytes_eq name (codes "resolved") then option_map reports.Resolved (count_in rest)
    else if bytes_eq name (codes "connected") then option_map reports.Connected (count_in rest)
    else if bytes_eq name (codes "unreachable") then option_map reports.Unreachable (count_in rest)
    else if bytes_eq name (codes "noSocket") then option_map reports.NoSocket (count_in rest)
    else if bytes_eq name (codes "taken") then Some reports.Taken
    else if bytes_eq name (codes "end") then Some reports.End
    else if bytes_eq name (codes "unreadable") then Some reports.Unreadable
    else if bytes_eq name (codes "unwritable") then Some reports.Unwritable
    else None

-- the task with a name
unfoldable pub task_of : List ℕ → List ℕ → Option Task
task_of name rest =
    if bytes_eq name (codes "connect") then option_map tasks.Connect (count_in rest)
    else if bytes_eq name (codes "send") then Some tasks.Send
    else if bytes_eq name (codes "read") then Some tasks.Read
    else if bytes_eq name (codes "leave") then option_map tasks.Leave (count_in rest)
    else None

-- the notice with a name
unfoldable pub notice_of : List ℕ → Option Notice
notice_of name =
    if bytes_eq name (codes "nothing") then Some notices.Nothing
    else if bytes_eq name (codes "noPort") then Some notices.NoPort
    else if bytes_eq name (codes "noName") then Some notices.NoName
    else if bytes_eq name (codes "noFamily") then Some notices.NoFamily
    else if bytes_eq name (codes "refused") then Some notices.Refused
    else if bytes_eq name (codes "noRoute") then Some notices.NoRoute
    else if bytes_eq name (codes "ended") then Some notices.Ended
    else if bytes_eq name (codes "reset") then Some notices.Reset
    else None

-- the octets that a text has in hexadecimal
abbrev pub octets_of : List ℕ → Option (List ℕ)
octets_of text = result_ok (decode_of text)

-- what a member of this name tells of a connection
unfoldable pub traced_by : ℕ → List ℕ → List ℕ → List ℕ → Option Traced
traced_by c name value rest =
    if bytes_eq name (codes "report") then option_map (traced.Reported c) (report_of value rest)
    else if bytes_eq name (codes "action") then option_map (traced.Wanted c) (task_of value rest)
    else if bytes_eq name (codes "received") then option_map (traced.Received c) (octets_of value)
    else if bytes_eq name (codes "sent") then option_map (traced.Sent c) (octets_of value)
    else if bytes_eq name (codes "notice") then option_map (traced.Noticed c) (notice_of value)
    else None

-- the same, of a text from the member's value on
abbrev pub traced_with : ℕ → List ℕ → List ℕ → Option Traced
traced_with c name text =
    option_and_then (λ (p : List ℕ × List ℕ). traced_by c name p.0 p.1) (word text)

-- the same, of a text from the member's name on
abbrev pub traced_from : ℕ → List ℕ → Option Traced
traced_from c text = option_and_then (λ (p : List ℕ × List ℕ). traced_with c p.0 p.1) (word text)

-- the same, of a text from the connection's number on
abbrev pub traced_on : List ℕ → Option Traced
traced_on text = option_and_then (λ (p : ℕ × List ℕ). traced_from p.0 p.1) (number_in 44 (2 ^ 32 - 1) text)

-- the octets of a member, behind its name
abbrev pub octets_in : List ℕ → Option (List ℕ)
octets_in text = option_and_then (λ (p : List ℕ × List ℕ). octets_of p.0) (word text)

-- the manner with a name
abbrev pub manner_named : List ℕ → Option Manner
manner_named name =
    if bytes_eq name (codes "atOnce") then Some manners.AtOnce
    else if bytes_eq name (codes "inOrder") then Some manners.InOrder
    else None

-- the manner of a member, behind its name
abbrev pub manner_in : List ℕ → Option Manner
manner_in text = option_and_then (λ (p : List ℕ × List ℕ). manner_named p.0) (word text)

-- a number or a manner that the search was given, in a member of this name
unfoldable pub number_given : List ℕ → List ℕ → Option Given
number_given name rest =
    if bytes_eq name (codes "version") then option_map givens.Version (count_in rest)
    else if bytes_eq name (codes "connect") then option_map givens.Connect (count_in rest)
    else if bytes_eq name (codes "patience") then option_map givens.Patience (count_in rest)
    else if bytes_eq name (codes "total") then option_map givens.Total (count_in rest)
    else if bytes_eq name (codes "manner") then option_map givens.Manner (manner_in rest)
    else None

-- octets that the search was given, in a member of this name
unfoldable pub octets_given : List ℕ → List ℕ → Option Given
octets_given name octets =
    if bytes_eq name (codes "world") then Some (givens.World octets)
    else if bytes_eq name (codes "query") then Some (givens.Query octets)
    else if bytes_eq name (codes "records") then Some (givens.Records octets)
    else if bytes_eq name (codes "elements") then Some (givens.Elements octets)
    else if bytes_eq name (codes "syntax") then Some (givens.Syntax octets)
    else if bytes_eq name (codes "only") then Some (givens.Only octets)
    else None

-- the same of a text in hexadecimal
abbrev pub text_given : List ℕ → List ℕ → Option Given
text_given name rest = option_and_then (octets_given name) (octets_in rest)

-- what the search was given, in a member of this name
abbrev pub given_by : List ℕ → List ℕ → Option Given
given_by name rest = option_or (number_given name rest) (text_given name rest)

-- what a value tells of all connections
abbrev pub traced_as : List ℕ → Option Traced
traced_as value =
    if bytes_eq value (codes "tick") then Some traced.Ticked
    else if bytes_eq value (codes "giveUp") then Some traced.GaveUp
    else None

-- what a text tells of all connections
abbrev pub traced_of_all : List ℕ → Option Traced
traced_of_all text = option_and_then (λ (p : List ℕ × List ℕ). traced_as p.0) (word text)

-- what a text tells, behind the name of its first member
abbrev pub traced_behind : List ℕ × List ℕ → Option Traced
traced_behind p =
    if bytes_eq p.0 (codes "connection") then traced_on p.1
    else if bytes_eq p.0 (codes "report") then traced_of_all p.1
    else option_map traced.Began (given_by p.0 p.1)

-- what a text tells, from behind the time on
unfoldable pub traced_of : List ℕ → Option Traced
traced_of text = option_and_then traced_behind (word text)

-- an entry of this time
abbrev pub entry_at : ℕ → Traced → TraceEntry
entry_at at what = record { at = at; what = what }

-- the entry with the words and numbers of a line
unfoldable pub entry_of : List ℕ → Option TraceEntry
entry_of line =
    option_and_then (λ (p : ℕ × List ℕ). option_map (entry_at p.0) (traced_of p.1)) (number_in 44 (2 ^ 64 - 1) line)
