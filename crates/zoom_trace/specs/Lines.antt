-- The text of an entry: an object of JSON (RFC 8259) on a line of its own, with octets in hexadecimal.
use Rattle.std.specs.Prelude.{ℕ, ◌<◌, ◌^◌, List, [], ◌∷◌, ◌++◌, codes}
use Rattle.std.specs.Fmt.{decimal}
use Rattle.std.specs.List.{flat_map}
use Rattle.hex.specs.Hex.{encode_lower, IsBytes}
use Rattle.zoom_clock.specs.declared.action.Task.{Task}
use Rattle.zoom_clock.specs.declared.action.Task.TheVariants as tasks
use Rattle.zoom_asking.specs.declared.inquiry.Manner.{Manner}
use Rattle.zoom_asking.specs.declared.inquiry.Manner.TheVariants as manners
use Rattle.zoom_asking.specs.declared.inquiry.Report.{Report}
use Rattle.zoom_asking.specs.declared.inquiry.Report.TheVariants as reports
use Rattle.zoom_trace.specs.declared.entry.Given.{Given}
use Rattle.zoom_trace.specs.declared.entry.Given.TheVariants as givens
use Rattle.zoom_trace.specs.declared.entry.Traced.{Traced}
use Rattle.zoom_trace.specs.declared.entry.Traced.TheVariants as traced
use Rattle.zoom_trace.specs.declared.entry.TraceEntry.{TraceEntry}
use Rattle.zoom_trace.specs.declared.notice.Notice.{Notice}
use Rattle.zoom_trace.specs.declared.notice.Notice.TheVariants as notices

-- ---- members, each behind others

-- a member with a number
unfoldable pub number_member : List ℕ → ℕ → List ℕ
number_member name n = codes ",\"" ++ name ++ codes "\":" ++ decimal n

-- a member with a text that needs no escapes
unfoldable pub text_member : List ℕ → List ℕ → List ℕ
text_member name text = codes ",\"" ++ name ++ codes "\":\"" ++ text ++ codes "\""

-- a member with octets, two lower-case digits each
abbrev pub octets_member : List ℕ → List ℕ → List ℕ
octets_member name octets = text_member name (encode_lower octets)

-- a member with a name, and one with a number
abbrev pub counted : List ℕ → List ℕ → List ℕ → ℕ → List ℕ
counted kind name label n = text_member kind name ++ number_member label n

-- the number of a connection
abbrev pub connection_member : ℕ → List ℕ
connection_member c = number_member (codes "connection") c

-- ---- entries

-- what was reported of a connection
unfoldable pub report_members : Report → List ℕ
report_members (reports.Resolved n) = counted (codes "report") (codes "resolved") (codes "addresses") n
report_members (reports.Connected k) = counted (codes "report") (codes "connected") (codes "attempt") k
report_members (reports.Unreachable k) = counted (codes "report") (codes "unreachable") (codes "attempt") k
report_members (reports.NoSocket k) = counted (codes "report") (codes "noSocket") (codes "attempt") k
report_members reports.Taken = text_member (codes "report") (codes "taken")
report_members reports.End = text_member (codes "report") (codes "end")
report_members reports.Unreadable = text_member (codes "report") (codes "unreadable")
report_members reports.Unwritable = text_member (codes "report") (codes "unwritable")

-- what was to be done for a connection
unfoldable pub task_members : Task → List ℕ
task_members (tasks.Connect k) = counted (codes "action") (codes "connect") (codes "attempt") k
task_members tasks.Send = text_member (codes "action") (codes "send")
task_members tasks.Read = text_member (codes "action") (codes "read")
task_members (tasks.Leave k) = counted (codes "action") (codes "leave") (codes "attempt") k

-- how hosts are talked with
abbrev pub manner_name : Manner → List ℕ
manner_name manners.AtOnce = codes "atOnce"
manner_name manners.InOrder = codes "inOrder"

-- what was noticed of a host
abbrev pub notice_name : Notice → List ℕ
notice_name notices.Nothing = codes "nothing"
notice_name notices.NoPort = codes "noPort"
notice_name notices.NoName = codes "noName"
notice_name notices.NoFamily = codes "noFamily"
notice_name notices.Refused = codes "refused"
notice_name notices.NoRoute = codes "noRoute"
notice_name notices.Ended = codes "ended"
notice_name notices.Reset = codes "reset"

-- what the search was given
unfoldable pub given_members : Given → List ℕ
given_members (givens.Version n) = number_member (codes "version") n
given_members (givens.World octets) = octets_member (codes "world") octets
given_members (givens.Query octets) = octets_member (codes "query") octets
given_members (givens.Records octets) = octets_member (codes "records") octets
given_members (givens.Elements octets) = octets_member (codes "elements") octets
given_members (givens.Syntax octets) = octets_member (codes "syntax") octets
given_members (givens.Only octets) = octets_member (codes "only") octets
given_members (givens.Manner manner) = text_member (codes "manner") (manner_name manner)
given_members (givens.Connect n) = number_member (codes "connect") n
given_members (givens.Patience n) = number_member (codes "patience") n
given_members (givens.Total n) = number_member (codes "total") n

-- the members behind the time
unfoldable pub traced_members : Traced → List ℕ
traced_members (traced.Began given) = given_members given
traced_members (traced.Reported c report) = connection_member c ++ report_members report
traced_members (traced.Received c octets) = connection_member c ++ octets_member (codes "received") octets
traced_members traced.Ticked = text_member (codes "report") (codes "tick")
traced_members traced.GaveUp = text_member (codes "report") (codes "giveUp")
traced_members (traced.Wanted c task) = connection_member c ++ task_members task
traced_members (traced.Sent c octets) = connection_member c ++ octets_member (codes "sent") octets
traced_members (traced.Noticed c notice) = connection_member c ++ text_member (codes "notice") (notice_name notice)

-- the line of an entry
unfoldable pub line_of : TraceEntry → List ℕ
line_of e = codes "{\"at\":" ++ decimal e.at ++ traced_members e.what ++ codes "}"

-- the same, with the line feed that ends it
abbrev pub ended_line : TraceEntry → List ℕ
ended_line e = line_of e ++ codes "\n"

-- the line of octets that came or were sent on a connection, with the line feed that ends it
abbrev pub carried_line : ℕ → ℕ → List ℕ → List ℕ → List ℕ
carried_line at c name octets =
    codes "{\"at\":" ++ decimal at ++ connection_member c ++ octets_member name octets ++ codes "}\n"

-- the lines of entries, in their order
abbrev pub trace_of : List TraceEntry → List ℕ
trace_of entries = flat_map ended_line entries

-- ---- the limits of numbers

abbrev pub IsWritableReport : Report → Type 0
IsWritableReport (reports.Resolved n) = n < 2 ^ 64
IsWritableReport (reports.Connected k) = k < 2 ^ 64
IsWritableReport (reports.Unreachable k) = k < 2 ^ 64
IsWritableReport (reports.NoSocket k) = k < 2 ^ 64
IsWritableReport _ = Unit {0}

abbrev pub IsWritableTask : Task → Type 0
IsWritableTask (tasks.Connect k) = k < 2 ^ 64
IsWritableTask tasks.Send = Unit {0}
IsWritableTask tasks.Read = Unit {0}
IsWritableTask (tasks.Leave k) = k < 2 ^ 64

abbrev pub IsWritableGiven : Given → Type 0
IsWritableGiven (givens.Version n) = n < 2 ^ 64
IsWritableGiven (givens.World octets) = IsBytes octets
IsWritableGiven (givens.Query octets) = IsBytes octets
IsWritableGiven (givens.Records octets) = IsBytes octets
IsWritableGiven (givens.Elements octets) = IsBytes octets
IsWritableGiven (givens.Syntax octets) = IsBytes octets
IsWritableGiven (givens.Only octets) = IsBytes octets
IsWritableGiven (givens.Manner manner) = Unit {0}
IsWritableGiven (givens.Connect n) = n < 2 ^ 64
IsWritableGiven (givens.Patience n) = n < 2 ^ 64
IsWritableGiven (givens.Total n) = n < 2 ^ 64

abbrev pub IsWritableTraced : Traced → Type 0
IsWritableTraced (traced.Began given) = IsWritableGiven given
IsWritableTraced (traced.Reported c report) = (c < 2 ^ 32) × IsWritableReport report
IsWritableTraced (traced.Received c octets) = (c < 2 ^ 32) × IsBytes octets
IsWritableTraced traced.Ticked = Unit {0}
IsWritableTraced traced.GaveUp = Unit {0}
IsWritableTraced (traced.Wanted c task) = (c < 2 ^ 32) × IsWritableTask task
IsWritableTraced (traced.Sent c octets) = (c < 2 ^ 32) × IsBytes octets
IsWritableTraced (traced.Noticed c notice) = c < 2 ^ 32

-- the numbers of the entry are those that its types have
abbrev pub IsWritable : TraceEntry → Type 0
IsWritable e = (e.at < 2 ^ 64) × IsWritableTraced e.what

abbrev pub AreWritable : List TraceEntry → Type 0
AreWritable [] = Unit {0}
AreWritable (e ∷ es) = IsWritable e × AreWritable es
