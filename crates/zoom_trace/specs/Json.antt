-- The line of an entry as an object of JSON (RFC 8259).
use Rattle.std.specs.Prelude.{◌≡◌, ℕ, List, codes}
use Rattle.std.specs.Fmt.{decimal}
use Rattle.hex.specs.Hex.{encode_lower}
use Rattle.json.specs.Json.{Members, member, no_members, number, string, object}
use Rattle.json.specs.Print.{print}
use Rattle.json.specs.Strict.{HasUniqueKeys}
use Rattle.json.specs.Tree.{json_tokens, MembersHaveNumbers}
use Rattle.zoom_clock.specs.declared.action.Task.{Task}
use Rattle.zoom_clock.specs.declared.action.Task.TheVariants as tasks
use Rattle.zoom_asking.specs.declared.inquiry.Report.{Report}
use Rattle.zoom_asking.specs.declared.inquiry.Report.TheVariants as reports
use Rattle.zoom_trace.specs.declared.entry.Given.{Given}
use Rattle.zoom_trace.specs.declared.entry.Given.TheVariants as givens
use Rattle.zoom_trace.specs.declared.entry.Traced.{Traced}
use Rattle.zoom_trace.specs.declared.entry.Traced.TheVariants as traced
use Rattle.zoom_trace.specs.declared.entry.TraceEntry.{TraceEntry}
use Rattle.zoom_trace.specs.Lines.{manner_name, notice_name}

-- the last member, with a text
abbrev pub last_text : List ℕ → List ℕ → Members
last_text name text = member name (string text) no_members

-- the last two members: with a text, and with a number
abbrev pub last_counted : List ℕ → List ℕ → List ℕ → ℕ → Members
last_counted kind name label n = member kind (string name) (member label (number (decimal n)) no_members)

-- the number of a connection, before other members
abbrev pub on_connection : ℕ → Members → Members
on_connection c others = member (codes "connection") (number (decimal c)) others

abbrev pub report_object : Report → Members
report_object (reports.Resolved n) = last_counted (codes "report") (codes "resolved") (codes "addresses") n
report_object (reports.Connected k) = last_counted (codes "report") (codes "connected") (codes "attempt") k
report_object (reports.Unreachable k) = last_counted (codes "report") (codes "unreachable") (codes "attempt") k
report_object (reports.NoSocket k) = last_counted (codes "report") (codes "noSocket") (codes "attempt") k
report_object reports.Taken = last_text (codes "report") (codes "taken")
report_object reports.End = last_text (codes "report") (codes "end")
report_object reports.Unreadable = last_text (codes "report") (codes "unreadable")
report_object reports.Unwritable = last_text (codes "report") (codes "unwritable")

abbrev pub task_object : Task → Members
task_object (tasks.Connect k) = last_counted (codes "action") (codes "connect") (codes "attempt") k
task_object tasks.Send = last_text (codes "action") (codes "send")
task_object tasks.Read = last_text (codes "action") (codes "read")
task_object (tasks.Leave k) = last_counted (codes "action") (codes "leave") (codes "attempt") k

-- the last member, with a number
abbrev pub last_number : List ℕ → ℕ → Members
last_number name n = member name (number (decimal n)) no_members

-- the last member, with octets
abbrev pub last_octets : List ℕ → List ℕ → Members
last_octets name octets = last_text name (encode_lower octets)

abbrev pub given_object : Given → Members
given_object (givens.Version n) = last_number (codes "version") n
given_object (givens.World octets) = last_octets (codes "world") octets
given_object (givens.Query octets) = last_octets (codes "query") octets
given_object (givens.Records octets) = last_octets (codes "records") octets
given_object (givens.Elements octets) = last_octets (codes "elements") octets
given_object (givens.Syntax octets) = last_octets (codes "syntax") octets
given_object (givens.Only octets) = last_octets (codes "only") octets
given_object (givens.Manner manner) = last_text (codes "manner") (manner_name manner)
given_object (givens.Connect n) = last_number (codes "connect") n
given_object (givens.Patience n) = last_number (codes "patience") n
given_object (givens.Total n) = last_number (codes "total") n

abbrev pub traced_object : Traced → Members
traced_object (traced.Began given) = given_object given
traced_object (traced.Reported c report) = on_connection c (report_object report)
traced_object (traced.Received c octets) = on_connection c (last_text (codes "received") (encode_lower octets))
traced_object traced.Ticked = last_text (codes "report") (codes "tick")
traced_object traced.GaveUp = last_text (codes "report") (codes "giveUp")
traced_object (traced.Wanted c task) = on_connection c (task_object task)
traced_object (traced.Sent c octets) = on_connection c (last_text (codes "sent") (encode_lower octets))
traced_object (traced.Noticed c notice) = on_connection c (last_text (codes "notice") (notice_name notice))

-- the members of an entry
abbrev pub entry_object : TraceEntry → Members
entry_object e = member (codes "at") (number (decimal e.at)) (traced_object e.what)

-- The text is that of an object with these members: its numbers are numbers of JSON (section 6), and no key is there
-- twice (section 4).
pub record IsJsonObject (members : Members) (text : List ℕ) : Type 0 where
  pub is : print (json_tokens (object members)) ≡ text
  pub numbers : MembersHaveNumbers members
  pub unique_keys : HasUniqueKeys (object members)
