-- The text of an entry behind its time, from the left.
use Rattle.std.proofs.Common.{◌≡◌, refl, sym, ◌∙◌, ap, ℕ, List, [], ◌∷◌, ◌++◌, append_assoc}
use Rattle.std.specs.Prelude.{codes}
use Rattle.std.specs.Fmt.{decimal}
use Rattle.hex.specs.Hex.{encode_lower}
use Rattle.zoom_clock.specs.declared.action.Task.{Task}
use Rattle.zoom_clock.specs.declared.action.Task.TheVariants as tasks
use Rattle.zoom_asking.specs.declared.inquiry.Report.{Report}
use Rattle.zoom_asking.specs.declared.inquiry.Report.TheVariants as reports
use Rattle.zoom_trace.specs.declared.entry.Given.{Given}
use Rattle.zoom_trace.specs.declared.entry.Given.TheVariants as givens
use Rattle.zoom_trace.specs.declared.entry.Traced.{Traced}
use Rattle.zoom_trace.specs.declared.entry.Traced.TheVariants as traced
use Rattle.zoom_trace.specs.Lines.{number_member, text_member, octets_member, counted, connection_member, report_members, task_members, manner_name, notice_name, given_members, traced_members}

-- a text in quotation marks
abbrev pub in_marks : List ℕ → List ℕ → List ℕ
in_marks text more = 34 ∷ (text ++ 34 ∷ more)

-- a member with a text, and what follows
abbrev pub text_then : List ℕ → List ℕ → List ℕ → List ℕ
text_then name text more = in_marks name (58 ∷ in_marks text more)

-- a member with a number, behind others, and the end
abbrev pub number_end : List ℕ → ℕ → List ℕ
number_end label n = 44 ∷ in_marks label (58 ∷ (decimal n ++ 125 ∷ []))

-- a member with a text, one with a number, and the end
abbrev pub counted_end : List ℕ → List ℕ → List ℕ → ℕ → List ℕ
counted_end kind name label n = text_then kind name (number_end label n)

-- a member with a text, and the end
abbrev pub text_end : List ℕ → List ℕ → List ℕ
text_end kind name = text_then kind name (125 ∷ [])

abbrev pub report_tail : Report → List ℕ
report_tail (reports.Resolved n) = counted_end (codes "report") (codes "resolved") (codes "addresses") n
report_tail (reports.Connected k) = counted_end (codes "report") (codes "connected") (codes "attempt") k
report_tail (reports.Unreachable k) = counted_end (codes "report") (codes "unreachable") (codes "attempt") k
report_tail (reports.NoSocket k) = counted_end (codes "report") (codes "noSocket") (codes "attempt") k
report_tail reports.Taken = text_end (codes "report") (codes "taken")
report_tail reports.End = text_end (codes "report") (codes "end")
report_tail reports.Unreadable = text_end (codes "report") (codes "unreadable")
report_tail reports.Unwritable = text_end (codes "report") (codes "unwritable")

abbrev pub task_tail : Task → List ℕ
task_tail (tasks.Connect k) = counted_end (codes "action") (codes "connect") (codes "attempt") k
task_tail tasks.Send = text_end (codes "action") (codes "send")
task_tail tasks.Read = text_end (codes "action") (codes "read")
task_tail (tasks.Leave k) = counted_end (codes "action") (codes "leave") (codes "attempt") k

-- the number of a connection, and what follows
abbrev pub connection_then : ℕ → List ℕ → List ℕ
connection_then c more = in_marks (codes "connection") (58 ∷ (decimal c ++ 44 ∷ more))

-- a member with a number, and the end
abbrev pub last_number_end : List ℕ → ℕ → List ℕ
last_number_end name n = in_marks name (58 ∷ (decimal n ++ 125 ∷ []))

-- a member with octets, and the end
abbrev pub octets_end : List ℕ → List ℕ → List ℕ
octets_end name octets = text_end name (encode_lower octets)

abbrev pub given_tail : Given → List ℕ
given_tail (givens.Version n) = last_number_end (codes "version") n
given_tail (givens.Connect n) = last_number_end (codes "connect") n
given_tail (givens.Patience n) = last_number_end (codes "patience") n
given_tail (givens.Total n) = last_number_end (codes "total") n
given_tail (givens.World octets) = octets_end (codes "world") octets
given_tail (givens.Query octets) = octets_end (codes "query") octets
given_tail (givens.Records octets) = octets_end (codes "records") octets
given_tail (givens.Elements octets) = octets_end (codes "elements") octets
given_tail (givens.Syntax octets) = octets_end (codes "syntax") octets
given_tail (givens.Only octets) = octets_end (codes "only") octets
given_tail (givens.Manner manner) = text_end (codes "manner") (manner_name manner)

abbrev pub traced_tail : Traced → List ℕ
traced_tail (traced.Began given) = given_tail given
traced_tail (traced.Reported c report) = connection_then c (report_tail report)
traced_tail (traced.Received c octets) = connection_then c (text_end (codes "received") (encode_lower octets))
traced_tail traced.Ticked = text_end (codes "report") (codes "tick")
traced_tail traced.GaveUp = text_end (codes "report") (codes "giveUp")
traced_tail (traced.Wanted c task) = connection_then c (task_tail task)
traced_tail (traced.Sent c octets) = connection_then c (text_end (codes "sent") (encode_lower octets))
traced_tail (traced.Noticed c notice) = connection_then c (text_end (codes "notice") (notice_name notice))

report_members_tail : (r : Report) → report_members r ++ codes "}" ≡ 44 ∷ report_tail r
unfolding report_members number_member text_member
report_members_tail (reports.Resolved n) = refl
report_members_tail (reports.Connected k) = refl
report_members_tail (reports.Unreachable k) = refl
report_members_tail (reports.NoSocket k) = refl
report_members_tail reports.Taken = refl
report_members_tail reports.End = refl
report_members_tail reports.Unreadable = refl
report_members_tail reports.Unwritable = refl

task_members_tail : (t : Task) → task_members t ++ codes "}" ≡ 44 ∷ task_tail t
unfolding task_members number_member text_member
task_members_tail (tasks.Connect k) = refl
task_members_tail tasks.Send = refl
task_members_tail tasks.Read = refl
task_members_tail (tasks.Leave k) = refl

text_members_tail : (name text : List ℕ) → text_member name text ++ codes "}" ≡ 44 ∷ text_end name text
unfolding text_member
text_members_tail name text =
    let front = (name ++ codes "\":\"") ++ text in
    ap (λ (xs : List ℕ). 44 ∷ 34 ∷ xs)
    (append_assoc front (codes "\"") (codes "}")
    ∙ append_assoc (name ++ codes "\":\"") text (codes "\"}")
    ∙ append_assoc name (codes "\":\"") (text ++ codes "\"}"))

given_members_tail : (g : Given) → given_members g ++ codes "}" ≡ 44 ∷ given_tail g
unfolding given_members number_member
given_members_tail (givens.Version n) = refl
given_members_tail (givens.Connect n) = refl
given_members_tail (givens.Patience n) = refl
given_members_tail (givens.Total n) = refl
given_members_tail (givens.World octets) = text_members_tail (codes "world") (encode_lower octets)
given_members_tail (givens.Query octets) = text_members_tail (codes "query") (encode_lower octets)
given_members_tail (givens.Records octets) = text_members_tail (codes "records") (encode_lower octets)
given_members_tail (givens.Elements octets) = text_members_tail (codes "elements") (encode_lower octets)
given_members_tail (givens.Syntax octets) = text_members_tail (codes "syntax") (encode_lower octets)
given_members_tail (givens.Only octets) = text_members_tail (codes "only") (encode_lower octets)
given_members_tail (givens.Manner manner) = text_members_tail (codes "manner") (manner_name manner)

connection_tail : (c : ℕ) (members more : List ℕ) → members ++ codes "}" ≡ 44 ∷ more
    → (connection_member c ++ members) ++ codes "}" ≡ 44 ∷ connection_then c more
unfolding number_member
connection_tail c members more e =
    ap (λ (xs : List ℕ). 44 ∷ in_marks (codes "connection") (58 ∷ xs))
    (append_assoc (decimal c) members (codes "}") ∙ ap (λ (xs : List ℕ). decimal c ++ xs) e)

-- the members behind the time are this text, behind a comma
pub traced_members_tail : (w : Traced) → traced_members w ++ codes "}" ≡ 44 ∷ traced_tail w
unfolding traced_members text_member
traced_members_tail (traced.Began given) = given_members_tail given
traced_members_tail (traced.Reported c report) =
    connection_tail c (report_members report) (report_tail report) (report_members_tail report)
traced_members_tail (traced.Received c octets) =
    connection_tail c (octets_member (codes "received") octets) (text_end (codes "received") (encode_lower octets))
    (text_members_tail (codes "received") (encode_lower octets))
traced_members_tail traced.Ticked = refl
traced_members_tail traced.GaveUp = refl
traced_members_tail (traced.Wanted c task) =
    connection_tail c (task_members task) (task_tail task) (task_members_tail task)
traced_members_tail (traced.Sent c octets) =
    connection_tail c (octets_member (codes "sent") octets) (text_end (codes "sent") (encode_lower octets))
    (text_members_tail (codes "sent") (encode_lower octets))
traced_members_tail (traced.Noticed c notice) =
    connection_tail c (text_member (codes "notice") (notice_name notice))
    (text_end (codes "notice") (notice_name notice)) (text_members_tail (codes "notice") (notice_name notice))
