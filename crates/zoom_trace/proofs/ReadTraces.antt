-- What is read of the lines of entries: those entries.
use Rattle.std.proofs.Common.{◌≡◌, ◌≢◌, refl, sym, ◌∙◌, ap, subst, ℕ, zero, suc, ◌+◌, ◌^◌, ◌<◌, List, [], ◌∷◌, ◌++◌, length, true, false, not, ◌==◌, ◌&&◌, Option, Some, arith, append_assoc, append-nil}
use Rattle.std.specs.Prelude.{codes, All}
use Rattle.std.specs.Fmt.{decimal}
use Rattle.std.specs.List.{list_all, flat_map}
use Rattle.std.proofs.lemmas.Bool.{and_from, and_parts, ne_eqb}
use Rattle.std.proofs.lemmas.List.Elements.{All-head, All-tail}
use Rattle.std.proofs.lemmas.List.Folds.{list_all-append}
use Rattle.hex.specs.Hex.{encode_lower, IsBytes}
use Rattle.zquery.proofs.NotationTheory.PrintedNumbers.{decimal-digits}
use Rattle.zoom_clock.specs.declared.action.Task.{Task}
use Rattle.zoom_clock.specs.declared.action.Task.TheVariants as tasks
use Rattle.zoom_asking.specs.declared.inquiry.Report.{Report}
use Rattle.zoom_asking.specs.declared.inquiry.Report.TheVariants as reports
use Rattle.zoom_asking.specs.declared.inquiry.Manner.TheVariants as manners
use Rattle.zoom_trace.specs.declared.entry.Given.{Given}
use Rattle.zoom_trace.specs.declared.entry.Given.TheVariants as givens
use Rattle.zoom_trace.specs.declared.entry.Traced.{Traced}
use Rattle.zoom_trace.specs.declared.entry.Traced.TheVariants as traced
use Rattle.zoom_trace.specs.declared.entry.TraceEntry.{TraceEntry}
use Rattle.zoom_trace.specs.declared.notice.Notice.{Notice}
use Rattle.zoom_trace.specs.declared.notice.Notice.TheVariants as notices
use Rattle.zoom_trace.specs.declared.history.Trace.{Trace}
use Rattle.zoom_trace.specs.Lines.{notice_name, line_of, ended_line, trace_of, IsWritable, AreWritable, IsWritableTraced, IsWritableReport, IsWritableTask, IsWritableGiven}
use Rattle.zoom_trace.specs.Reading.{cut}
use Rattle.zoom_trace.specs.Traces.{HasNoFeed, IsNoLine, IsTrace, IsRefusedAt}
use Rattle.zoom_trace.proofs.Finding.{is_free, cut_at, digits_free}
use Rattle.zoom_trace.proofs.Tails.{counted_end, number_end, text_end, report_tail, task_tail, connection_then, given_tail, traced_tail}
use Rattle.zoom_trace.proofs.ReadLines.{at_front, line_is, hex_free, one_entry}

-- ---- lines have no line feed

free_append : (xs ys : List ℕ) → is_free 10 xs ≡ true → is_free 10 ys ≡ true → is_free 10 (xs ++ ys) ≡ true
free_append xs ys f g = list_all-append (λ x. not (x == 10)) xs ys ∙ and_from _ _ f g

decimal_free : (n : ℕ) (more : List ℕ) → n < 2 ^ 64 → is_free 10 more ≡ true → is_free 10 (decimal n ++ more) ≡ true
decimal_free n more h f = free_append (decimal n) more (digits_free 10 (decimal n) refl (decimal-digits n h).0) f

hex_then_free : (octets more : List ℕ) → IsBytes octets → is_free 10 more ≡ true
    → is_free 10 (encode_lower octets ++ more) ≡ true
hex_then_free octets more f g = free_append (encode_lower octets) more (hex_free 10 refl octets f) g

report_free : (r : Report) → IsWritableReport r → is_free 10 (report_tail r) ≡ true
report_free (reports.Resolved n) h = decimal_free n (125 ∷ []) h refl
report_free (reports.Connected k) h = decimal_free k (125 ∷ []) h refl
report_free (reports.Unreachable k) h = decimal_free k (125 ∷ []) h refl
report_free (reports.NoSocket k) h = decimal_free k (125 ∷ []) h refl
report_free reports.Taken h = refl
report_free reports.End h = refl
report_free reports.Unreadable h = refl
report_free reports.Unwritable h = refl

task_free : (t : Task) → IsWritableTask t → is_free 10 (task_tail t) ≡ true
task_free (tasks.Connect k) h = decimal_free k (125 ∷ []) h refl
task_free tasks.Send h = refl
task_free tasks.Read h = refl
task_free (tasks.Leave k) h = decimal_free k (125 ∷ []) h refl

connection_free : (c : ℕ) (more : List ℕ) → c < 2 ^ 32 → is_free 10 more ≡ true
    → is_free 10 (connection_then c more) ≡ true
connection_free c more h f = decimal_free c (44 ∷ more) (omega arith) f

given_free : (g : Given) → IsWritableGiven g → is_free 10 (given_tail g) ≡ true
given_free (givens.Version n) h = decimal_free n (125 ∷ []) h refl
given_free (givens.Connect n) h = decimal_free n (125 ∷ []) h refl
given_free (givens.Patience n) h = decimal_free n (125 ∷ []) h refl
given_free (givens.Total n) h = decimal_free n (125 ∷ []) h refl
given_free (givens.World octets) h = hex_then_free octets (34 ∷ 125 ∷ []) h refl
given_free (givens.Query octets) h = hex_then_free octets (34 ∷ 125 ∷ []) h refl
given_free (givens.Records octets) h = hex_then_free octets (34 ∷ 125 ∷ []) h refl
given_free (givens.Elements octets) h = hex_then_free octets (34 ∷ 125 ∷ []) h refl
given_free (givens.Syntax octets) h = hex_then_free octets (34 ∷ 125 ∷ []) h refl
given_free (givens.Only octets) h = hex_then_free octets (34 ∷ 125 ∷ []) h refl
given_free (givens.Manner manners.AtOnce) h = refl
given_free (givens.Manner manners.InOrder) h = refl

notice_free : (notice : Notice) → is_free 10 (text_end (codes "notice") (notice_name notice)) ≡ true
notice_free notices.Nothing = refl
notice_free notices.NoPort = refl
notice_free notices.NoName = refl
notice_free notices.NoFamily = refl
notice_free notices.Refused = refl
notice_free notices.NoRoute = refl
notice_free notices.Ended = refl
notice_free notices.Reset = refl

traced_free : (w : Traced) → IsWritableTraced w → is_free 10 (traced_tail w) ≡ true
traced_free (traced.Began given) h = given_free given h
traced_free (traced.Reported c report) h = connection_free c (report_tail report) h.0 (report_free report h.1)
traced_free (traced.Received c octets) h =
    connection_free c (text_end (codes "received") (encode_lower octets)) h.0
    (hex_then_free octets (34 ∷ 125 ∷ []) h.1 refl)
traced_free traced.Ticked h = refl
traced_free traced.GaveUp h = refl
traced_free (traced.Wanted c task) h = connection_free c (task_tail task) h.0 (task_free task h.1)
traced_free (traced.Sent c octets) h =
    connection_free c (text_end (codes "sent") (encode_lower octets)) h.0
    (hex_then_free octets (34 ∷ 125 ∷ []) h.1 refl)
traced_free (traced.Noticed c notice) h =
    connection_free c (text_end (codes "notice") (notice_name notice)) h (notice_free notice)

line_free : (e : TraceEntry) → IsWritable e → is_free 10 (line_of e) ≡ true
line_free e h = ap (is_free 10) (line_is e) ∙ decimal_free e.at (44 ∷ traced_tail e.what) h.0 (traced_free e.what h.1)

no_feed_free : (xs : List ℕ) → HasNoFeed xs → is_free 10 xs ≡ true
no_feed_free [] f = refl
no_feed_free (x ∷ xs) f =
    and_from _ _ (ap not (ne_eqb x 10 (All-head (λ y. y ≢ 10) x xs f)))
    (no_feed_free xs (All-tail (λ y. y ≢ 10) x xs f))

-- ---- one line after the other

both_parts : (p q : List ℕ × List ℕ) → Some p ≡ Some q → (p.0 ≡ q.0) × (p.1 ≡ q.1)
both_parts p q e =
    let same : p ≡ q = cc in
    (ap (λ (r : List ℕ × List ℕ). r.0) same, ap (λ (r : List ℕ × List ℕ). r.1) same)

one_cut : (xs ys more others : List ℕ) → is_free 10 xs ≡ true → is_free 10 ys ≡ true
    → xs ++ 10 ∷ more ≡ ys ++ 10 ∷ others → (xs ≡ ys) × (more ≡ others)
one_cut xs ys more others f g e =
    both_parts (xs, more) (ys, others) (sym (cut_at 10 xs more f) ∙ ap (cut 10) e ∙ cut_at 10 ys others g)

-- the line feed of the first line stands before the others
front : (e : TraceEntry) (more : List ℕ) → ended_line e ++ more ≡ line_of e ++ 10 ∷ more
front e more = append_assoc (line_of e) (codes "\n") more

some_line : (xs more : List ℕ) → [] ≡ xs ++ 10 ∷ more → ⊥
some_line [] more e = cc
some_line (x ∷ xs) more e = cc

-- what stands behind the lines of the first entries
pub record AreParts (es fs : List TraceEntry) (rest : List ℕ) : Type 0 where
  pub others : List TraceEntry
  pub whole : es ≡ fs ++ others
  pub left : trace_of others ≡ rest
  pub writable : AreWritable others

pub parts : (es fs : List TraceEntry) (rest : List ℕ) → AreWritable es → AreWritable fs
    → trace_of es ≡ trace_of fs ++ rest
    → AreParts es fs rest
parts es [] rest h g e = record { others = es; whole = refl; left = e; writable = h }
parts [] (f ∷ fs) rest h g e =
    absurd (some_line (line_of f) (trace_of fs ++ rest)
    (e ∙ append_assoc (ended_line f) (trace_of fs) rest ∙ front f (trace_of fs ++ rest)))
parts (e ∷ es) (f ∷ fs) rest h g same =
    let both = one_cut (line_of e) (line_of f) (trace_of es) (trace_of fs ++ rest) (line_free e h.0) (line_free f g.0)
    (sym (front e (trace_of es)) ∙ same ∙ append_assoc (ended_line f) (trace_of fs) rest
    ∙ front f (trace_of fs ++ rest)) in
    let others = parts es fs rest h.1 g.1 both.1 in
    let first = one_entry e f h.0 g.0 both.0 in
    record {
      others = others.others;
      whole = ap (λ (x : TraceEntry). x ∷ es) first ∙ ap (λ (xs : List TraceEntry). f ∷ xs) others.whole;
      left = others.left;
      writable = others.writable;
    }

has_feed : (xs more : List ℕ) → HasNoFeed (xs ++ 10 ∷ more) → ⊥
has_feed [] more f = All-head (λ y. y ≢ 10) 10 more f refl
has_feed (x ∷ xs) more f = has_feed xs more (All-tail (λ y. y ≢ 10) x (xs ++ 10 ∷ more) f)

-- lines without a line feed are no lines
none_left : (es : List TraceEntry) (rest : List ℕ) → trace_of es ≡ rest → HasNoFeed rest → (es ≡ []) × (rest ≡ [])
none_left [] rest e f = (refl, sym e)
none_left (x ∷ xs) rest e f =
    absurd (has_feed (line_of x) (trace_of xs) (subst HasNoFeed (sym e ∙ front x (trace_of xs)) f))

pub whole_read : (written : List TraceEntry) (trace : Trace) → AreWritable written → IsTrace (trace_of written) trace
    → (trace.entries.items ≡ written) × (trace.is_cut ≡ false)
whole_read written trace h t =
    let p = parts written trace.entries.items t.rest h t.writable t.whole in
    let n = none_left p.others t.rest p.left t.within in (
      sym (p.whole ∙ ap (λ (xs : List TraceEntry). trace.entries.items ++ xs) n.0 ∙ append-nil trace.entries.items),
      t.cut ∙ ap (λ (xs : List ℕ). not (length xs == 0)) n.1,
    )

pub prefix_read : (written : List TraceEntry) (text more : List ℕ) (trace : Trace) → AreWritable written
    → trace_of written ≡ text ++ more → IsTrace text trace
    → (others : List TraceEntry) × (written ≡ trace.entries.items ++ others)
prefix_read written text more trace h e t =
    let p = parts written trace.entries.items (t.rest ++ more) h t.writable
    (e ∙ ap (λ (xs : List ℕ). xs ++ more) t.whole ∙ append_assoc (trace_of trace.entries.items) t.rest more) in
    (p.others, p.whole)

-- the line of an entry is not refused
not_first : (es : List TraceEntry) (line more : List ℕ) → AreWritable es → trace_of es ≡ line ++ 10 ∷ more
    → HasNoFeed line
    → IsNoLine line → ⊥
not_first [] line more h e f refused = some_line line more e
not_first (x ∷ xs) line more h e f refused =
    let both = one_cut (line_of x) line (trace_of xs) more (line_free x h.0) (no_feed_free line f)
    (sym (front x (trace_of xs)) ∙ e) in
    refused x h.0 (sym both.0)

pub none_refused : (written : List TraceEntry) (text more : List ℕ) (number : ℕ) → AreWritable written
    → trace_of written ≡ text ++ more → IsRefusedAt text number → ⊥
none_refused written text more number h e r =
    let p = parts written r.entries (r.line ++ 10 ∷ (r.rest ++ more)) h r.writable
    (e ∙ ap (λ (xs : List ℕ). xs ++ more) r.whole
    ∙ append_assoc (trace_of r.entries) (r.line ++ 10 ∷ r.rest) more
    ∙ ap (λ (xs : List ℕ). trace_of r.entries ++ xs) (append_assoc r.line (10 ∷ r.rest) more)) in
    not_first p.others r.line (r.rest ++ more) p.writable p.left r.within r.refused
