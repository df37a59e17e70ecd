-- What is read of the line of an entry: that entry.
use Rattle.std.proofs.Common.{◌≡◌, refl, sym, ◌∙◌, ap, ℕ, suc, ◌-◌, ◌/◌, ◌%◌, ◌^◌, ◌<◌, ◌≤◌, List, [], ◌∷◌, ◌++◌, true, not, ◌==◌, Option, Some, None, arith, slice_index, append_assoc}
use Rattle.std.specs.Prelude.{codes}
use Rattle.std.proofs.lemmas.Bool.{and_from, ne_eqb}
use Rattle.std.specs.Fmt.{decimal}
use Rattle.std.specs.List.{list_all}
use Rattle.std.specs.Option.{option_map, option_and_then, option_or}
use Rattle.std.specs.Result.{result_ok}
use Rattle.hex.specs.Hex.{encode_lower, encode_with, lower_digits, hex_digit_value, IsBytes}
use Rattle.hex.proofs.HexLemmas.{decode_of-encode_lower, IsDigits-lower_digits}
use Rattle.zoom_clock.specs.declared.action.Task.{Task}
use Rattle.zoom_clock.specs.declared.action.Task.TheVariants as tasks
use Rattle.zoom_asking.specs.declared.inquiry.Report.{Report}
use Rattle.zoom_asking.specs.declared.inquiry.Report.TheVariants as reports
use Rattle.zoom_asking.specs.declared.inquiry.Manner.TheVariants as manners
use Rattle.zoom_trace.specs.declared.entry.Given.{Given}
use Rattle.zoom_trace.specs.declared.entry.Given.TheVariants as givens
use Rattle.zoom_trace.specs.declared.entry.Traced.{Traced}
use Rattle.zoom_trace.specs.declared.entry.Traced.TheVariants as traced
use Rattle.zoom_trace.specs.declared.entry.TraceEntry.{TraceEntry}
use Rattle.zoom_trace.specs.declared.notice.Notice.{Notice}
use Rattle.zoom_trace.specs.declared.notice.Notice.TheVariants as notices
use Rattle.zoom_trace.specs.Lines.{traced_members, notice_name, line_of, IsWritable, IsWritableTraced, IsWritableReport, IsWritableTask, IsWritableGiven}
use Rattle.zoom_trace.specs.Reading.{word, number_in, count_in, report_of, task_of, notice_of, octets_of, traced_by, traced_with, traced_from, traced_on, traced_as, traced_of_all, traced_behind, traced_of, entry_at, entry_of, octets_in, manner_named, number_given, octets_given, text_given, given_by}
use Rattle.zoom_trace.proofs.Finding.{is_free, word_at, number_at}
use Rattle.zoom_trace.proofs.Tails.{in_marks, text_then, number_end, counted_end, text_end, report_tail, task_tail, connection_then, last_number_end, octets_end, given_tail, traced_tail, traced_members_tail}

-- ---- the last number

count_at : (label : List ℕ) (n : ℕ) → is_free 58 (44 ∷ in_marks label []) ≡ true → n < 2 ^ 64
    → number_end label n ≡ (44 ∷ in_marks label []) ++ 58 ∷ (decimal n ++ 125 ∷ [])
    → count_in (number_end label n) ≡ Some n
count_at label n f h e =
    ap count_in e
    ∙ ap (option_map (λ (p : ℕ × List ℕ). p.0))
    (number_at (44 ∷ in_marks label []) 125 (2 ^ 64 - 1) n [] f refl h (omega arith))

addresses_at : (n : ℕ) → n < 2 ^ 64 → count_in (number_end (codes "addresses") n) ≡ Some n
addresses_at n h = count_at (codes "addresses") n refl h refl

attempt_at : (k : ℕ) → k < 2 ^ 64 → count_in (number_end (codes "attempt") k) ≡ Some k
attempt_at k h = count_at (codes "attempt") k refl h refl

-- ---- octets

digit_free : (mark d : ℕ) → hex_digit_value mark ≡ None → d < 16 → not (slice_index lower_digits d == mark) ≡ true
digit_free mark d g h =
    ap not (ne_eqb (slice_index lower_digits d) mark (λ e.
    let z : None ≡ Some d = sym g ∙ sym (ap hex_digit_value e) ∙ IsDigits-lower_digits d h in cc))

-- digits have no octet that is no digit
pub hex_free : (mark : ℕ) → hex_digit_value mark ≡ None → (octets : List ℕ) → IsBytes octets
    → is_free mark (encode_lower octets) ≡ true
unfolding encode_with
hex_free mark g [] f = refl
hex_free mark g (x ∷ xs) f =
    let small : x < 256 = f 0 in
    and_from _ _ (digit_free mark (x / 16) g (omega arith))
    (and_from _ _ (digit_free mark (x % 16) g (omega arith)) (hex_free mark g xs (λ i. f (suc i))))

octets_at : (octets : List ℕ) → IsBytes octets → octets_of (encode_lower octets) ≡ Some octets
octets_at octets f = ap result_ok (decode_of-encode_lower octets f)

-- ---- what is told of a connection

-- the two words of a member
words_at : (c : ℕ) (name value more : List ℕ) → is_free 34 name ≡ true → is_free 34 value ≡ true
    → traced_from c (text_then name value more) ≡ traced_by c name value more
words_at c name value more f g =
    ap (option_and_then (λ (p : List ℕ × List ℕ). traced_with c p.0 p.1))
    (word_at [] name (58 ∷ in_marks value more) refl f)
    ∙ ap (option_and_then (λ (p : List ℕ × List ℕ). traced_by c name p.0 p.1)) (word_at (58 ∷ []) value more refl g)

-- a report with a number
counted_report : (c : ℕ) (name label : List ℕ) (n : ℕ) (report : ℕ → Report) → is_free 34 name ≡ true
    → count_in (number_end label n) ≡ Some n
    → traced_by c (codes "report") name (number_end label n)
    ≡ option_map (traced.Reported c) (option_map report (count_in (number_end label n)))
    → traced_from c (counted_end (codes "report") name label n) ≡ Some (traced.Reported c (report n))
counted_report c name label n report f h e =
    words_at c (codes "report") name (number_end label n) refl f
    ∙ e ∙ ap (λ (o : Option ℕ). option_map (traced.Reported c) (option_map report o)) h

report_at : (c : ℕ) (r : Report) → IsWritableReport r → traced_from c (report_tail r) ≡ Some (traced.Reported c r)
unfolding traced_by report_of
report_at c (reports.Resolved n) h =
    counted_report c (codes "resolved") (codes "addresses") n reports.Resolved refl (addresses_at n h) refl
report_at c (reports.Connected k) h =
    counted_report c (codes "connected") (codes "attempt") k reports.Connected refl (attempt_at k h) refl
report_at c (reports.Unreachable k) h =
    counted_report c (codes "unreachable") (codes "attempt") k reports.Unreachable refl (attempt_at k h) refl
report_at c (reports.NoSocket k) h =
    counted_report c (codes "noSocket") (codes "attempt") k reports.NoSocket refl (attempt_at k h) refl
report_at c reports.Taken h = words_at c (codes "report") (codes "taken") (125 ∷ []) refl refl
report_at c reports.End h = words_at c (codes "report") (codes "end") (125 ∷ []) refl refl
report_at c reports.Unreadable h = words_at c (codes "report") (codes "unreadable") (125 ∷ []) refl refl
report_at c reports.Unwritable h = words_at c (codes "report") (codes "unwritable") (125 ∷ []) refl refl

-- a task with a number
counted_task : (c : ℕ) (name : List ℕ) (k : ℕ) (task : ℕ → Task) → is_free 34 name ≡ true → k < 2 ^ 64
    → traced_by c (codes "action") name (number_end (codes "attempt") k)
    ≡ option_map (traced.Wanted c) (option_map task (count_in (number_end (codes "attempt") k)))
    → traced_from c (counted_end (codes "action") name (codes "attempt") k) ≡ Some (traced.Wanted c (task k))
counted_task c name k task f h e =
    words_at c (codes "action") name (number_end (codes "attempt") k) refl f
    ∙ e ∙ ap (λ (o : Option ℕ). option_map (traced.Wanted c) (option_map task o)) (attempt_at k h)

task_at : (c : ℕ) (t : Task) → IsWritableTask t → traced_from c (task_tail t) ≡ Some (traced.Wanted c t)
unfolding traced_by task_of
task_at c (tasks.Connect k) h = counted_task c (codes "connect") k tasks.Connect refl h refl
task_at c tasks.Send h = words_at c (codes "action") (codes "send") (125 ∷ []) refl refl
task_at c tasks.Read h = words_at c (codes "action") (codes "read") (125 ∷ []) refl refl
task_at c (tasks.Leave k) h = counted_task c (codes "leave") k tasks.Leave refl h refl

received_at : (c : ℕ) (octets : List ℕ) → IsBytes octets
    → traced_from c (text_end (codes "received") (encode_lower octets)) ≡ Some (traced.Received c octets)
unfolding traced_by
received_at c octets f =
    words_at c (codes "received") (encode_lower octets) (125 ∷ []) refl (hex_free 34 refl octets f)
    ∙ ap (option_map (traced.Received c)) (octets_at octets f)

sent_at : (c : ℕ) (octets : List ℕ) → IsBytes octets
    → traced_from c (text_end (codes "sent") (encode_lower octets)) ≡ Some (traced.Sent c octets)
unfolding traced_by
sent_at c octets f =
    words_at c (codes "sent") (encode_lower octets) (125 ∷ []) refl (hex_free 34 refl octets f)
    ∙ ap (option_map (traced.Sent c)) (octets_at octets f)

notice_at : (c : ℕ) (notice : Notice)
    → traced_from c (text_end (codes "notice") (notice_name notice)) ≡ Some (traced.Noticed c notice)
unfolding traced_by notice_of
notice_at c notices.Nothing = words_at c (codes "notice") (codes "nothing") (125 ∷ []) refl refl
notice_at c notices.NoPort = words_at c (codes "notice") (codes "noPort") (125 ∷ []) refl refl
notice_at c notices.NoName = words_at c (codes "notice") (codes "noName") (125 ∷ []) refl refl
notice_at c notices.NoFamily = words_at c (codes "notice") (codes "noFamily") (125 ∷ []) refl refl
notice_at c notices.Refused = words_at c (codes "notice") (codes "refused") (125 ∷ []) refl refl
notice_at c notices.NoRoute = words_at c (codes "notice") (codes "noRoute") (125 ∷ []) refl refl
notice_at c notices.Ended = words_at c (codes "notice") (codes "ended") (125 ∷ []) refl refl
notice_at c notices.Reset = words_at c (codes "notice") (codes "reset") (125 ∷ []) refl refl

-- ---- entries

connection_at : (c : ℕ) (more : List ℕ) (w : Traced) → c < 2 ^ 32 → traced_from c more ≡ Some w
    → traced_of (connection_then c more) ≡ Some w
unfolding traced_of
connection_at c more w h e =
    ap (option_and_then traced_behind) (word_at [] (codes "connection") (58 ∷ (decimal c ++ 44 ∷ more)) refl refl)
    ∙ ap (option_and_then (λ (p : ℕ × List ℕ). traced_from p.0 p.1))
    (number_at [] 44 (2 ^ 32 - 1) c more refl refl (omega arith) (omega arith))
    ∙ e

-- the two words of a member of all connections
all_at : (value : List ℕ) → is_free 34 value ≡ true → traced_of (text_end (codes "report") value) ≡ traced_as value
unfolding traced_of
all_at value f =
    ap (option_and_then traced_behind) (word_at [] (codes "report") (58 ∷ in_marks value (125 ∷ [])) refl refl)
    ∙ ap (option_and_then (λ (p : List ℕ × List ℕ). traced_as p.0)) (word_at (58 ∷ []) value (125 ∷ []) refl f)

-- the last number, behind its name
last_at : (n : ℕ) → n < 2 ^ 64 → count_in (58 ∷ (decimal n ++ 125 ∷ [])) ≡ Some n
last_at n h =
    ap (option_map (λ (p : ℕ × List ℕ). p.0)) (number_at [] 125 (2 ^ 64 - 1) n [] refl refl h (omega arith))

-- the last octets, behind their name
hex_at : (octets : List ℕ) → IsBytes octets → octets_in (58 ∷ in_marks (encode_lower octets) (125 ∷ [])) ≡ Some octets
hex_at octets f =
    ap (option_and_then (λ (p : List ℕ × List ℕ). octets_of p.0))
    (word_at (58 ∷ []) (encode_lower octets) (125 ∷ []) refl (hex_free 34 refl octets f))
    ∙ octets_at octets f

-- what the search was given, in a member of this name
given_at : (name rest : List ℕ) (g : Given) → is_free 34 name ≡ true
    → traced_behind (name, rest) ≡ option_map traced.Began (given_by name rest) → given_by name rest ≡ Some g
    → traced_of (in_marks name rest) ≡ Some (traced.Began g)
unfolding traced_of
given_at name rest g f e h =
    ap (option_and_then traced_behind) (word_at [] name rest refl f) ∙ e ∙ ap (option_map traced.Began) h

-- the same of a number
number_read : (name : List ℕ) (n : ℕ) (given : ℕ → Given) → is_free 34 name ≡ true
    → traced_behind (name, 58 ∷ (decimal n ++ 125 ∷ []))
    ≡ option_map traced.Began (given_by name (58 ∷ (decimal n ++ 125 ∷ [])))
    → number_given name (58 ∷ (decimal n ++ 125 ∷ [])) ≡ option_map given (count_in (58 ∷ (decimal n ++ 125 ∷ [])))
    → n < 2 ^ 64 → traced_of (last_number_end name n) ≡ Some (traced.Began (given n))
number_read name n given f e g h =
    let rest = 58 ∷ (decimal n ++ 125 ∷ []) in
    given_at name rest (given n) f e
    (ap (λ (o : Option Given). option_or o (text_given name rest)) (g ∙ ap (option_map given) (last_at n h)))

-- the same of octets
octets_read : (name octets : List ℕ) (g : Given) → is_free 34 name ≡ true
    → traced_behind (name, 58 ∷ in_marks (encode_lower octets) (125 ∷ []))
    ≡ option_map traced.Began (given_by name (58 ∷ in_marks (encode_lower octets) (125 ∷ [])))
    → number_given name (58 ∷ in_marks (encode_lower octets) (125 ∷ [])) ≡ None
    → octets_given name octets ≡ Some g → IsBytes octets → traced_of (octets_end name octets) ≡ Some (traced.Began g)
octets_read name octets g f e none some h =
    let rest = 58 ∷ in_marks (encode_lower octets) (125 ∷ []) in
    given_at name rest g f e
    (ap (λ (o : Option Given). option_or o (text_given name rest)) none
    ∙ ap (option_and_then (octets_given name)) (hex_at octets h) ∙ some)

-- the same of a manner
manner_read : (name : List ℕ) (g : Given) → is_free 34 name ≡ true
    → option_map givens.Manner (manner_named name) ≡ Some g
    → traced_of (text_end (codes "manner") name) ≡ Some (traced.Began g)
unfolding number_given
manner_read name g f h =
    let rest = 58 ∷ in_marks name (125 ∷ []) in
    given_at (codes "manner") rest g refl refl
    (ap (λ (o : Option Given). option_or o (text_given (codes "manner") rest))
    (ap (λ (o : Option (List ℕ × List ℕ)).
    option_map givens.Manner (option_and_then (λ (p : List ℕ × List ℕ). manner_named p.0) o))
    (word_at (58 ∷ []) name (125 ∷ []) refl f) ∙ h))

given_read : (g : Given) → IsWritableGiven g → traced_of (given_tail g) ≡ Some (traced.Began g)
unfolding number_given octets_given
given_read (givens.Version n) h = number_read (codes "version") n givens.Version refl refl refl h
given_read (givens.Connect n) h = number_read (codes "connect") n givens.Connect refl refl refl h
given_read (givens.Patience n) h = number_read (codes "patience") n givens.Patience refl refl refl h
given_read (givens.Total n) h = number_read (codes "total") n givens.Total refl refl refl h
given_read (givens.World octets) h = octets_read (codes "world") octets _ refl refl refl refl h
given_read (givens.Query octets) h = octets_read (codes "query") octets _ refl refl refl refl h
given_read (givens.Records octets) h = octets_read (codes "records") octets _ refl refl refl refl h
given_read (givens.Elements octets) h = octets_read (codes "elements") octets _ refl refl refl refl h
given_read (givens.Syntax octets) h = octets_read (codes "syntax") octets _ refl refl refl refl h
given_read (givens.Only octets) h = octets_read (codes "only") octets _ refl refl refl refl h
given_read (givens.Manner manners.AtOnce) h = manner_read (codes "atOnce") _ refl refl
given_read (givens.Manner manners.InOrder) h = manner_read (codes "inOrder") _ refl refl

traced_at : (w : Traced) → IsWritableTraced w → traced_of (traced_tail w) ≡ Some w
traced_at (traced.Began given) h = given_read given h
traced_at (traced.Reported c report) h = connection_at c (report_tail report) _ h.0 (report_at c report h.1)
traced_at (traced.Received c octets) h =
    connection_at c (text_end (codes "received") (encode_lower octets)) _ h.0 (received_at c octets h.1)
traced_at traced.Ticked h = all_at (codes "tick") refl
traced_at traced.GaveUp h = all_at (codes "giveUp") refl
traced_at (traced.Wanted c task) h = connection_at c (task_tail task) _ h.0 (task_at c task h.1)
traced_at (traced.Sent c octets) h =
    connection_at c (text_end (codes "sent") (encode_lower octets)) _ h.0 (sent_at c octets h.1)
traced_at (traced.Noticed c notice) h =
    connection_at c (text_end (codes "notice") (notice_name notice)) _ h (notice_at c notice)

-- the octets before the colon of the time
abbrev pub at_front : List ℕ
at_front = 123 ∷ in_marks (codes "at") []

pub line_is : (e : TraceEntry) → line_of e ≡ at_front ++ 58 ∷ (decimal e.at ++ 44 ∷ traced_tail e.what)
unfolding line_of
line_is e =
    ap (λ (xs : List ℕ). at_front ++ 58 ∷ xs)
    (append_assoc (decimal e.at) (traced_members e.what) (codes "}")
    ∙ ap (λ (xs : List ℕ). decimal e.at ++ xs) (traced_members_tail e.what))

-- of the line of an entry, that entry is read
pub entry_read : (e : TraceEntry) → IsWritable e → entry_of (line_of e) ≡ Some e
unfolding entry_of
entry_read e h =
    ap entry_of (line_is e)
    ∙ ap (option_and_then (λ (p : ℕ × List ℕ). option_map (entry_at p.0) (traced_of p.1)))
    (number_at at_front 44 (2 ^ 64 - 1) e.at (traced_tail e.what) refl refl h.0 (omega (arith, h.0)))
    ∙ ap (option_map (entry_at e.at)) (traced_at e.what h.1)

-- so a line is that of one entry
pub one_entry : (one other : TraceEntry) → IsWritable one → IsWritable other → line_of one ≡ line_of other → one ≡ other
one_entry one other g h e =
    let same : Some one ≡ Some other = sym (entry_read one g) ∙ ap entry_of e ∙ entry_read other h in
    cc
