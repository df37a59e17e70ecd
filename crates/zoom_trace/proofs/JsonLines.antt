-- The line of an entry is an object of JSON.
use Rattle.std.proofs.Common.{◌≡◌, ◌≢◌, refl, sym, ◌∙◌, ap, ℕ, zero, suc, ◌/◌, ◌%◌, ◌^◌, ◌<◌, List, [], ◌∷◌, ◌++◌, true, false, not, ◌&&◌, Bool, slice_index, inl, inr, arith, append_assoc}
use Rattle.std.specs.Prelude.{codes}
use Rattle.std.specs.Fmt.{decimal}
use Rattle.std.specs.List.{list_all}
use Rattle.std.specs.Str.{bytes_eq}
use Rattle.std.proofs.lemmas.Bool.{and_parts, cases_lt}
use Rattle.std.proofs.lemmas.List.Elements.{All-weaker}
use Rattle.std.proofs.lemmas.List.Kept.{AllPairs-cons}
use Rattle.std.proofs.lemmas.List.Sums.{AllPass-from_list_all}
use Rattle.std.proofs.lemmas.Slice.Eq.{bytes_eq-Decides}
use Rattle.hex.specs.Hex.{encode_lower, encode_with, lower_digits, IsBytes}
use Rattle.json.specs.Json.{Members}
use Rattle.json.specs.Print.{escape_byte, escape, print_from}
use Rattle.json.specs.Strict.{AreDistinct, keys, MembersHaveUniqueKeys}
use Rattle.json.specs.Tree.{members_tokens, MembersHaveNumbers}
use Rattle.json.proofs.Printed.Decimals.{IsNumber-decimal}
use Rattle.zoom_clock.specs.declared.action.Task.{Task}
use Rattle.zoom_clock.specs.declared.action.Task.TheVariants as tasks
use Rattle.zoom_asking.specs.declared.inquiry.Report.{Report}
use Rattle.zoom_asking.specs.declared.inquiry.Report.TheVariants as reports
use Rattle.zoom_asking.specs.declared.inquiry.Manner.TheVariants as manners
use Rattle.zoom_trace.specs.declared.entry.Given.{Given}
use Rattle.zoom_trace.specs.declared.entry.Given.TheVariants as givens
use Rattle.zoom_trace.specs.declared.entry.Traced.{Traced}
use Rattle.zoom_trace.specs.declared.entry.Traced.TheVariants as traced
use Rattle.zoom_trace.specs.declared.entry.TraceEntry.{TraceEntry}
use Rattle.zoom_trace.specs.declared.notice.Notice.{Notice}
use Rattle.zoom_trace.specs.declared.notice.Notice.TheVariants as notices
use Rattle.zoom_trace.specs.Lines.{notice_name, line_of, IsWritable, IsWritableTraced, IsWritableReport, IsWritableTask, IsWritableGiven}
use Rattle.zoom_trace.specs.Json.{last_text, last_octets, on_connection, given_object, report_object, task_object, traced_object, entry_object, IsJsonObject}
use Rattle.zoom_trace.proofs.Tails.{in_marks, text_end, connection_then, octets_end, given_tail, report_tail, task_tail, traced_tail}
use Rattle.zoom_trace.proofs.ReadLines.{at_front, line_is}

-- ---- digits need no escapes

-- the digit at this place
abbrev digit : ℕ → ℕ
digit d = slice_index lower_digits d

abbrev is_plain : ℕ → Bool
is_plain d = bytes_eq (escape_byte (digit d)) (digit d ∷ [])

-- the digits before this place are plain
abbrev are_plain : ℕ → Bool
are_plain zero = true
are_plain (suc n) = is_plain n && are_plain n

plain_at : (n d : ℕ) → are_plain n ≡ true → d < n → is_plain d ≡ true
plain_at zero d h l = absurd (omega arith)
plain_at (suc n) d h l =
    let both = and_parts (is_plain n) (are_plain n) h in
    elim (cases_lt d n) [
      | inl below ↦ plain_at n d both.1 below
      | inr top ↦
          let e : d ≡ n = omega arith in
          rw e both.0
    ]

all_plain : are_plain 16 ≡ true
unfolding escape_byte
all_plain = refl

digit_escaped : (d : ℕ) → d < 16 → escape_byte (digit d) ≡ digit d ∷ []
digit_escaped d h = (bytes_eq-Decides (escape_byte (digit d)) (digit d ∷ [])).0 (plain_at 16 d all_plain h)

hex_escaped : (octets : List ℕ) → IsBytes octets → escape (encode_lower octets) ≡ encode_lower octets
unfolding encode_with
hex_escaped [] f = refl
hex_escaped (x ∷ xs) f =
    let small : x < 256 = f 0 in
    let rest = escape (encode_lower xs) in
    ap (λ (ys : List ℕ). ys ++ (escape_byte (digit (x % 16)) ++ rest)) (digit_escaped (x / 16) (omega arith))
    ∙ ap (λ (ys : List ℕ). digit (x / 16) ∷ (ys ++ rest)) (digit_escaped (x % 16) (omega arith))
    ∙ ap (λ (ys : List ℕ). digit (x / 16) ∷ digit (x % 16) ∷ ys) (hex_escaped xs (λ i. f (suc i)))

-- ---- keys

abbrev is_distinct : List (List ℕ) → Bool
is_distinct [] = true
is_distinct (f ∷ fs) = list_all (λ g. not (bytes_eq f g)) fs && is_distinct fs

unequal : (f g : List ℕ) → not (bytes_eq f g) ≡ true → f ≢ g
unequal f g h e = let same = (bytes_eq-Decides f g).1 e in absurd (cc)

distinct : (ks : List (List ℕ)) → is_distinct ks ≡ true → AreDistinct ks
distinct [] h = λ i j x p q. absurd (omega arith)
distinct (k ∷ ks) h =
    let both = and_parts (list_all (λ g. not (bytes_eq k g)) ks) (is_distinct ks) h in
    AllPairs-cons (λ a b. a ≢ b) k ks
    (All-weaker (λ g. not (bytes_eq k g) ≡ true) (λ g. k ≢ g) (unequal k) ks
    (AllPass-from_list_all (λ g. not (bytes_eq k g)) ks both.0))
    (distinct ks both.1)

-- ---- members

-- the text of members behind others, without the comma
record ArePrinted (ms : Members) (more : List ℕ) : Type 0 where
  pub is : print_from true (members_tokens ms) ≡ 44 ∷ more
  pub numbers : MembersHaveNumbers ms
  pub within : MembersHaveUniqueKeys ms
  pub keyed : is_distinct (codes "at" ∷ keys ms) ≡ true

-- the same of those that stand behind the number of a connection
record AreBehind (ms : Members) (more : List ℕ) : Type 0 where
  pub is : print_from true (members_tokens ms) ≡ 44 ∷ more
  pub numbers : MembersHaveNumbers ms
  pub within : MembersHaveUniqueKeys ms
  pub keyed : is_distinct (codes "at" ∷ codes "connection" ∷ keys ms) ≡ true

report_printed : (r : Report) → IsWritableReport r → AreBehind (report_object r) (report_tail r)
unfolding print_from escape_byte
report_printed (reports.Resolved n) h =
    record { is = refl; numbers = (tt, (IsNumber-decimal n h, tt)); within = (tt, (tt, tt)); keyed = refl }
report_printed (reports.Connected k) h =
    record { is = refl; numbers = (tt, (IsNumber-decimal k h, tt)); within = (tt, (tt, tt)); keyed = refl }
report_printed (reports.Unreachable k) h =
    record { is = refl; numbers = (tt, (IsNumber-decimal k h, tt)); within = (tt, (tt, tt)); keyed = refl }
report_printed (reports.NoSocket k) h =
    record { is = refl; numbers = (tt, (IsNumber-decimal k h, tt)); within = (tt, (tt, tt)); keyed = refl }
report_printed reports.Taken h = record { is = refl; numbers = (tt, tt); within = (tt, tt); keyed = refl }
report_printed reports.End h = record { is = refl; numbers = (tt, tt); within = (tt, tt); keyed = refl }
report_printed reports.Unreadable h = record { is = refl; numbers = (tt, tt); within = (tt, tt); keyed = refl }
report_printed reports.Unwritable h = record { is = refl; numbers = (tt, tt); within = (tt, tt); keyed = refl }

task_printed : (t : Task) → IsWritableTask t → AreBehind (task_object t) (task_tail t)
unfolding print_from escape_byte
task_printed (tasks.Connect k) h =
    record { is = refl; numbers = (tt, (IsNumber-decimal k h, tt)); within = (tt, (tt, tt)); keyed = refl }
task_printed tasks.Send h = record { is = refl; numbers = (tt, tt); within = (tt, tt); keyed = refl }
task_printed tasks.Read h = record { is = refl; numbers = (tt, tt); within = (tt, tt); keyed = refl }
task_printed (tasks.Leave k) h =
    record { is = refl; numbers = (tt, (IsNumber-decimal k h, tt)); within = (tt, (tt, tt)); keyed = refl }

-- octets, and the end
escaped_end : (octets : List ℕ) → IsBytes octets
    → (escape (encode_lower octets) ++ codes "\"") ++ codes "}" ≡ encode_lower octets ++ codes "\"}"
escaped_end octets f =
    append_assoc (escape (encode_lower octets)) (codes "\"") (codes "}")
    ∙ ap (λ (ys : List ℕ). ys ++ codes "\"}") (hex_escaped octets f)

received_printed : (octets : List ℕ) → IsBytes octets
    → AreBehind (last_text (codes "received") (encode_lower octets)) (text_end (codes "received") (encode_lower octets))
unfolding print_from escape_byte
received_printed octets f = record {
  is = ap (λ (ys : List ℕ). 44 ∷ in_marks (codes "received") (58 ∷ 34 ∷ ys)) (escaped_end octets f);
  numbers = (tt, tt);
  within = (tt, tt);
  keyed = refl;
}

sent_printed : (octets : List ℕ) → IsBytes octets
    → AreBehind (last_text (codes "sent") (encode_lower octets)) (text_end (codes "sent") (encode_lower octets))
unfolding print_from escape_byte
sent_printed octets f = record {
  is = ap (λ (ys : List ℕ). 44 ∷ in_marks (codes "sent") (58 ∷ 34 ∷ ys)) (escaped_end octets f);
  numbers = (tt, tt);
  within = (tt, tt);
  keyed = refl;
}

notice_printed : (notice : Notice)
    → AreBehind (last_text (codes "notice") (notice_name notice)) (text_end (codes "notice") (notice_name notice))
unfolding print_from escape_byte
notice_printed notices.Nothing = record { is = refl; numbers = (tt, tt); within = (tt, tt); keyed = refl }
notice_printed notices.NoPort = record { is = refl; numbers = (tt, tt); within = (tt, tt); keyed = refl }
notice_printed notices.NoName = record { is = refl; numbers = (tt, tt); within = (tt, tt); keyed = refl }
notice_printed notices.NoFamily = record { is = refl; numbers = (tt, tt); within = (tt, tt); keyed = refl }
notice_printed notices.Refused = record { is = refl; numbers = (tt, tt); within = (tt, tt); keyed = refl }
notice_printed notices.NoRoute = record { is = refl; numbers = (tt, tt); within = (tt, tt); keyed = refl }
notice_printed notices.Ended = record { is = refl; numbers = (tt, tt); within = (tt, tt); keyed = refl }
notice_printed notices.Reset = record { is = refl; numbers = (tt, tt); within = (tt, tt); keyed = refl }

connection_printed : (c : ℕ) (ms : Members) (more : List ℕ) → c < 2 ^ 32 → AreBehind ms more
    → ArePrinted (on_connection c ms) (connection_then c more)
unfolding print_from escape_byte
connection_printed c ms more h b = record {
  is = ap (λ (ys : List ℕ). 44 ∷ in_marks (codes "connection") (58 ∷ (decimal c ++ ys))) b.is;
  numbers = (IsNumber-decimal c (omega arith), b.numbers);
  within = (tt, b.within);
  keyed = b.keyed;
}

given_octets : (name octets : List ℕ) → IsBytes octets
    → print_from true (members_tokens (last_octets name octets))
    ≡ 44 ∷ in_marks name (58 ∷ 34 ∷ ((escape (encode_lower octets) ++ codes "\"") ++ codes "}"))
    → is_distinct (codes "at" ∷ name ∷ []) ≡ true
    → ArePrinted (last_octets name octets) (octets_end name octets)
given_octets name octets f e d = record {
  is = e ∙ ap (λ (ys : List ℕ). 44 ∷ in_marks name (58 ∷ 34 ∷ ys)) (escaped_end octets f);
  numbers = (tt, tt);
  within = (tt, tt);
  keyed = d;
}

given_printed : (g : Given) → IsWritableGiven g → ArePrinted (given_object g) (given_tail g)
unfolding print_from escape_byte
given_printed (givens.Version n) h =
    record { is = refl; numbers = (IsNumber-decimal n h, tt); within = (tt, tt); keyed = refl }
given_printed (givens.Connect n) h =
    record { is = refl; numbers = (IsNumber-decimal n h, tt); within = (tt, tt); keyed = refl }
given_printed (givens.Patience n) h =
    record { is = refl; numbers = (IsNumber-decimal n h, tt); within = (tt, tt); keyed = refl }
given_printed (givens.Total n) h =
    record { is = refl; numbers = (IsNumber-decimal n h, tt); within = (tt, tt); keyed = refl }
given_printed (givens.World octets) h = given_octets (codes "world") octets h refl refl
given_printed (givens.Query octets) h = given_octets (codes "query") octets h refl refl
given_printed (givens.Records octets) h = given_octets (codes "records") octets h refl refl
given_printed (givens.Elements octets) h = given_octets (codes "elements") octets h refl refl
given_printed (givens.Syntax octets) h = given_octets (codes "syntax") octets h refl refl
given_printed (givens.Only octets) h = given_octets (codes "only") octets h refl refl
given_printed (givens.Manner manners.AtOnce) h =
    record { is = refl; numbers = (tt, tt); within = (tt, tt); keyed = refl }
given_printed (givens.Manner manners.InOrder) h =
    record { is = refl; numbers = (tt, tt); within = (tt, tt); keyed = refl }

traced_printed : (w : Traced) → IsWritableTraced w → ArePrinted (traced_object w) (traced_tail w)
unfolding print_from escape_byte
traced_printed (traced.Began given) h = given_printed given h
traced_printed (traced.Reported c report) h =
    connection_printed c (report_object report) (report_tail report) h.0 (report_printed report h.1)
traced_printed (traced.Received c octets) h =
    connection_printed c (last_text (codes "received") (encode_lower octets))
    (text_end (codes "received") (encode_lower octets)) h.0 (received_printed octets h.1)
traced_printed traced.Ticked h = record { is = refl; numbers = (tt, tt); within = (tt, tt); keyed = refl }
traced_printed traced.GaveUp h = record { is = refl; numbers = (tt, tt); within = (tt, tt); keyed = refl }
traced_printed (traced.Wanted c task) h =
    connection_printed c (task_object task) (task_tail task) h.0 (task_printed task h.1)
traced_printed (traced.Sent c octets) h =
    connection_printed c (last_text (codes "sent") (encode_lower octets))
    (text_end (codes "sent") (encode_lower octets)) h.0 (sent_printed octets h.1)
traced_printed (traced.Noticed c notice) h =
    connection_printed c (last_text (codes "notice") (notice_name notice))
    (text_end (codes "notice") (notice_name notice)) h (notice_printed notice)

pub entry_printed : (e : TraceEntry) → IsWritable e → IsJsonObject (entry_object e) (line_of e)
unfolding print_from escape_byte
entry_printed e h =
    let w = traced_printed e.what h.1 in
    record {
      is = ap (λ (ys : List ℕ). at_front ++ 58 ∷ (decimal e.at ++ ys)) w.is ∙ sym (line_is e);
      numbers = (IsNumber-decimal e.at h.0, w.numbers);
      unique_keys = (distinct (keys (entry_object e)) w.keyed, (tt, w.within));
    }
