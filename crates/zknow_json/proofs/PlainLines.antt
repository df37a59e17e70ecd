-- The texts consist of lines of JSON, whatever the names, the character sets, the stops, the facts and the changes are.
use Rattle.std.proofs.Common.{◌≡◌, ℕ, ◌+◌, ◌≤◌, ◌<◌, ℤ, pos, Bool, true, false, cond, Option, Some, None, List, [], ◌∷◌, ◌++◌, refl, sym, ap, subst, ◌∙◌, arith}
use Rattle.std.specs.Prelude.{◌==◌, All, codes, slice_get}
use Rattle.std.specs.List.{flat_map}
use Rattle.std.specs.Ordering.{int_eq}
use Rattle.std.specs.Str.{IsUtf8}
use Rattle.std.proofs.lemmas.List.{append-nil}
use Rattle.std.proofs.lemmas.Grind.{flat_map-append}
use Rattle.std.specs.Str.Lossy.{utf8_lossy}
use Rattle.std.proofs.lemmas.List.Elements.{All-nil, All-cons, All-append, All-weaker}
use Rattle.std.proofs.lemmas.Str.{IsUtf8-from_ascii}
use Rattle.std.proofs.lemmas.Str.Ascii.{IsAscii-from_all}
use Rattle.json.specs.Token.{Token}
use Rattle.json.specs.Json.{Members}
use Rattle.json.specs.Print.{print}
use Rattle.json.proofs.Printed.Utf8.{are_ascii, IsUtf8-are_ascii}
use Rattle.zber.specs.Dotted.{dotted}
use Rattle.zapdu.specs.declared.productions.diagnostic.DiagRec.{DiagRec}
use Rattle.zapdu.specs.declared.productions.diagnostic.DiagRec.TheVariants.{Default, Ext}
use Rattle.zapdu.specs.declared.productions.record.RecordBody.{RecordBody}
use Rattle.zapdu.specs.declared.productions.record.RecordBody.TheVariants.{Retrieval, Surrogate, Fragment}
use Rattle.zapdu.specs.declared.productions.record.Record.{Record}
use Rattle.zapdu.specs.Productions.Diagnostics.{diag_rec}
use Rattle.zapdu.specs.Productions.Records.{whole_record}
use Rattle.zapdu.specs.Text.{info_octets, octets_alone}
use Rattle.zknow.specs.declared.fact.Fact.{Fact}
use Rattle.zknow.specs.declared.tables.keys.RowKey.{RowKey}
use Rattle.zknow.specs.declared.tables.keys.SetKey.{SetKey}
use Rattle.zknow.specs.Encodings.{encoding}
use Rattle.zknow.specs.Known.{counts_at, records_at, is_failed_at, diags_at}
use Rattle.zknow.specs.List.Listing.{ascending, block_key_of, row_key_of}
use Rattle.zknow.specs.Tables.Keys.{set_cmp, row_cmp}
use Rattle.std.specs.List.{filter_map}
use Rattle.zknow_changes.specs.declared.between.Change.{Change}
use Rattle.zknow_changes.specs.declared.between.ChangeKind.{ChangeKind}
use Rattle.zknow_changes.specs.declared.between.ChangeKind.TheVariants.{New, Changed, Gone}
use Rattle.zknow_changes.specs.Lists.{kind_name, names_for}
use Rattle.zmarc.specs.declared.charset.Charset.{Charset}
use Rattle.zmarc.specs.Charsets.{charset_at}
use Rattle.zknow_stops.specs.declared.detail.Detail.{Detail}
use Rattle.zknow_stops.specs.declared.stop.Stop.{Stop}
use Rattle.zknow_stops.specs.Details.{detail_words}
use Rattle.zknow_stops.specs.Laws.{IsPrintable}
use Rattle.zknow_stops.proofs.Words.{words_printable}
use Rattle.zknow_json.specs.Changes.{change_line, change_lines}
use Rattle.zknow_json.specs.Laws.{object_text, HasNoControl, IsJsonObject, AreJsonLines}
use Rattle.zknow_json.specs.Lines.{json_lines}
use Rattle.zknow_json.specs.Members.{line}
use Rattle.zknow_json.specs.Records.{syntax_member, database_member, contents_member, body_kind, body_members, record_object, row_head, record_line, conflict_line, records_line, row_line}
use Rattle.zknow_json.specs.Sets.{catalogue_member, head, count_line, failure_line, condition_members, default_members, diag_members, place_member, diag_line, set_lines}
use Rattle.zknow_json.specs.Stops.{reason_members, stop_line, stop_lines, lines_from}
use Rattle.zknow_json.proofs.Objects.{AreMembers, AreItems, IsObject, no_items_plain, more_items, nothing, both, among, unless, text_plain, natural_plain, integer_plain, octets_plain, received_plain, object_plain, array_plain}
use Rattle.zknow_json.proofs.PlainHoldings.{read_names, read_plain}
use Rattle.zknow_json.proofs.PlainTokens.{print_plain, print_utf8}
use Rattle.zknow_json.proofs.Utf8Texts.{dotted_utf8, lossy_utf8}

-- ---- members

abbrev Names : Type 0
Names = List (List ℕ)

abbrev catalogue_names : Names
catalogue_names = codes "catalogueNumber" ∷ codes "catalogue" ∷ codes "catalogueOctets" ∷ []

catalogue_plain : (target : ℕ) (name : Option (List ℕ)) → AreMembers catalogue_names (catalogue_member target name)
catalogue_plain target None = among catalogue_names refl (natural_plain (codes "catalogueNumber") target refl)
catalogue_plain target (Some name) =
    among catalogue_names refl (received_plain (codes "catalogue") (codes "catalogueOctets") name refl refl)

abbrev head_names : Names
head_names = codes "type" ∷ catalogue_names ++ codes "set" ∷ []

head_plain : (kind : List ℕ) (names : List (List ℕ)) (target set : ℕ) → IsUtf8 kind
    → AreMembers head_names (head kind names target set)
unfolding head
head_plain kind names target set u =
    both (both (text_plain (codes "type") kind refl u) (catalogue_plain target (slice_get names target)))
    (unless (set == 0) (natural_plain (codes "set") set refl))

abbrev diag_names : Names
diag_names =
    codes "diagnosticSet" ∷ codes "condition" ∷ codes "addinfo" ∷ codes "addinfoOctets" ∷ codes "encoding" ∷ []

diag_plain : (d : DiagRec) → AreMembers diag_names (diag_members d)
unfolding condition_members default_members
diag_plain (Default d) =
    among diag_names refl
    (both (both (text_plain (codes "diagnosticSet") (dotted d.diag_set) refl (dotted_utf8 d.diag_set))
    (integer_plain (codes "condition") d.condition refl))
    (received_plain (codes "addinfo") (codes "addinfoOctets") (info_octets d.info) refl refl))
diag_plain (Ext v) =
    among diag_names refl (octets_plain (codes "encoding") (encoding diag_rec (Ext v)) refl)

place_plain : (place : ℤ) → AreMembers (codes "from" ∷ []) (place_member place)
place_plain place = unless (int_eq place (pos 0)) (integer_plain (codes "from") place refl)

syntax_plain : (syntax : Option (List ℕ)) → AreMembers (codes "syntax" ∷ []) (syntax_member syntax)
syntax_plain None = among (codes "syntax" ∷ []) refl nothing
syntax_plain (Some syntax) = text_plain (codes "syntax") (dotted syntax) refl (dotted_utf8 syntax)

abbrev database_names : Names
database_names = codes "database" ∷ codes "databaseOctets" ∷ []

database_plain : (name : Option (List ℕ)) → AreMembers database_names (database_member name)
database_plain None = among database_names refl nothing
database_plain (Some name) = received_plain (codes "database") (codes "databaseOctets") name refl refl

abbrev contents_names : Names
contents_names = codes "encoding" ∷ codes "octets" ∷ []

contents_plain : (r : Record) (o : Option (List ℕ × List ℕ)) → AreMembers contents_names (contents_member r o)
contents_plain r None =
    among contents_names refl (octets_plain (codes "encoding") (encoding whole_record r) refl)
contents_plain r (Some p) = among contents_names refl (octets_plain (codes "octets") p.1 refl)

abbrev body_names : Names
body_names = codes "syntax" ∷ database_names ++ read_names ++ diag_names ++ codes "octets" ∷ []

body_plain : (charset : Option Charset) (r : Record) (body : RecordBody)
    → AreMembers body_names (body_members charset r body)
body_plain charset r (Retrieval v) =
    among body_names refl
    (both (both (both (syntax_plain v.direct) (database_plain r.name)) (read_plain charset v.direct v.content))
    (contents_plain r (octets_alone v.direct v.indirect v.descriptor v.content)))
body_plain charset r (Surrogate d) = among body_names refl (both (database_plain r.name) (diag_plain d))
body_plain charset r (Fragment m) =
    among body_names refl (octets_plain (codes "encoding") (encoding whole_record r) refl)

kind_utf8 : (body : RecordBody) → IsUtf8 (body_kind body)
kind_utf8 (Retrieval v) = IsUtf8-are_ascii (codes "record") refl
kind_utf8 (Surrogate d) = IsUtf8-are_ascii (codes "diagnostic") refl
kind_utf8 (Fragment m) = IsUtf8-are_ascii (codes "element") refl

record_plain : (charset : Option Charset) (r : Record) → IsObject (record_object charset r)
unfolding record_object
record_plain charset r =
    object_plain refl (both (text_plain (codes "type") (body_kind r.body) refl (kind_utf8 r.body))
    (body_plain charset r r.body))

records_plain : (charset : Option Charset) (records : List Record)
    → AreItems (flat_map (record_object charset) records)
records_plain charset [] = no_items_plain
records_plain charset (r ∷ records) = more_items (record_plain charset r) (records_plain charset records)

abbrev row_names : Names
row_names = head_names ++ codes "position" ∷ []

row_head_plain : (kind : List ℕ) (names : List (List ℕ)) (k : RowKey) → IsUtf8 kind
    → AreMembers row_names (row_head kind names k)
unfolding row_head
row_head_plain kind names k u =
    both (head_plain kind names k.target k.set u) (integer_plain (codes "position") k.position refl)

-- ---- lines

abbrev IsPlainObject : Members → Type 0
IsPlainObject o = HasNoControl (object_text o)

abbrev line_of : Members → List ℕ
line_of o = object_text o ++ codes "\n"

no_lines : AreJsonLines []
no_lines = record { objects = []; made = refl; json = All-nil IsJsonObject; no_control = All-nil IsPlainObject }

one_object : {ts : List Token} → (h : IsObject ts) → IsJsonObject h.members
one_object {ts} h = record {
  numbers = h.numbers;
  unique_keys = h.unique;
  utf8 = subst (λ (us : List Token). IsUtf8 (print us)) (sym h.same) (print_utf8 ts h.plain);
}

one_line : {ts : List Token} → IsObject ts → AreJsonLines (line ts)
unfolding line
one_line {ts} h = record {
  objects = h.members ∷ [];
  made = append-nil (line_of h.members) ∙ ap line h.same;
  json = All-cons IsJsonObject h.members [] (one_object h) (All-nil IsJsonObject);
  no_control = All-cons IsPlainObject h.members []
      (subst (λ (us : List Token). HasNoControl (print us)) (sym h.same) (print_plain ts h.plain))
      (All-nil IsPlainObject);
}

both_lines : {a b : List ℕ} → AreJsonLines a → AreJsonLines b → AreJsonLines (a ++ b)
both_lines {a} {b} h k = record {
  objects = h.objects ++ k.objects;
  made = flat_map-append line_of h.objects k.objects ∙ ap (λ x. x ++ flat_map line_of k.objects) h.made
      ∙ ap (λ x. a ++ x) k.made;
  json = All-append IsJsonObject h.objects k.objects h.json k.json;
  no_control = All-append IsPlainObject h.objects k.objects h.no_control k.no_control;
}

either_lines : (b : Bool) {x y : List ℕ} → AreJsonLines x → AreJsonLines y → AreJsonLines (cond b x y)
either_lines true h k = h
either_lines false h k = k

all_lines : {X : Type 0} (f : X → List ℕ) → ((x : X) → AreJsonLines (f x)) → (xs : List X) → AreJsonLines (flat_map f xs)
all_lines f each [] = no_lines
all_lines f each (x ∷ xs) = both_lines (each x) (all_lines f each xs)

-- ---- the lines of sets and rows

count_is_line : (names : List (List ℕ)) (b : SetKey) (n : ℤ) → AreJsonLines (count_line names b n)
unfolding count_line
count_is_line names b n =
    one_line (object_plain refl
    (both (head_plain (codes "count") names b.target b.set (IsUtf8-are_ascii (codes "count") refl))
    (integer_plain (codes "count") n refl)))

failure_is_line : (names : List (List ℕ)) (b : SetKey) → AreJsonLines (failure_line names b)
unfolding failure_line
failure_is_line names b =
    one_line (object_plain refl
    (head_plain (codes "failure") names b.target b.set (IsUtf8-are_ascii (codes "failure") refl)))

diag_is_line : (names : List (List ℕ)) (b : SetKey) (x : ℤ × DiagRec) → AreJsonLines (diag_line names b x)
unfolding diag_line
diag_is_line names b x =
    one_line (object_plain refl
    (both (both (head_plain (codes "diagnostic") names b.target b.set (IsUtf8-are_ascii (codes "diagnostic") refl))
    (place_plain x.0)) (diag_plain x.1)))

set_has_lines : (names : List (List ℕ)) (facts : List Fact) (b : SetKey) → AreJsonLines (set_lines names facts b)
unfolding set_lines
set_has_lines names facts b =
    both_lines (both_lines
    (all_lines (count_line names b) (count_is_line names b) (counts_at b.target b.set facts))
    (either_lines (is_failed_at b.target b.set facts) (failure_is_line names b) no_lines))
    (all_lines (diag_line names b) (diag_is_line names b) (diags_at b.target b.set facts))

records_have_lines : (charset : Option Charset) (names : List (List ℕ)) (k : RowKey) (records : List Record)
    → AreJsonLines (records_line charset names k records)
unfolding record_line conflict_line
records_have_lines charset names k [] = no_lines
records_have_lines charset names k (r ∷ []) =
    one_line (object_plain refl (both (row_head_plain (body_kind r.body) names k (kind_utf8 r.body))
    (body_plain charset r r.body)))
records_have_lines charset names k (r ∷ q ∷ rest) =
    one_line (object_plain refl
    (both (row_head_plain (codes "conflict") names k (IsUtf8-are_ascii (codes "conflict") refl))
    (array_plain (codes "records") refl (records_plain charset (r ∷ q ∷ rest)))))

row_has_lines : (names : List (List ℕ)) (charsets : List (Option Charset)) (facts : List Fact) (k : RowKey)
    → AreJsonLines (row_line names charsets facts k)
unfolding row_line
row_has_lines names charsets facts k =
    records_have_lines (charset_at charsets k.target) names k (records_at k.target k.set k.position facts)

-- ---- the lines of the targets that stopped

words_utf8 : (d : Detail) → IsUtf8 (detail_words d)
words_utf8 d =
    IsUtf8-from_ascii (detail_words d)
    (IsAscii-from_all (detail_words d)
    (All-weaker IsPrintable (λ b. b < 128) (λ b h. omega (arith, h.1)) (detail_words d) (words_printable d)))

abbrev reason_names : Names
reason_names = codes "reason" ∷ codes "detail" ∷ []

reason_plain : (s : Stop) → AreMembers reason_names (reason_members s)
unfolding reason_members
reason_plain s =
    both (text_plain (codes "reason") (utf8_lossy s.reason.now) refl (lossy_utf8 s.reason.now))
    (text_plain (codes "detail") (detail_words s.detail) refl (words_utf8 s.detail))

stop_is_line : (names : List (List ℕ)) (target : ℕ) (s : Stop) → AreJsonLines (stop_line names target s)
unfolding stop_line
stop_is_line names target s =
    one_line (object_plain refl
    (both (both (text_plain (codes "type") (codes "stopped") refl (IsUtf8-are_ascii (codes "stopped") refl))
    (catalogue_plain target (slice_get names target))) (reason_plain s)))

stop_has_lines : (names : List (List ℕ)) (target : ℕ) (s : Option Stop) → AreJsonLines (stop_lines names target s)
stop_has_lines names target None = no_lines
stop_has_lines names target (Some s) = stop_is_line names target s

stops_have_lines : (names : List (List ℕ)) (target : ℕ) (stops : List (Option Stop))
    → AreJsonLines (lines_from names target stops)
stops_have_lines names target [] = no_lines
stops_have_lines names target (s ∷ stops) =
    both_lines (stop_has_lines names target s) (stops_have_lines names (target + 1) stops)

-- the whole text
pub text_has_lines : (names : List (List ℕ)) (charsets : List (Option Charset)) (stops : List (Option Stop))
    (facts : List Fact) → AreJsonLines (json_lines names charsets stops facts)
unfolding json_lines
text_has_lines names charsets stops facts =
    both_lines (both_lines
    (all_lines (set_lines names facts) (set_has_lines names facts) (ascending set_cmp (filter_map block_key_of facts)))
    (stops_have_lines names 0 stops))
    (all_lines (row_line names charsets facts) (row_has_lines names charsets facts)
    (ascending row_cmp (filter_map row_key_of facts)))

-- ---- the lines of changes

kind_name_utf8 : (kind : ChangeKind) → IsUtf8 (kind_name kind)
kind_name_utf8 New = IsUtf8-are_ascii (codes "new") refl
kind_name_utf8 Changed = IsUtf8-are_ascii (codes "changed") refl
kind_name_utf8 Gone = IsUtf8-are_ascii (codes "gone") refl

change_is_line : (earlier later : List (List ℕ)) (c : Change) → AreJsonLines (change_line earlier later c)
unfolding change_line
change_is_line earlier later c =
    one_line (object_plain refl
    (both (both (text_plain (codes "change") (kind_name c.kind) refl (kind_name_utf8 c.kind))
    (row_head_plain (body_kind c.rec.body) (names_for earlier later c.kind) c.row (kind_utf8 c.rec.body)))
    (body_plain None c.rec c.rec.body)))

-- the whole text
pub changes_have_lines : (earlier later : List (List ℕ)) (changes : List Change)
    → AreJsonLines (change_lines earlier later changes)
unfolding change_lines
changes_have_lines earlier later changes =
    all_lines (change_line earlier later) (change_is_line earlier later) changes
