-- Whatever the records, the names, the diagnostics and the stops are, the view is safe to print on a terminal.
use Rattle.std.proofs.Common.{ℕ, zero, suc, ◌+◌, ◌-◌, Bool, true, false, cond, not, Option, Some, None, List, [], ◌∷◌, ◌++◌, length, take, drop, leb, eqb, refl, sym, subst, ℤ, pos}
use Rattle.std.specs.Prelude.{◌&&◌, ◌||◌, ◌==◌, All, codes, map, slice_get, unwrap_or}
use Rattle.std.specs.Fmt.{signed_decimal}
use Rattle.std.specs.List.{flat_map}
use Rattle.std.specs.Option.{option_map}
use Rattle.std.specs.Ordering.{int_eq}
use Rattle.std.specs.Str.{chars, bytes_eq}
use Rattle.std.proofs.lemmas.Bool.{cond_both}
use Rattle.std.proofs.lemmas.List.Elements.{All-nil, All-cons, All-head, All-tail, All-append, All-take}
use Rattle.std.proofs.lemmas.Option.{slice_get-map}
use Rattle.zber.specs.Canonical.{canonical}
use Rattle.zber.specs.Elements.{Element}
use Rattle.zber.specs.Segments.{is_string, string_octets}
use Rattle.zapdu.specs.Text.{info_octets}
use Rattle.zapdu.specs.declared.productions.diagnostic.DiagRec.{DiagRec}
use Rattle.zapdu.specs.declared.productions.diagnostic.DiagRec.TheVariants.{Default, Ext}
use Rattle.zapdu.specs.declared.productions.external.Content.{Content}
use Rattle.zapdu.specs.declared.productions.external.Content.TheVariants.{Single, Aligned, Arbitrary}
use Rattle.zapdu.specs.declared.productions.external.External.{External}
use Rattle.zapdu.specs.declared.productions.record.Record.{Record}
use Rattle.zapdu.specs.declared.productions.record.RecordBody.{RecordBody}
use Rattle.zapdu.specs.declared.productions.record.RecordBody.TheVariants.{Retrieval, Surrogate, Fragment}
use Rattle.zmarc.specs.declared.charset.Charset.{Charset}
use Rattle.zmarc.specs.declared.charset.Charset.TheVariants.{Utf8}
use Rattle.zmarc.specs.declared.format.Format.TheVariants.{Marc21, Unimarc}
use Rattle.zmarc.specs.declared.format.Reading.{Reading}
use Rattle.zmarc.specs.Briefs.{brief, read_in}
use Rattle.zmarc.specs.Charsets.{charset_at, text}
use Rattle.zmarc.specs.Records.{is_record}
use Rattle.zmarc.specs.Shown.{IsSafe, IsSafeText}
use Rattle.zmarc.specs.Years.{year}
use Rattle.zmarc.proofs.SafeTheory.{text_is_safe, brief_is_safe}
use Rattle.zopac.specs.declared.opac.OpacRecord.{OpacRecord}
use Rattle.zopac.proofs.SafeTheory.{lines_are_safe}
use Rattle.zknow.specs.declared.fact.Fact.{Fact}
use Rattle.zknow.specs.declared.tables.keys.RowKey.{RowKey}
use Rattle.zknow.specs.declared.tables.keys.SetKey.{SetKey}
use Rattle.zknow.specs.Known.{counts_at, records_at, is_failed_at, diags_at}
use Rattle.zknow_stops.specs.declared.detail.Detail.{Detail}
use Rattle.zknow_stops.specs.declared.stop.Stop.{Stop}
use Rattle.zknow_stops.specs.Details.{detail_words, is_unreached}
use Rattle.zknow_stops.proofs.Words.{words_printable}
use Rattle.zknow_titles.specs.declared.rows.Widths.{Widths}
use Rattle.zknow_titles.specs.declared.wholes.Extent.{Extent}
use Rattle.zknow_titles.specs.declared.wholes.Extent.TheVariants.{Title, Whole}
use Rattle.zknow_titles.specs.Blocks.{joined_behind, joined_by, count_part, behind_colon, heading, failure_part, search_text, request_text, filled_in, block_parts, block_line}
use Rattle.zknow_titles.specs.Columns.{char_columns, fitting, widest_cut, clipped, width, padded}
use Rattle.zknow_titles.specs.Conditions.{condition_words}
use Rattle.zknow_titles.specs.Diagnostics.{bib1, behind_number, condition_text, bracketed, diag_words}
use Rattle.zknow_titles.specs.Entries.{EntryText, plain, syntax_text, counted_octets, other_entry, marc_entry, octets_entry, element_entry, content_entry, body_entry, bibliographic_entry, entry_with, opac_of, copies_of, entry, sutrs, xml, unimarc, is_marc}
use Rattle.zknow_titles.specs.Heads.{stop_line, then_words, if_last, lines_then, stopped_lines_with, target_lines_with, front_count, head_lines, head_lines_with}
use Rattle.zknow_titles.specs.Laws.{IsSafeView}
use Rattle.zknow_titles.specs.Names.{shown_names, name_or_number, label}
use Rattle.zknow_titles.specs.Rows.{row_name, position_width, row_head, row_entry, further_entry, below_row, copy_rows, below_rows, further_lines, several, record_lines, row_lines, widths}
use Rattle.zknow_titles.specs.Sutrs.{behind_gap, squeezed, shortened, text_charset, sutrs_line}
use Rattle.zknow_titles.specs.Titles.{between, title_lines, view, titles, whole_records, sets_of, rows_of}
use Rattle.zknow_titles.specs.Wholes.{whole_lines}
use Rattle.zknow_titles.proofs.SafeTexts.{characters_safe, safe_characters, space_safe, nothing_safe, both_safe, either_safe, printable_safe, literal_safe, spaces_safe, ellipsis_safe, decimal_safe, signed_safe, dotted_safe, none_safe, one_safe, all_either, all_map, all_flat}
use Rattle.zknow_titles.proofs.SafeWholes.{whole_lines_safe}

-- ---- diagnostics

behind_number_safe : (words : Option (List ℕ)) → IsSafeText (behind_number words)
behind_number_safe None = nothing_safe
behind_number_safe (Some words) = both_safe (literal_safe (0x20 ∷ []) refl) (text_is_safe Utf8 words)

condition_safe : (set : List ℕ) (condition : ℤ) → IsSafeText (condition_text set condition)
condition_safe set condition =
    either_safe (bytes_eq set bib1)
    (both_safe (signed_safe condition) (behind_number_safe (condition_words condition)))
    (both_safe (both_safe (both_safe (literal_safe (codes "condition ") refl) (signed_safe condition))
    (literal_safe (codes " of ") refl)) (dotted_safe set))

bracketed_safe : (info : List ℕ) → IsSafeText info → IsSafeText (bracketed info)
bracketed_safe info s =
    either_safe (length info == 0) nothing_safe
    (both_safe (both_safe (literal_safe (codes " (") refl) s) (literal_safe (codes ")") refl))

diag_safe : (d : DiagRec) → IsSafeText (diag_words d)
diag_safe (Default d) =
    both_safe (condition_safe d.diag_set d.condition) (bracketed_safe (text Utf8 (info_octets d.info))
    (text_is_safe Utf8 (info_octets d.info)))
diag_safe (Ext v) = literal_safe (codes "diagnostic in another format") refl

-- ---- names

some_name_safe : (target : ℕ) (name : Option (List ℕ))
    → IsSafeText (name_or_number target (option_map (text Utf8) name))
some_name_safe target None = both_safe (literal_safe (0x23 ∷ []) refl) (decimal_safe target)
some_name_safe target (Some name) = text_is_safe Utf8 name

name_safe : (names : List (List ℕ)) (target : ℕ)
    → IsSafeText (name_or_number target (slice_get (shown_names names) target))
name_safe names target =
    subst (λ o. IsSafeText (name_or_number target o)) (sym (slice_get-map (text Utf8) names target))
    (some_name_safe target (slice_get names target))

pub label_safe : (names : List (List ℕ)) (target set : ℕ) → IsSafeText (label (shown_names names) target set)
label_safe names target set =
    both_safe (name_safe names target)
    (either_safe (leb set 1) nothing_safe (both_safe (literal_safe (codes " set ") refl) (decimal_safe set)))

-- ---- columns

fitting_safe : (room : ℕ) (cs : List ℕ) → All IsSafe cs → All IsSafe (fitting room cs)
fitting_safe room [] h = h
fitting_safe room (c ∷ cs) h =
    cond_both (leb (char_columns c) room) _ _ (All IsSafe)
    (λ _. All-cons IsSafe c (fitting (room - char_columns c) cs) (All-head IsSafe c cs h)
    (fitting_safe (room - char_columns c) cs (All-tail IsSafe c cs h)))
    (λ _. All-nil IsSafe)

widest_cut_safe : (most room : ℕ) (cs : List ℕ) → All IsSafe cs → IsSafeText (widest_cut most room cs)
widest_cut_safe most zero cs h = ellipsis_safe
widest_cut_safe most (suc room) cs h =
    either_safe _
    (both_safe (characters_safe (fitting (suc room) cs) (fitting_safe (suc room) cs h)) ellipsis_safe)
    (widest_cut_safe most room cs h)

pub clipped_safe : (most : ℕ) (t : List ℕ) → IsSafeText t → IsSafeText (clipped most t)
unfolding clipped
clipped_safe most t s =
    either_safe (leb (width t) most) s (widest_cut_safe most (most - 1) (chars t) (safe_characters s))

padded_safe : (columns : ℕ) (t : List ℕ) → IsSafeText t → IsSafeText (padded columns t)
padded_safe columns t s = both_safe s (spaces_safe (columns - width t))

-- ---- records of SUTRS

gap_safe : (spaced : Bool) (c : ℕ) (rest : List ℕ) → IsSafe c → All IsSafe rest
    → All IsSafe (behind_gap spaced c ++ rest)
gap_safe true c rest s h = All-cons IsSafe 0x20 (c ∷ rest) space_safe (All-cons IsSafe c rest s h)
gap_safe false c rest s h = All-cons IsSafe c rest s h

squeezed_safe : (begun gap : Bool) (cs : List ℕ) → All IsSafe cs → All IsSafe (squeezed begun gap cs)
squeezed_safe begun gap [] h = h
squeezed_safe begun gap (c ∷ cs) h =
    cond_both (eqb c 0x20) _ _ (All IsSafe) (λ _. squeezed_safe begun true cs (All-tail IsSafe c cs h))
    (λ _. gap_safe (begun && gap) c (squeezed true false cs) (All-head IsSafe c cs h)
    (squeezed_safe true false cs (All-tail IsSafe c cs h)))

shortened_safe : (most : ℕ) (cs : List ℕ) → All IsSafe cs → IsSafeText (shortened most cs)
shortened_safe most cs h =
    either_safe (leb (length cs) most) (characters_safe cs h)
    (both_safe (characters_safe _ (All-take IsSafe most cs h)) ellipsis_safe)

sutrs_safe : (charset : Option Charset) (octets : List ℕ) → IsSafeText (sutrs_line charset octets)
unfolding sutrs_line
sutrs_safe charset octets =
    let set = text_charset charset in
    shortened_safe 200 (squeezed false false (chars (text set octets)))
    (squeezed_safe false false (chars (text set octets)) (safe_characters (text_is_safe set octets)))

-- ---- entries

record IsSafeEntry (e : EntryText) : Type 0 where
  pub year : IsSafeText e.year
  pub line : IsSafeText e.line

plain_safe : {line : List ℕ} → IsSafeText line → IsSafeEntry (plain line)
plain_safe s = record { year = nothing_safe; line = s }

count_safe : (n : ℕ) → IsSafeText (counted_octets n)
count_safe n = both_safe (both_safe (literal_safe (codes ", ") refl) (decimal_safe n))
    (literal_safe (codes " octets") refl)

syntax_safe : (direct : Option (List ℕ)) → IsSafeText (syntax_text direct)
syntax_safe None = literal_safe (codes "record of no named syntax") refl
syntax_safe (Some syntax) = both_safe (literal_safe (codes "record of syntax ") refl) (dotted_safe syntax)

other_safe : (direct : Option (List ℕ)) (count : ℕ) → IsSafeEntry (other_entry direct count)
other_safe direct count = plain_safe (both_safe (syntax_safe direct) (count_safe count))

either_entry : (b : Bool) {x y : EntryText} → IsSafeEntry x → IsSafeEntry y → IsSafeEntry (cond b x y)
either_entry true first then = first
either_entry false first then = then

marc_safe : (reading : Reading) (octets : List ℕ) → IsSafeEntry (marc_entry reading octets)
marc_safe reading octets =
    let line = brief_is_safe reading octets in
    either_entry (is_record octets)
    (record {
      year = text_is_safe Utf8 (unwrap_or (year reading.format octets) []);
      line = either_safe (length (brief reading octets) == 0)
          (both_safe (literal_safe (codes "no title") refl) (count_safe (length octets))) line;
    })
    (plain_safe (both_safe (literal_safe (codes "no record") refl) (count_safe (length octets))))

module _ (charset : Option Charset) where
  octets_safe : (direct : Option (List ℕ)) (syntax octets : List ℕ)
      → IsSafeEntry (octets_entry charset direct syntax octets)
  octets_safe direct syntax octets =
      either_entry (bytes_eq syntax sutrs) (plain_safe (sutrs_safe charset octets))
      (either_entry (bytes_eq syntax xml) (plain_safe (both_safe (literal_safe (codes "XML") refl)
      (count_safe (length octets))))
      (either_entry (bytes_eq syntax unimarc) (marc_safe (read_in Unimarc charset) octets)
      (either_entry (is_marc syntax || is_record octets) (marc_safe (read_in Marc21 charset) octets)
      (other_safe direct (length octets)))))

  element_safe : (direct : Option (List ℕ)) (syntax : List ℕ) (e : Element)
      → IsSafeEntry (element_entry charset direct syntax e)
  element_safe direct syntax e =
      either_entry (bytes_eq syntax sutrs && is_string e) (plain_safe (sutrs_safe charset (string_octets e)))
      (other_safe direct (length (canonical e)))

  content_safe : (direct : Option (List ℕ)) (content : Content) → IsSafeEntry (content_entry charset direct content)
  content_safe direct (Single e) = element_safe direct (unwrap_or direct []) e
  content_safe direct (Aligned octets) = octets_safe direct (unwrap_or direct []) octets
  content_safe direct (Arbitrary bits) = plain_safe (both_safe (syntax_safe direct)
      (literal_safe (codes ", in bits") refl))

  body_safe : (body : RecordBody) → IsSafeEntry (body_entry charset body)
  body_safe (Retrieval v) = content_safe v.direct v.content
  body_safe (Surrogate d) = plain_safe (both_safe (literal_safe (codes "not shown: ") refl) (diag_safe d))
  body_safe (Fragment e) = plain_safe (literal_safe (codes "a part of a record") refl)

  bibliographic_safe : (found : Option External) → IsSafeEntry (bibliographic_entry charset found)
  bibliographic_safe None = plain_safe (literal_safe (codes "copies of a record that is not there") refl)
  bibliographic_safe (Some v) = content_safe v.direct v.content

  with_safe : (r : Record) (o : Option OpacRecord) → IsSafeEntry (entry_with charset r o)
  with_safe r None = body_safe r.body
  with_safe r (Some o) = bibliographic_safe o.bibliographic

  entry_safe : (r : Record) → IsSafeEntry (entry charset r)
  entry_safe r = with_safe r (opac_of r)

-- ---- lists of texts

behind_safe : (separator : List ℕ) (ts : List (List ℕ)) → IsSafeText separator → All IsSafeText ts
    → IsSafeText (joined_behind separator ts)
behind_safe separator [] s h = nothing_safe
behind_safe separator (t ∷ ts) s h =
    both_safe (both_safe s (All-head IsSafeText t ts h)) (behind_safe separator ts s (All-tail IsSafeText t ts h))

joined_safe : (separator : List ℕ) (ts : List (List ℕ)) → IsSafeText separator → All IsSafeText ts
    → IsSafeText (joined_by separator ts)
joined_safe separator [] s h = nothing_safe
joined_safe separator (t ∷ ts) s h = both_safe (All-head IsSafeText t ts h)
    (behind_safe separator ts s (All-tail IsSafeText t ts h))

-- ---- the head

counts_safe : (shown : ℕ) (counts : List ℤ) → All IsSafeText (count_part shown counts)
counts_safe shown counts =
    let numbers = joined_safe (codes " or ") (map signed_decimal counts) (literal_safe (codes " or ") refl)
    (all_map signed_decimal signed_safe counts) in
    all_either (length counts == 0) _ _ none_safe
    (one_safe (both_safe (both_safe (both_safe numbers (literal_safe (codes " found, ") refl)) (decimal_safe shown))
    (literal_safe (codes " shown") refl)))

heading_safe : (set : ℕ) (failed : Bool) → IsSafeText (heading set failed)
heading_safe set failed =
    either_safe failed (either_safe (set == 0) (literal_safe (codes "association refused") refl)
    (literal_safe (codes "search refused") refl))
    (literal_safe (codes "search") refl)

colon_safe : (ts : List (List ℕ)) → All IsSafeText ts → IsSafeText (behind_colon ts)
colon_safe ts h =
    either_safe (length ts == 0) nothing_safe
    (both_safe (literal_safe (codes ": ") refl) (joined_safe (codes ", ") ts (literal_safe (codes ", ") refl) h))

failure_safe : (set : ℕ) (failed : Bool) (ts : List (List ℕ)) → All IsSafeText ts
    → All IsSafeText (failure_part set failed ts)
failure_safe set failed ts h =
    all_either (not failed && length ts == 0) _ _ none_safe
    (one_safe (both_safe (heading_safe set failed) (colon_safe ts h)))

search_safe : (d : ℤ × DiagRec) → All IsSafeText (search_text d)
search_safe d = all_either (int_eq d.0 (pos 0)) _ _ (one_safe (diag_safe d.1)) none_safe

request_safe : (d : ℤ × DiagRec) → All IsSafeText (request_text d)
request_safe d =
    all_either (int_eq d.0 (pos 0)) _ _ none_safe
    (one_safe (both_safe (both_safe (both_safe (literal_safe (codes "records from ") refl) (signed_safe d.0))
    (literal_safe (codes ": ") refl)) (diag_safe d.1)))

parts_safe : (filled : ℕ) (facts : List Fact) (b : SetKey) → All IsSafeText (block_parts filled facts b)
parts_safe filled facts b =
    let diags = diags_at b.target b.set facts in
    let counts = counts_safe filled (counts_at b.target b.set facts) in
    let failure = failure_safe b.set (is_failed_at b.target b.set facts) (flat_map search_text diags)
    (all_flat search_text search_safe diags) in
    let requests = all_flat request_text request_safe diags in
    All-append IsSafeText _ (flat_map request_text diags)
    (All-append IsSafeText (count_part filled (counts_at b.target b.set facts))
    (failure_part b.set (is_failed_at b.target b.set facts) (flat_map search_text diags)) counts failure)
    requests

block_safe : (filled : SetKey → ℕ) (names : List (List ℕ)) (facts : List Fact) (b : SetKey)
    → IsSafeText (block_line filled (shown_names names) facts b)
block_safe filled names facts b =
    both_safe (both_safe (label_safe names b.target b.set) (literal_safe (codes ": ") refl))
    (joined_safe (codes "; ") (block_parts (filled b) facts b) (literal_safe (codes "; ") refl)
    (parts_safe (filled b) facts b))

-- ---- why connections stopped

words_safe : (d : Detail) → IsSafeText (detail_words d)
words_safe d = printable_safe (detail_words d) (words_printable d)

stop_safe : (names : List (List ℕ)) (target : ℕ) (d : Detail) → IsSafeText (stop_line (shown_names names) target d)
stop_safe names target d =
    both_safe (both_safe (name_safe names target) (literal_safe (codes ": ") refl))
    (either_safe (is_unreached d)
    (both_safe (both_safe (literal_safe (codes "not reached (") refl) (words_safe d)) (literal_safe (codes ")") refl))
    (words_safe d))

then_safe : (d : Detail) → IsSafeText (then_words d)
then_safe d = both_safe (literal_safe (codes "; then ") refl) (words_safe d)

last_safe : (words : List ℕ) (sets : List SetKey) → IsSafeText words → IsSafeText (if_last words sets)
last_safe words [] s = s
last_safe words (b ∷ bs) s = nothing_safe

blocks_safe : (filled : SetKey → ℕ) (names : List (List ℕ)) (facts : List Fact) (sets : List SetKey)
    → All IsSafeText (map (block_line filled (shown_names names) facts) sets)
blocks_safe filled names facts sets =
    all_map (block_line filled (shown_names names) facts) (block_safe filled names facts) sets

lines_then_safe : (filled : SetKey → ℕ) (names : List (List ℕ)) (facts : List Fact) (words : List ℕ)
    (sets : List SetKey) → IsSafeText words
    → All IsSafeText (lines_then filled (shown_names names) facts words sets)
lines_then_safe filled names facts words [] s = none_safe
lines_then_safe filled names facts words (b ∷ bs) s =
    All-cons IsSafeText (block_line filled (shown_names names) facts b ++ if_last words bs)
    (lines_then filled (shown_names names) facts words bs)
    (both_safe (block_safe filled names facts b) (last_safe words bs s)) (lines_then_safe filled names facts words bs s)

stopped_safe : (filled : SetKey → ℕ) (names : List (List ℕ)) (facts : List Fact) (target : ℕ)
    (d : Detail) (sets : List SetKey)
    → All IsSafeText (stopped_lines_with filled (shown_names names) facts target d sets)
stopped_safe filled names facts target d sets =
    let shown = shown_names names in
    all_either (is_unreached d || length sets == 0) _ _
    (All-append IsSafeText (map (block_line filled shown facts) sets) (stop_line shown target d ∷ [])
    (blocks_safe filled names facts sets) (one_safe (stop_safe names target d)))
    (lines_then_safe filled names facts (then_words d) sets (then_safe d))

target_safe : (filled : SetKey → ℕ) (names : List (List ℕ)) (facts : List Fact) (target : ℕ)
    (s : Option Stop) (sets : List SetKey)
    → All IsSafeText (target_lines_with filled (shown_names names) facts target s sets)
target_safe filled names facts target None sets = blocks_safe filled names facts sets
target_safe filled names facts target (Some s) sets = stopped_safe filled names facts target s.detail sets

targets_safe : (filled : SetKey → ℕ) (names : List (List ℕ)) (facts : List Fact) (target : ℕ)
    (stops : List (Option Stop)) (sets : List SetKey)
    → All IsSafeText (head_lines_with filled (shown_names names) facts target stops sets)
targets_safe filled names facts target [] sets = blocks_safe filled names facts sets
targets_safe filled names facts target (s ∷ stops) sets =
    let count = front_count target sets in
    All-append IsSafeText (target_lines_with filled (shown_names names) facts target s (take count sets))
    (head_lines_with filled (shown_names names) facts (target + 1) stops (drop count sets))
    (target_safe filled names facts target s (take count sets))
    (targets_safe filled names facts (target + 1) stops (drop count sets))

-- ---- the rows

text_safe : (e : EntryText) → IsSafeEntry e → IsSafeText (row_entry e)
text_safe e s = both_safe (both_safe (padded_safe 4 e.year s.year) (literal_safe (codes "  ") refl)) s.line

row_entry_safe : (charset : Option Charset) (r : Record) → IsSafeText (row_entry (entry charset r))
row_entry_safe charset r = text_safe (entry charset r) (entry_safe charset r)

further_safe : (w : Widths) (e : EntryText) → IsSafeEntry e → IsSafeText (further_entry w e)
further_safe w e s = both_safe (both_safe (both_safe (spaces_safe 6) (spaces_safe w.position)) (spaces_safe w.name))
    (text_safe e s)

all_copies : (w : Widths) (lines : List (List ℕ)) → All IsSafeText lines → All IsSafeText (map (below_row w) lines)
all_copies w [] h = none_safe
all_copies w (l ∷ lines) h =
    All-cons IsSafeText (below_row w l) (map (below_row w) lines)
    (further_safe w (plain l) (plain_safe (All-head IsSafeText l lines h)))
    (all_copies w lines (All-tail IsSafeText l lines h))

copies_safe : (w : Widths) (o : Option OpacRecord) → All IsSafeText (copy_rows w o)
copies_safe w None = none_safe
copies_safe w (Some o) = all_copies w (copies_of (Some o)) (lines_are_safe o)

below_safe : (extent : Extent) (charset : Option Charset) (w : Widths) (r : Record) (o : Option OpacRecord)
    → All IsSafeText (below_rows extent charset w r o)
below_safe extent charset w r o =
    All-append IsSafeText (map (below_row w) (whole_lines extent charset r o)) (copy_rows w o)
    (all_copies w (whole_lines extent charset r o) (whole_lines_safe extent charset r o)) (copies_safe w o)

-- ---- the lines of a row

further_lines_safe : (extent : Extent) (charset : Option Charset) (w : Widths) (r : Record)
    → All IsSafeText (further_lines extent charset w r)
further_lines_safe extent charset w r =
    All-cons IsSafeText (further_entry w (entry charset r)) (below_rows extent charset w r (opac_of r))
    (further_safe w (entry charset r) (entry_safe charset r)) (below_safe extent charset w r (opac_of r))

lines_safe : (extent : Extent) (charset : Option Charset) (w : Widths) (head : List ℕ) (records : List Record)
    → IsSafeText head → All IsSafeText (record_lines extent charset w head records)
lines_safe extent charset w head [] s = none_safe
lines_safe extent charset w head (r ∷ []) s =
    All-cons IsSafeText (head ++ row_entry (entry charset r)) (below_rows extent charset w r (opac_of r))
    (both_safe s (row_entry_safe charset r)) (below_safe extent charset w r (opac_of r))
lines_safe extent charset w head (r ∷ q ∷ rest) s =
    let count = length (r ∷ q ∷ rest) in
    All-cons IsSafeText (several head count) (flat_map (further_lines extent charset w) (r ∷ q ∷ rest))
    (both_safe (both_safe (both_safe s (literal_safe (codes "      ") refl)) (decimal_safe count))
    (literal_safe (codes " different records") refl))
    (all_flat (further_lines extent charset w) (further_lines_safe extent charset w) (r ∷ q ∷ rest))

head_safe : (w : Widths) (names : List (List ℕ)) (k : RowKey) → IsSafeText (row_head w (shown_names names) k)
head_safe w names k =
    let gap = literal_safe (codes "  ") refl in
    let name = padded_safe w.name (row_name (shown_names names) k)
    (clipped_safe _ (label (shown_names names) k.target k.set) (label_safe names k.target k.set)) in
    both_safe (both_safe (both_safe (both_safe (both_safe gap (spaces_safe (w.position - position_width k)))
    (signed_safe k.position)) gap) name) gap

row_safe : (extent : Extent) (w : Widths) (names : List (List ℕ)) (charsets : List (Option Charset)) (facts : List Fact)
    (k : RowKey) → All IsSafeText (row_lines extent w (shown_names names) charsets facts k)
row_safe extent w names charsets facts k =
    lines_safe extent (charset_at charsets k.target) w (row_head w (shown_names names) k)
    (records_at k.target k.set k.position facts) (head_safe w names k)

-- ---- the view

between_safe : (head : List (List ℕ)) (rows : List RowKey) → All IsSafeText (between head rows)
between_safe head rows = all_either (length head == 0 || length rows == 0) _ _ none_safe (one_safe nothing_safe)

title_lines_safe : (extent : Extent) (names : List (List ℕ)) (charsets : List (Option Charset))
    (stops : List (Option Stop)) (facts : List Fact)
    (sets : List SetKey) (rows : List RowKey)
    → All IsSafeText (title_lines extent (shown_names names) charsets stops facts sets rows)
title_lines_safe extent names charsets stops facts sets rows =
    let w = widths (shown_names names) rows in
    let head = head_lines (shown_names names) facts 0 stops sets in
    All-append IsSafeText _ (flat_map (row_lines extent w (shown_names names) charsets facts) rows)
    (All-append IsSafeText head (between head rows)
    (targets_safe (filled_in facts) names facts 0 stops sets) (between_safe head rows))
    (all_flat (row_lines extent w (shown_names names) charsets facts) (row_safe extent w names charsets facts) rows)

safe_either_way : (extent : Extent) (names : List (List ℕ)) (charsets : List (Option Charset))
    (stops : List (Option Stop)) (facts : List Fact)
    → IsSafeView (view extent names charsets stops facts)
safe_either_way extent names charsets stops facts = record {
  lines = title_lines extent (shown_names names) charsets stops facts (sets_of facts) (rows_of facts);
  made = refl;
  safe = title_lines_safe extent names charsets stops facts (sets_of facts) (rows_of facts);
}

pub view_is_safe : (names : List (List ℕ)) (charsets : List (Option Charset))
    (stops : List (Option Stop)) (facts : List Fact)
    → IsSafeView (titles names charsets stops facts)
unfolding titles
view_is_safe names charsets stops facts = safe_either_way Title names charsets stops facts

pub records_are_safe : (names : List (List ℕ)) (charsets : List (Option Charset))
    (stops : List (Option Stop)) (facts : List Fact)
    → IsSafeView (whole_records names charsets stops facts)
unfolding whole_records
records_are_safe names charsets stops facts = safe_either_way Whole names charsets stops facts
