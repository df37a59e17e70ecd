-- Each reply has an element, of few levels.
use Rattle.std.proofs.Common.{◌≡◌, refl, ℕ, ◌+◌, ◌<◌, ◌≤◌, ◌^◌, List, [], ◌∷◌, length, Option, Some, None, Ok, true, false, arith, if◌then◌else◌}
use Rattle.std.specs.Prelude.{pos, ◌==◌, nat_le}
use Rattle.std.specs.List.{All}
use Rattle.std.specs.Str.{bytes_eq}
use Rattle.std.proofs.lemmas.Bool.{lt-ltb}
use Rattle.zber.specs.Dotted.{dotted}
use Rattle.zber.specs.AsnTags.{AsnTag, context, universal}
use Rattle.zber.specs.Elements.{Element}
use Rattle.zber.specs.Oids.{IsOid}
use Rattle.zasn.specs.Meanings.{is_i64}
use Rattle.zasn.specs.Table.{fields}
use Rattle.zasn.specs.Places.{octets, integer, within}
use Rattle.zapdu.specs.declared.apdu.Apdu.{Apdu}
use Rattle.zapdu.specs.declared.apdu.Apdu.TheVariants as apdus
use Rattle.zapdu.specs.declared.productions.close.Close.{Close}
use Rattle.zapdu.specs.declared.productions.diagnostic.DiagRec.TheVariants.{Default}
use Rattle.zapdu.specs.declared.productions.external.External.{External}
use Rattle.zapdu.specs.declared.productions.external.Content.TheVariants.{Aligned}
use Rattle.zapdu.specs.declared.productions.init_request.InitRequest.{InitRequest}
use Rattle.zapdu.specs.declared.productions.present_request.PresentRequest.{PresentRequest}
use Rattle.zapdu.specs.declared.productions.record.Record.{Record}
use Rattle.zapdu.specs.declared.productions.record.RecordBody.{RecordBody}
use Rattle.zapdu.specs.declared.productions.record.RecordBody.TheVariants.{Retrieval, Surrogate}
use Rattle.zapdu.specs.declared.productions.search_request.SearchRequest.{SearchRequest}
use Rattle.zapdu.specs.Productions.Closes.{close_table, close_parts}
use Rattle.zapdu.specs.Productions.Diagnostics.{default_diag_table, default_parts, diag_rec}
use Rattle.zapdu.specs.Productions.Externals.{external_table, external_parts}
use Rattle.zapdu.specs.Productions.Implementations.{implementation, implementation_table, implementation_parts}
use Rattle.zapdu.specs.Productions.InitResponses.{init_response_table, init_response_parts}
use Rattle.zapdu.specs.Productions.PresentResponses.{present_response_table, present_response_parts}
use Rattle.zapdu.specs.Productions.Records.{body, record_table, record_parts, whole_record, records}
use Rattle.zapdu.specs.Productions.SearchResponses.{search_response_table, search_response_parts}
use Rattle.zapdu.specs.Writes.{tag_of_kind, kind_of, apdu_parts, apdu_spelling}
use Rattle.zapdu.proofs.Written.{apdu_written}
use Rattle.ztarget.specs.declared.settings.TargetSettings.{TargetSettings}
use Rattle.ztarget.specs.Faults.{Bib1Fault, fault}
use Rattle.ztarget.specs.Initialising.{agreed_size, init_response}
use Rattle.ztarget.specs.Levels.{HasLevels, IsShowableRecord, HasElement}
use Rattle.ztarget.specs.Replies.{close_reply}
use Rattle.ztarget.specs.Positions.{last_position}
use Rattle.ztarget.specs.Responding.{next_position, status, status_if_due, response_records, asked_positions, search_response, search_failed, present_response, present_failed}
use Rattle.ztarget.specs.Searching.{Found}
use Rattle.ztarget.specs.Showing.{diagnostic, retrieval, surrogate, in_syntax, size_of, shown_record}
use Rattle.ztarget.proofs.Levels.{HaveLevels, HasLevelsIfPresent, AreWithinLevels, of_table, of_around, of_explicit, of_list, up_to, of_oid, of_integer}

low : (k : ℕ) → 0 ≤ k
low k = omega arith

text : (k : ℕ) (tag : AsnTag) (o : Option (List ℕ)) → HasLevelsIfPresent k (octets tag).spelling o
text k tag None = tt
text k tag (Some xs) = low k

-- ---- records

abbrev aligned : Found → External
aligned f = record { direct = Some f.syntax; indirect = None; descriptor = None; content = Aligned f.octets }

external_fits : (f : Found) → IsOid f.syntax → HaveLevels 0 (external_parts.spelling (aligned f) [])
unfolding external_parts
external_fits f is = of_table 0 external_table (fields external_table (aligned f)) [] (of_oid 0 (universal 6) f.syntax is, (tt, (tt, (low 0, tt)))) tt

default_fits : (r : Bib1Fault) → is_i64 r.condition ≡ true → HaveLevels 0 (default_parts.spelling (diagnostic r) [])
unfolding default_parts
default_fits r is = of_table 0 default_diag_table (fields default_diag_table (diagnostic r)) [] (low 0, (of_integer 0 (universal 2) r.condition is, (low 0, tt))) tt

record_fits : (name : List ℕ) (b : RecordBody) → HasLevels 2 (body.spelling b) → HaveLevels 3 (record_parts.spelling (record { name = Some name; body = b }) [])
unfolding record_parts
record_fits name b h = of_table 3 record_table (Some name, (b, tt)) [] (low 3, (of_explicit 2 (context 1) body b h, tt)) tt

retrieval_shows : (f : Found) → IsOid f.syntax → IsShowableRecord (retrieval f)
retrieval_shows f is =
    let external = of_around 0 (universal 8) (external_parts.spelling (aligned f) []) (external_fits f is) in
    let inside = of_explicit 1 (context 1) (within (universal 8) external_parts) (aligned f) external in
    of_around 3 (universal 16) (record_parts.spelling (retrieval f) []) (record_fits f.database (Retrieval (aligned f)) inside)

surrogate_shows : (name : List ℕ) (r : Bib1Fault) → is_i64 r.condition ≡ true → IsShowableRecord (surrogate name r)
surrogate_shows name r is =
    let whole = of_around 0 (universal 16) (default_parts.spelling (diagnostic r) []) (default_fits r is) in
    let inside = of_explicit 1 (context 2) diag_rec (Default (diagnostic r)) whole in
    of_around 3 (universal 16) (record_parts.spelling (surrogate name r) []) (record_fits name (Surrogate (Default (diagnostic r))) inside)

in_syntax_shows : (asked : Option (List ℕ)) (f : Found) → IsOid f.syntax → IsShowableRecord (in_syntax asked f)
in_syntax_shows None f is = retrieval_shows f is
in_syntax_shows (Some asked) f is =
    elim (bytes_eq asked f.syntax) as (λ b. IsShowableRecord (if b then retrieval f else surrogate f.database (fault 238 (dotted asked)))) [
      | true ↦ retrieval_shows f is
      | false ↦ surrogate_shows f.database (fault 238 (dotted asked)) refl
    ]

pub shown_shows : (size : ℕ) (asked : Option (List ℕ)) (f : Found) → IsOid f.syntax → IsShowableRecord (shown_record size asked f)
shown_shows size asked f is =
    elim (nat_le (size_of (in_syntax asked f)) size) as (λ b. IsShowableRecord (if b then in_syntax asked f else surrogate f.database (fault 17 []))) [
      | true ↦ in_syntax_shows asked f is
      | false ↦ surrogate_shows f.database (fault 17 []) refl
    ]

records_fit : (rs : List Record) → All IsShowableRecord rs → HasLevelsIfPresent 63 records.spelling (response_records rs)
records_fit [] h = tt
records_fit (r ∷ rs) h = up_to 5 63 _ (omega arith) (of_list 4 (context 28) whole_record.spelling (r ∷ rs) h)

diagnosed_fits : (r : Bib1Fault) → is_i64 r.condition ≡ true → HasLevels 63 ((within (context 130) default_parts).spelling (diagnostic r))
diagnosed_fits r is = up_to 1 63 _ (omega arith) (of_around 0 (context 130) (default_parts.spelling (diagnostic r) []) (default_fits r is))

-- ---- numbers

small : (n : ℕ) → n < 2 ^ 63 → is_i64 (pos n) ≡ true
small n h = lt-ltb n (2 ^ 63) h

count_fits : (n : ℕ) → n < 2 ^ 32 → is_i64 (pos n) ≡ true
count_fits n h = let below : n < 2 ^ 63 = omega (arith, h) in small n below

next_fits : (last count : ℕ) → last ≤ count → count < 2 ^ 32 → is_i64 (next_position last count) ≡ true
next_fits last count l h =
    let below : last + 1 < 2 ^ 63 = omega (arith, l, h) in
    elim (last == count) as (λ b. is_i64 (if b then pos 0 else pos (last + 1)) ≡ true) [ true ↦ refl | false ↦ small (last + 1) below ]

status_fits : (returned due : ℕ) → is_i64 (status returned due) ≡ true
status_fits returned due = elim (returned == due) as (λ b. is_i64 (if b then pos 0 else pos 2) ≡ true) [ true ↦ refl | false ↦ refl ]

status_of_fits : (tag : AsnTag) (returned due : ℕ) → HasLevelsIfPresent 63 (integer tag).spelling (status_if_due returned due)
status_of_fits tag returned due =
    elim (due == 0) as (λ b. HasLevelsIfPresent 63 (integer tag).spelling (if b then None else Some (status returned due))) [
      | true ↦ tt
      | false ↦ of_integer 63 tag (status returned due) (status_fits returned due)
    ]

-- ---- replies

from_built : (v : Apdu) (o : Option Element) → apdu_spelling v ≡ o → HasLevels 64 o → HasElement v
from_built v None is h = absurd h
from_built v (Some n) is h = record { element = n; built = is; writes = apdu_written v (Ok n) is; levels = h }

of_parts : (v : Apdu) → HaveLevels 63 (apdu_parts v) → HasElement v
of_parts v h = from_built v (apdu_spelling v) refl (of_around 63 (tag_of_kind (kind_of v)) (apdu_parts v) h)

module _ (r : SearchRequest) where
  found_fits : (count due : ℕ) (held : List Record) → count < 2 ^ 32 → length held ≤ count → All IsShowableRecord held → HaveLevels 63 (search_response_parts.spelling (search_response r count due held) [])
  unfolding search_response_parts
  found_fits count due held few l h =
      let returned : length held < 2 ^ 32 = omega (arith, few, l) in
      of_table 63 search_response_table (fields search_response_table (search_response r count due held)) [] (
        text 63 (context 2) r.reference_id,
        (
          of_integer 63 (context 23) (pos count) (count_fits count few),
          (
            of_integer 63 (context 24) (pos (length held)) (count_fits (length held) returned),
            (
              of_integer 63 (context 25) (next_position (length held) count) (next_fits (length held) count l few),
              (low 63, (tt, (status_of_fits (context 27) (length held) due, (records_fit held h, (tt, (tt, tt)))))),
            ),
          ),
        ),
      )
      tt

  failed_fits : (reason : Bib1Fault) → is_i64 reason.condition ≡ true → HaveLevels 63 (search_response_parts.spelling (search_failed r reason) [])
  unfolding search_response_parts
  failed_fits reason is =
      of_table 63 search_response_table (fields search_response_table (search_failed r reason)) []
      (text 63 (context 2) r.reference_id, (low 63, (low 63, (low 63, (low 63, (low 63, (tt, (diagnosed_fits reason is, (tt, (tt, tt))))))))))
      tt

  pub found_element : (count due : ℕ) (held : List Record) → count < 2 ^ 32 → length held ≤ count → All IsShowableRecord held → HasElement (apdus.SearchResponse (search_response r count due held))
  found_element count due held few l h = of_parts (apdus.SearchResponse (search_response r count due held)) (found_fits count due held few l h)

  pub failed_element : (reason : Bib1Fault) → is_i64 reason.condition ≡ true → HasElement (apdus.SearchResponse (search_failed r reason))
  failed_element reason is = of_parts (apdus.SearchResponse (search_failed r reason)) (failed_fits reason is)

module _ (r : PresentRequest) where
  present_fits : (count : ℕ) (held : List Record) → count < 2 ^ 32 → last_position (asked_positions r) (length held) ≤ count → length held < 2 ^ 63 → All IsShowableRecord held → HaveLevels 63 (present_response_parts.spelling (present_response r count held) [])
  unfolding present_response_parts
  present_fits count held few l returned h =
      of_table 63 present_response_table (fields present_response_table (present_response r count held)) [] (
        text 63 (context 2) r.reference_id,
        (
          of_integer 63 (context 24) (pos (length held)) (small (length held) returned),
          (
            of_integer 63 (context 25) (next_position (last_position (asked_positions r) (length held)) count) (next_fits (last_position (asked_positions r) (length held)) count l few),
            (
              of_integer 63 (context 27) (status (length held) _) (status_fits (length held) _),
              (records_fit held h, (tt, tt)),
            ),
          ),
        ),
      )
      tt

  unpresented_fits : (reason : Bib1Fault) → is_i64 reason.condition ≡ true → HaveLevels 63 (present_response_parts.spelling (present_failed r reason) [])
  unfolding present_response_parts
  unpresented_fits reason is =
      of_table 63 present_response_table (fields present_response_table (present_failed r reason)) []
      (text 63 (context 2) r.reference_id, (low 63, (low 63, (low 63, (diagnosed_fits reason is, (tt, tt))))))
      tt

  pub presented_element : (count : ℕ) (held : List Record) → count < 2 ^ 32 → last_position (asked_positions r) (length held) ≤ count → length held < 2 ^ 63 → All IsShowableRecord held → HasElement (apdus.PresentResponse (present_response r count held))
  presented_element count held few l returned h = of_parts (apdus.PresentResponse (present_response r count held)) (present_fits count held few l returned h)

  pub unpresented_element : (reason : Bib1Fault) → is_i64 reason.condition ≡ true → HasElement (apdus.PresentResponse (present_failed r reason))
  unpresented_element reason is = of_parts (apdus.PresentResponse (present_failed r reason)) (unpresented_fits reason is)

nothing_more : (out : List Element) → AreWithinLevels 63 out → HaveLevels 63 (implementation_parts.spelling (implementation None None None None None) out)
unfolding implementation_parts
nothing_more out h = of_table 63 implementation_table (fields implementation_table (implementation None None None None None)) out (tt, (tt, (tt, (tt, (tt, tt))))) h

init_fits : (settings : TargetSettings) (r : InitRequest) → is_i64 (agreed_size settings r) ≡ true → HaveLevels 63 (init_response_parts.spelling (init_response settings r) [])
unfolding init_response_parts
init_fits settings r is =
    of_table 63 init_response_table (fields init_response_table (init_response settings r)) [] (
      text 63 (context 2) r.reference_id,
      (
        low 63,
        (
          low 63,
          (
            of_integer 63 (context 5) (agreed_size settings r) is,
            (
              of_integer 63 (context 6) (agreed_size settings r) is,
              (low 63, nothing_more),
            ),
          ),
        ),
      ),
    )
    tt

pub init_element : (settings : TargetSettings) (r : InitRequest) → is_i64 (agreed_size settings r) ≡ true → HasElement (apdus.InitResponse (init_response settings r))
init_element settings r is = of_parts (apdus.InitResponse (init_response settings r)) (init_fits settings r is)

close_fits : (c : Close) → HaveLevels 63 (close_parts.spelling (close_reply c) [])
unfolding close_parts
close_fits c =
    of_table 63 close_table (fields close_table (close_reply c)) [] (text 63 (context 2) c.reference_id, (low 63, (tt, (tt, (tt, (tt, tt)))))) tt

pub close_element : (c : Close) → HasElement (apdus.Close (close_reply c))
close_element c = of_parts (apdus.Close (close_reply c)) (close_fits c)
