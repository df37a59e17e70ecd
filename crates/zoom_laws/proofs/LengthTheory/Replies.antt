-- How many octets the replies of a target have at most, by the records and the diagnostics in them.
use Rattle.std.proofs.Common.{◌≡◌, ℕ, ◌+◌, ◌≤◌, ℤ, true, false, List, [], ◌∷◌, length, Option, None, Some, refl, ap, arith}
use Rattle.std.specs.Prelude.{pos}
use Rattle.zber.specs.AsnTags.{AsnTag, context, universal}
use Rattle.zber.specs.Elements.{Element}
use Rattle.zber.proofs.ElementSizes.{run_len}
use Rattle.zasn.specs.Meanings.{octets_spelling, int_spelling}
use Rattle.zasn.specs.Table.{fields}
use Rattle.zasn.specs.Within.{all_spellings}
use Rattle.zapdu.specs.declared.apdu.Apdu.{Apdu}
use Rattle.zapdu.specs.declared.apdu.Apdu.TheVariants as apdus
use Rattle.zapdu.specs.declared.productions.close.Close.{Close}
use Rattle.zapdu.specs.declared.productions.init_request.InitRequest.{InitRequest}
use Rattle.zapdu.specs.declared.productions.present_request.PresentRequest.{PresentRequest}
use Rattle.zapdu.specs.declared.productions.diagnostic.DiagRec.TheVariants.{Default}
use Rattle.zapdu.specs.declared.productions.record.Record.{Record}
use Rattle.zapdu.specs.declared.productions.record.RecordBody.TheVariants.{Surrogate}
use Rattle.zapdu.specs.declared.productions.search_request.SearchRequest.{SearchRequest}
use Rattle.zapdu.specs.Productions.Closes.{close_table, close_parts}
use Rattle.zapdu.specs.Productions.Diagnostics.{default_diag_table, default_parts, diag_rec}
use Rattle.zapdu.specs.Productions.Implementations.{implementation, implementation_table, implementation_parts}
use Rattle.zapdu.specs.Productions.InitResponses.{init_response_table, init_response_parts}
use Rattle.zapdu.specs.Productions.PresentResponses.{present_response_table, present_response_parts}
use Rattle.zapdu.specs.Productions.Records.{body, record_table, record_parts, whole_record, records}
use Rattle.zapdu.specs.Productions.SearchResponses.{search_response_table, search_response_parts}
use Rattle.zapdu.specs.Writes.{tag_of_kind, kind_of, apdu_parts, apdu_spelling}
use Rattle.zorigin.specs.Sending.{element_octets, encoding_of}
use Rattle.ztarget.specs.declared.settings.TargetSettings.{TargetSettings}
use Rattle.ztarget.specs.Faults.{Bib1Fault}
use Rattle.ztarget.specs.Initialising.{is_accepted, agreed_size, versions, options, init_response}
use Rattle.ztarget.specs.Laws.{size_of_all}
use Rattle.ztarget.specs.Positions.{last_position}
use Rattle.ztarget.specs.Replies.{close_reply}
use Rattle.ztarget.specs.Responding.{next_position, status, status_if_due, asked_positions, response_records, diagnosed, search_response, search_failed, present_response, present_failed}
use Rattle.ztarget.specs.Showing.{bib1_diagnostics, diagnostic, encoded_size, size_of, surrogate}
use Rattle.zoom_pool.specs.Hosts.{IsShort}
use Rattle.zoom_laws.proofs.LengthTheory.Sizes.{run_size, optional_size, list_size, of_places, of_table, of_around, of_list, of_text, of_integer, of_boolean, of_bits, of_oid, of_explicit}

-- ---- a whole reply

octets_are : (o : Option Element) → length (element_octets o) ≡ encoded_size o
octets_are None = refl
octets_are (Some n) = refl

pub is_short : (v : Apdu) → run_size (apdu_parts v) ≤ 2097137 → IsShort v
unfolding encoding_of
is_short v l long =
    let k = run_size (apdu_parts v) in
    let few = of_around k (k + 15) (tag_of_kind (kind_of v)) (apdu_parts v) (omega arith) (omega arith) in
    omega (arith, few, l, long, octets_are (apdu_spelling v))

-- ---- what may be left out

text_size : (tag : AsnTag) (o : Option (List ℕ)) (m : ℕ) → ((xs : List ℕ) → o ≡ Some xs → length xs + 15 ≤ m)
    → optional_size (octets_spelling tag) o ≤ m
text_size tag None m h = omega arith
text_size tag (Some xs) m h = of_text tag xs m (h xs refl)

number_size : (tag : AsnTag) (o : Option ℤ) → optional_size (int_spelling tag) o ≤ 23
number_size tag None = omega arith
number_size tag (Some z) = of_integer tag z

-- a reference id of at most four octets, if there is one
abbrev pub HasShortId : Option (List ℕ) → Type 0
HasShortId None = Unit {0}
HasShortId (Some id) = length id ≤ 4

id_size : (tag : AsnTag) (o : Option (List ℕ)) → HasShortId o → optional_size (octets_spelling tag) o ≤ 19
id_size tag None h = omega arith
id_size tag (Some id) h = of_text tag id 19 (omega (arith, h))

-- ---- records and diagnostics

default_size : (r : Bib1Fault) → run_size (default_parts.spelling (diagnostic r) []) ≤ length r.info + 83
unfolding default_parts
default_size r =
    of_places default_diag_table (fields default_diag_table (diagnostic r)) (45 ∷ 23 ∷ (length r.info + 15) ∷ [])
    (length r.info + 83) (omega arith) (
      of_oid (universal 6) bib1_diagnostics 45 (omega arith),
      (of_integer (universal 2) r.condition, (of_text (universal 26) r.info (length r.info + 15) (omega arith), tt)),
    )

diagnosed_size : (r : Bib1Fault) → optional_size records.spelling (diagnosed r) ≤ length r.info + 98
diagnosed_size r =
    of_around (length r.info + 83) (length r.info + 98) (context 130) (default_parts.spelling (diagnostic r) [])
    (default_size r) (omega arith)

-- a surrogate diagnostic
named_size : (database : List ℕ) (r : Bib1Fault)
    → run_size (record_parts.spelling (surrogate database r) []) ≤ length database + length r.info + 143
unfolding record_parts
named_size database r =
    let k = length r.info in
    of_places record_table (fields record_table (surrogate database r)) ((length database + 15) ∷ (k + 128) ∷ [])
    (length database + k + 143) (omega arith) (
      of_text (context 0) database (length database + 15) (omega arith),
      (
        of_explicit (k + 113) (k + 128) (context 1) body (Surrogate (Default (diagnostic r)))
            (of_explicit (k + 98) (k + 113) (context 2) diag_rec (Default (diagnostic r))
            (of_around (k + 83) (k + 98) (universal 16) (default_parts.spelling (diagnostic r) []) (default_size r)
            (omega arith)) (omega arith)) (omega arith),
        tt,
      ),
    )

pub surrogate_size : (database : List ℕ) (r : Bib1Fault)
    → size_of (surrogate database r) ≤ length database + length r.info + 158
unfolding size_of
surrogate_size database r =
    of_around (length database + length r.info + 143) (length database + length r.info + 158) (universal 16)
    (record_parts.spelling (surrogate database r) []) (named_size database r) (omega arith)

each_size : (rs : List Record) → list_size whole_record.spelling rs ≡ size_of_all rs
unfolding size_of
each_size [] = refl
each_size (r ∷ rs) = ap (λ k. encoded_size (whole_record.spelling r) + k) (each_size rs)

list_fits : (rs : List Record) → run_size (all_spellings whole_record.spelling rs) ≤ size_of_all rs
list_fits rs = omega (arith, of_list whole_record.spelling rs, each_size rs)

records_size : (rs : List Record) → optional_size records.spelling (response_records rs) ≤ size_of_all rs + 15
records_size [] = omega arith
records_size (r ∷ rs) =
    of_around (size_of_all (r ∷ rs)) (size_of_all (r ∷ rs) + 15) (context 28)
    (all_spellings whole_record.spelling (r ∷ rs)) (list_fits (r ∷ rs)) (omega arith)

-- ---- the responses

module _ (r : SearchRequest) (id : HasShortId r.reference_id) where
  found_size : (count due : ℕ) (held : List Record)
      → run_size (search_response_parts.spelling (search_response r count due held) []) ≤ size_of_all held + 165
  unfolding search_response_parts
  found_size count due held =
      of_places search_response_table (fields search_response_table (search_response r count due held))
      (19 ∷ 23 ∷ 23 ∷ 23 ∷ 16 ∷ 23 ∷ 23 ∷ (size_of_all held + 15) ∷ 0 ∷ 0 ∷ []) (size_of_all held + 165) (omega arith) (
        id_size (context 2) r.reference_id id,
        (
          of_integer (context 23) (pos count),
          (
            of_integer (context 24) (pos (length held)),
            (
              of_integer (context 25) (next_position (length held) count),
              (
                of_boolean (context 22) true,
                (
                  number_size (context 26) None,
                  (
                    number_size (context 27) (status_if_due (length held) due),
                    (records_size held, (omega arith, (omega arith, tt))),
                  ),
                ),
              ),
            ),
          ),
        ),
      )

  failed_size : (reason : Bib1Fault)
      → run_size (search_response_parts.spelling (search_failed r reason) []) ≤ length reason.info + 248
  unfolding search_response_parts
  failed_size reason =
      of_places search_response_table (fields search_response_table (search_failed r reason))
      (19 ∷ 23 ∷ 23 ∷ 23 ∷ 16 ∷ 23 ∷ 23 ∷ (length reason.info + 98) ∷ 0 ∷ 0 ∷ []) (length reason.info + 248)
      (omega arith) (
        id_size (context 2) r.reference_id id,
        (
          of_integer (context 23) (pos 0),
          (
            of_integer (context 24) (pos 0),
            (
              of_integer (context 25) (pos 0),
              (
                of_boolean (context 22) false,
                (
                  number_size (context 26) (Some (pos 3)),
                  (number_size (context 27) None, (diagnosed_size reason, (omega arith, (omega arith, tt)))),
                ),
              ),
            ),
          ),
        ),
      )

  pub found_short : (count due : ℕ) (held : List Record) → size_of_all held ≤ 2000158
      → IsShort (apdus.SearchResponse (search_response r count due held))
  found_short count due held l =
      is_short (apdus.SearchResponse (search_response r count due held)) (omega (arith, found_size count due held, l))

  pub failed_short : (reason : Bib1Fault) → length reason.info ≤ 2000000
      → IsShort (apdus.SearchResponse (search_failed r reason))
  failed_short reason l =
      is_short (apdus.SearchResponse (search_failed r reason)) (omega (arith, failed_size reason, l))

module _ (r : PresentRequest) (id : HasShortId r.reference_id) where
  present_size : (count : ℕ) (held : List Record)
      → run_size (present_response_parts.spelling (present_response r count held) []) ≤ size_of_all held + 103
  unfolding present_response_parts
  present_size count held =
      of_places present_response_table (fields present_response_table (present_response r count held))
      (19 ∷ 23 ∷ 23 ∷ 23 ∷ (size_of_all held + 15) ∷ 0 ∷ []) (size_of_all held + 103) (omega arith) (
        id_size (context 2) r.reference_id id,
        (
          of_integer (context 24) (pos (length held)),
          (
            of_integer (context 25) (next_position (last_position (asked_positions r) (length held)) count),
            (
              of_integer (context 27) (status (length held) (length (asked_positions r))),
              (records_size held, (omega arith, tt)),
            ),
          ),
        ),
      )

  unpresented_size : (reason : Bib1Fault)
      → run_size (present_response_parts.spelling (present_failed r reason) []) ≤ length reason.info + 186
  unfolding present_response_parts
  unpresented_size reason =
      of_places present_response_table (fields present_response_table (present_failed r reason))
      (19 ∷ 23 ∷ 23 ∷ 23 ∷ (length reason.info + 98) ∷ 0 ∷ []) (length reason.info + 186) (omega arith) (
        id_size (context 2) r.reference_id id,
        (
          of_integer (context 24) (pos 0),
          (
            of_integer (context 25) (pos 0),
            (of_integer (context 27) (pos 5), (diagnosed_size reason, (omega arith, tt))),
          ),
        ),
      )

  pub presented_short : (count : ℕ) (held : List Record) → size_of_all held ≤ 2000158
      → IsShort (apdus.PresentResponse (present_response r count held))
  presented_short count held l =
      is_short (apdus.PresentResponse (present_response r count held)) (omega (arith, present_size count held, l))

  pub unpresented_short : (reason : Bib1Fault) → length reason.info ≤ 2000000
      → IsShort (apdus.PresentResponse (present_failed r reason))
  unpresented_short reason l =
      is_short (apdus.PresentResponse (present_failed r reason)) (omega (arith, unpresented_size reason, l))

-- ---- Init and Close

nothing_more : (out : List Element)
    → run_size (implementation_parts.spelling (implementation None None None None None) out) ≤ run_len out + 0
unfolding implementation_parts
nothing_more out =
    of_table implementation_table (fields implementation_table (implementation None None None None None))
    (0 ∷ 0 ∷ 0 ∷ 0 ∷ 0 ∷ []) out (omega arith, (omega arith, (omega arith, (omega arith, (omega arith, tt)))))

init_size : (settings : TargetSettings) (r : InitRequest) → HasShortId r.reference_id
    → run_size (init_response_parts.spelling (init_response settings r) []) ≤ 145
unfolding init_response_parts
init_size settings r id =
    of_places init_response_table (fields init_response_table (init_response settings r))
    (19 ∷ 26 ∷ 38 ∷ 23 ∷ 23 ∷ 16 ∷ 0 ∷ []) 145 (omega arith) (
      id_size (context 2) r.reference_id id,
      (
        of_bits (context 3) (versions r.protocol_version) 26 (omega arith),
        (
          of_bits (context 4) (options settings r.options) 38 (omega arith),
          (
            of_integer (context 5) (agreed_size settings r),
            (
              of_integer (context 6) (agreed_size settings r),
              (of_boolean (context 12) (is_accepted settings r.protocol_version), nothing_more),
            ),
          ),
        ),
      ),
    )

pub init_short : (settings : TargetSettings) (r : InitRequest) → HasShortId r.reference_id
    → IsShort (apdus.InitResponse (init_response settings r))
init_short settings r id =
    is_short (apdus.InitResponse (init_response settings r)) (omega (arith, init_size settings r id))

close_size : (c : Close) → HasShortId c.reference_id → run_size (close_parts.spelling (close_reply c) []) ≤ 42
unfolding close_parts
close_size c id =
    of_places close_table (fields close_table (close_reply c)) (19 ∷ 23 ∷ 0 ∷ 0 ∷ 0 ∷ 0 ∷ []) 42 (omega arith) (
      id_size (context 2) c.reference_id id,
      (of_integer (context 211) (pos 0), (omega arith, (omega arith, (omega arith, (omega arith, tt))))),
    )

pub close_short : (c : Close) → HasShortId c.reference_id → IsShort (apdus.Close (close_reply c))
close_short c id = is_short (apdus.Close (close_reply c)) (omega (arith, close_size c id))
