-- The lines of a record are those of the fields that it was written of.
use Rattle.std.proofs.Common.{◌≡◌, ℕ, ◌+◌, suc, Bool, false, cond, List, [], ◌∷◌, ◌++◌, length, take, map, refl, ap, ◌∙◌, arith}
use Rattle.std.specs.Prelude.{All}
use Rattle.std.specs.List.{flat_map, before_first, position_or_len}
use Rattle.std.proofs.lemmas.List.{append-nil}
use Rattle.std.proofs.lemmas.List.Elements.{All-head, All-tail}
use Rattle.zmarc.specs.declared.charset.Charset.{Charset}
use Rattle.zmarc.specs.declared.format.Reading.{Reading}
use Rattle.zmarc.specs.Briefs.{charset}
use Rattle.zmarc.specs.Charsets.{text}
use Rattle.zmarc.specs.Laws.{NoDelimiter, subfield_octets, written_lines}
use Rattle.zmarc.specs.Lines.{indicators, subfield_text, data_text, field_line, lost_lines, lines_in, field_lines}
use Rattle.zmarc.specs.Records.{Field, fields, lost_count}
use Rattle.zmarc.specs.Subfields.{Subfield, subfields, is_delimiter}
use Rattle.zmarc.specs.Written.{leader, record_of, AreWritable}
use Rattle.zmarc.proofs.LawTheory.{none_is, subfields_made}
use Rattle.zmarc.proofs.NothingTheory.{counted}
use Rattle.zmarc.proofs.WrittenTheory.{before_ended, fields_written, is_record_written, count_written, leader_written}

-- ---- records

module _ (status coded : List ℕ) (fs : List Field) (w : AreWritable status coded fs) where
  abbrev whole : List ℕ
  whole = record_of status coded fs

  none_lost : lost_count whole ≡ 0
  none_lost =
      omega (arith, counted whole, ap length (fields_written status coded fs w), count_written status coded fs w)

  lines_whole : (set : Charset) → lines_in set whole ≡ written_lines set (leader status coded fs) fs
  lines_whole set =
      let head = text set (leader status coded fs) in
      ap (λ l. text set l ∷ (map (field_line set) (fields whole) ++ lost_lines (lost_count whole)))
      (leader_written status coded fs w)
      ∙ ap (λ found. head ∷ (map (field_line set) found ++ lost_lines (lost_count whole)))
      (fields_written status coded fs w)
      ∙ ap (λ n. head ∷ (map (field_line set) fs ++ lost_lines n)) none_lost
      ∙ ap (λ l. head ∷ l) (append-nil (map (field_line set) fs))

  pub lines_written : (reading : Reading) → field_lines reading whole
      ≡ written_lines (charset reading whole) (leader status coded fs) fs
  unfolding field_lines
  lines_written reading =
      ap (λ b. cond b (lines_in (charset reading whole) whole) []) (is_record_written status coded fs w)
      ∙ lines_whole (charset reading whole)

-- ---- fields

before_none : (p : ℕ → Bool) (xs : List ℕ) → All (λ x. p x ≡ false) xs → before_first p xs ≡ xs
before_none p [] none = refl
before_none p (x ∷ xs) none =
    let rest : before_first p xs ≡ xs = before_none p xs (All-tail (λ x. p x ≡ false) x xs none) in
    let n : ℕ = position_or_len p xs in
    let one : 1 + n ≡ suc n = omega arith in
    rw (All-head (λ x. p x ≡ false) x xs none) (ap (λ k. take k (x ∷ xs)) one ∙ ap (λ l. x ∷ l) rest)

indicators_made : (before : List ℕ) (made : List Subfield) → NoDelimiter before
    → indicators (before ++ flat_map subfield_octets made) ≡ before
indicators_made before [] plain =
    ap (before_first is_delimiter) (append-nil before) ∙ before_none is_delimiter before (none_is before plain)
indicators_made before (s ∷ made) plain =
    before_ended is_delimiter before ((s.code ∷ s.octets) ++ flat_map subfield_octets made) 0x1F (none_is before plain) refl

pub data_made : (set : Charset) (before : List ℕ) (made : List Subfield) → NoDelimiter before
    → All (λ s. NoDelimiter (s.code ∷ s.octets)) made
    → data_text set (before ++ flat_map subfield_octets made) ≡ text set before ++ flat_map (subfield_text set) made
data_made set before made plain each =
    ap (λ l. text set l ++ flat_map (subfield_text set) (subfields (before ++ flat_map subfield_octets made)))
    (indicators_made before made plain)
    ∙ ap (λ l. text set before ++ flat_map (subfield_text set) l) (subfields_made before made plain each)
