-- The line of a record begins with its title.
use Rattle.std.proofs.Common.{◌≡◌, ◌≢◌, ℕ, suc, Some, List, [], ◌∷◌, ◌++◌, length, refl, sym, ap, ◌∙◌, append_assoc, arith}
use Rattle.std.specs.Prelude.{All, find}
use Rattle.std.specs.List.{flat_map}
use Rattle.std.specs.Option.{option_map}
use Rattle.std.specs.Str.{byte}
use Rattle.std.proofs.lemmas.Bool.{ne_eqb}
use Rattle.std.proofs.lemmas.List.{append-nil}
use Rattle.std.proofs.lemmas.List.Elements.{All-cons}
use Rattle.zmarc.specs.declared.charset.Charset.{Charset}
use Rattle.zmarc.specs.declared.format.Format.{Format}
use Rattle.zmarc.specs.declared.format.Reading.{Reading}
use Rattle.zmarc.specs.declared.format.Format.TheVariants.{Marc21, Unimarc}
use Rattle.zmarc.specs.Charsets.{text}
use Rattle.zmarc.specs.Isbns.{isbn}
use Rattle.zmarc.specs.Records.{Field, has_tag, first_field}
use Rattle.zmarc.specs.Subfields.{Subfield, subfields}
use Rattle.zmarc.specs.Briefs.{title_tag, title_part, title_parts, title, maker, pieces, charset, with_piece, joined, brief}
use Rattle.zmarc.specs.Written.{record_of, AreWritable}
use Rattle.zmarc.specs.Laws.{IsPrintable, NoDelimiter, title_octets}
use Rattle.zmarc.proofs.LawTheory.{ascii_stands, subfields_made}
use Rattle.zmarc.proofs.WrittenTheory.{fields_written, is_record_written}

-- ---- lines

-- a piece behind a line leaves the line as it stands
grown : (line piece : List ℕ) → (rest : List ℕ) × (with_piece line piece ≡ line ++ rest)
grown [] piece = (piece, refl)
grown (x ∷ line) piece = (0x20 ∷ piece, rw (ne_eqb (suc (length line)) 0 (λ e. omega arith)) refl)

all_grown : (set : Charset) (line : List ℕ) (found : List (List ℕ))
    → (rest : List ℕ) × (joined set line found ≡ line ++ rest)
unfolding joined
all_grown set line [] = ([], sym (append-nil line))
all_grown set line (piece ∷ found) =
    let one = grown line (text set piece) in
    let more = all_grown set (with_piece line (text set piece)) found in
    (one.0 ++ more.0, more.1 ∙ ap (λ l. l ++ more.0) one.1 ∙ append_assoc line one.0 more.0)

first_stands : (set : Charset) (first : List ℕ) (found : List (List ℕ)) → All IsPrintable first
    → (rest : List ℕ) × (joined set [] (first ∷ found) ≡ first ++ rest)
unfolding joined
first_stands set first found plain =
    let more = all_grown set (text set first) found in
    (more.0, more.1 ∙ ap (λ l. l ++ more.0) (ascii_stands set first plain))

-- ---- the title

no_length : (xs : List ℕ) → xs ≢ [] → length xs ≢ 0
no_length [] some e = some refl
no_length (x ∷ xs) some e = omega arith

abbrev a_of : List ℕ → Subfield
a_of octets = record { code = byte "a"; octets = octets }

part_is : (format : Format) (octets : List ℕ) → octets ≢ [] → title_part format (a_of octets) ≡ octets ∷ []
part_is Marc21 octets some = rw (ne_eqb (length octets) 0 (no_length octets some)) refl
part_is Unimarc octets some = rw (ne_eqb (length octets) 0 (no_length octets some)) refl

no_delimiter : (octets : List ℕ) → All IsPrintable octets → NoDelimiter (byte "a" ∷ octets)
no_delimiter octets plain =
    All-cons (λ x. x ≢ 0x1F) (byte "a") octets (λ e. omega arith)
    (λ k d inside e. let p = plain k d inside in omega (arith, p.0, e))

module _ (format : Format) (octets : List ℕ) (f : Field) (indicators name : List ℕ) (made : List Subfield)
    (found : first_field (title_tag format) octets ≡ Some f.octets) (is : f.octets ≡ title_octets indicators name made)
    (no_mark : NoDelimiter indicators) (others : All (λ s. NoDelimiter (s.code ∷ s.octets)) made)
    (plain : All IsPrintable name) (some : name ≢ []) where
  subfields_are : subfields f.octets ≡ a_of name ∷ made
  subfields_are =
      ap subfields is
      ∙ subfields_made indicators (a_of name ∷ made) no_mark
      (All-cons (λ s. NoDelimiter (s.code ∷ s.octets)) (a_of name) made (no_delimiter name plain) others)

  title_is : title format octets ≡ name ∷ flat_map (title_part format) made
  unfolding title
  title_is =
      ap (title_parts format) found ∙ ap (flat_map (title_part format)) subfields_are
      ∙ ap (λ l. l ++ flat_map (title_part format) made) (part_is format name some)

  pieces_are : (rest : List (List ℕ)) × (pieces format octets ≡ name ∷ rest)
  unfolding pieces
  pieces_are =
      let behind : List (List ℕ) → List (List ℕ) = λ t. t ++ maker format octets ++ isbn format octets in
      (behind (flat_map (title_part format) made), ap behind title_is)

-- ---- the line

pub title_shown : (reading : Reading) (status coded : List ℕ) (fs : List Field) (f : Field) (indicators name : List ℕ)
    → (made : List Subfield) → AreWritable status coded fs → find (has_tag (title_tag reading.format)) fs ≡ Some f
    → f.octets ≡ title_octets indicators name made → NoDelimiter indicators
    → All (λ s. NoDelimiter (s.code ∷ s.octets)) made → All IsPrintable name → name ≢ []
    → (rest : List ℕ) × (brief reading (record_of status coded fs) ≡ name ++ rest)
unfolding brief first_field
title_shown reading status coded fs f indicators name made w found is no_mark others plain some =
    let octets : List ℕ = record_of status coded fs in
    let here : first_field (title_tag reading.format) octets ≡ Some f.octets =
    ap (λ l. option_map (λ g. g.octets) (find (has_tag (title_tag reading.format)) l))
    (fields_written status coded fs w)
    ∙ ap (option_map (λ g. g.octets)) found in
    let all = pieces_are reading.format octets f indicators name made here is no_mark others plain some in
    let line = first_stands (charset reading octets) name all.0 plain in
    (line.0, rw (is_record_written status coded fs w) (ap (joined (charset reading octets) []) all.1 ∙ line.1))
