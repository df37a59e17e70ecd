-- What is shown of a record depends on its fields and its character set, and octets behind it change neither.
use Rattle.std.proofs.Common.{◌≡◌, ℕ, ◌^◌, ◌<◌, ◌≤◌, cond, Some, List, [], ◌++◌, length, take, refl, sym, ap, ◌∙◌, arith}
use Rattle.std.specs.Prelude.{◌||◌, unwrap_or, map, filter, find, codes}
use Rattle.std.specs.Option.{option_map, option_and_then}
use Rattle.std.specs.Str.{byte}
use Rattle.std.proofs.lemmas.Bool.{le-leb, le-ltb}
use Rattle.std.proofs.lemmas.List.{append-nil, length-append, get_or_append_left, take-append-le}
use Rattle.std.proofs.Math.Seq.{take-append_seam}
use Rattle.zmarc.specs.declared.charset.Charset.TheVariants.{Utf8}
use Rattle.zmarc.specs.declared.format.Format.{Format}
use Rattle.zmarc.specs.declared.format.Reading.{Reading}
use Rattle.zmarc.specs.declared.format.Format.TheVariants.{Marc21, Unimarc}
use Rattle.zmarc.specs.Charsets.{is_utf8_beyond_ascii}
use Rattle.zmarc.specs.Numbers.{number}
use Rattle.zmarc.specs.Records.{Field, fields, has_tag, first_field, tagged_fields, front_of, own_octets}
use Rattle.zmarc.specs.Subfields.{first_subfield, first_given, filled, subfield_in}
use Rattle.zmarc.specs.Isbns.{isbn_tag, isbn_of_field, isbn_number, labelled_isbn, isbn}
use Rattle.zmarc.specs.Years.{year_of_field, year_in, year}
use Rattle.zmarc.specs.Briefs.{title_tag, title_parts, title, heading, maker_code, maker, pieces, names_utf8, declares_utf8, other_charset, own_charset, charset, joined, brief}
use Rattle.zmarc.specs.Written.{digits, record_of, AreWritable, TellsLength}
use Rattle.zmarc.proofs.WrittenTheory.{number_of, fields_before, is_record_before, fields_written, is_record_written, length_written}

-- ---- what depends on the fields alone

module _ (a b : List ℕ) (h : fields a ≡ fields b) where
  same_first : (tag : List ℕ) → first_field tag a ≡ first_field tag b
  unfolding first_field
  same_first tag = ap (λ fs. option_map (λ f. f.octets) (find (has_tag tag) fs)) h

  same_tagged : (tag : List ℕ) → tagged_fields tag a ≡ tagged_fields tag b
  unfolding tagged_fields
  same_tagged tag = ap (λ fs. map (λ f. f.octets) (filter (has_tag tag) fs)) h

  same_subfield : (tag : List ℕ) (code : ℕ) → subfield_in tag code a ≡ subfield_in tag code b
  unfolding subfield_in
  same_subfield tag code =
      ap (λ o. option_and_then filled (option_and_then (first_subfield code) o)) (same_first tag)

  same_title : (format : Format) → title format a ≡ title format b
  unfolding title
  same_title format = ap (title_parts format) (same_first (title_tag format))

  same_heading : (format : Format) → heading format a ≡ heading format b
  unfolding heading
  same_heading Marc21 =
      rw (same_subfield (codes "100") (byte "a"))
      (rw (same_subfield (codes "110") (byte "a")) (rw (same_subfield (codes "111") (byte "a")) refl))
  same_heading Unimarc =
      rw (same_subfield (codes "700") (byte "a")) (rw (same_subfield (codes "710") (byte "a")) refl)

  same_maker : (format : Format) → maker format a ≡ maker format b
  unfolding maker
  same_maker format =
      rw (same_subfield (title_tag format) (maker_code format)) (rw (same_heading format) refl)

  same_isbn : (format : Format) → isbn format a ≡ isbn format b
  unfolding isbn isbn_number
  same_isbn format = ap (λ found. labelled_isbn (first_given isbn_of_field found)) (same_tagged (isbn_tag format))

  pub same_pieces : (format : Format) → pieces format a ≡ pieces format b
  unfolding pieces
  same_pieces format = rw (same_title format) (rw (same_maker format) (rw (same_isbn format) refl))

  same_year_in : (tag : List ℕ) (code : ℕ) → year_in tag code a ≡ year_in tag code b
  unfolding year_in
  same_year_in tag code = ap (first_given (year_of_field code)) (same_tagged tag)

  pub years_same : (format : Format) → year format a ≡ year format b
  unfolding year
  years_same Marc21 =
      rw (same_year_in (codes "264") (byte "c"))
      (rw (same_year_in (codes "260") (byte "c"))
      (rw (same_year_in (codes "260") (byte "g")) (rw (same_first (codes "008")) refl)))
  years_same Unimarc =
      rw (same_year_in (codes "214") (byte "d"))
      (rw (same_year_in (codes "210") (byte "d")) (rw (same_subfield (codes "100") (byte "a")) refl))

-- ---- the character set

module _ (xs more : List ℕ) (long : 24 ≤ length xs) where
  own_is : TellsLength xs → own_octets (xs ++ more) ≡ xs
  unfolding own_octets
  own_is t =
      let all = length-append xs more in
      let front : take 5 (xs ++ more) ≡ digits 5 (length xs) = take-append-le 5 xs more (omega arith) ∙ t.told in
      let len : number (take 5 (xs ++ more)) ≡ Some (length xs) = ap number front ∙ number_of 5 (length xs) t.short in
      rw (le-ltb (length (xs ++ more)) 24 (omega (arith, all)))
      (ap (front_of (xs ++ more)) len
      ∙ rw (le-leb 24 (length xs) long)
      (rw (le-leb (length xs) (length (xs ++ more)) (omega (arith, all))) (take-append_seam xs more)))

  declares_same : (format : Format) → fields (xs ++ more) ≡ fields xs
      → declares_utf8 format (xs ++ more) ≡ declares_utf8 format xs
  declares_same Marc21 h =
      rw (le-leb 10 (length (xs ++ more)) (omega (arith, length-append xs more)))
      (rw (le-leb 10 (length xs) (omega arith)) (rw (get_or_append_left xs more 0 9 (omega arith)) refl))
  declares_same Unimarc h = ap names_utf8 (same_subfield (xs ++ more) xs h (codes "100") (byte "a"))

own_alone : (xs : List ℕ) → 24 ≤ length xs → TellsLength xs → own_octets xs ≡ xs
own_alone xs long t = ap own_octets (sym (append-nil xs)) ∙ own_is xs [] long t

own_set_same : (format : Format) (xs more : List ℕ) → 24 ≤ length xs → TellsLength xs → fields (xs ++ more) ≡ fields xs
    → own_charset format (xs ++ more) ≡ own_charset format xs
own_set_same format xs more long t h =
    ap (λ d. cond (d || is_utf8_beyond_ascii (own_octets (xs ++ more))) Utf8 (other_charset format))
    (declares_same xs more long format h)
    ∙ ap (λ o. cond (declares_utf8 format xs || is_utf8_beyond_ascii o) Utf8 (other_charset format))
    (own_is xs more long t ∙ sym (own_alone xs long t))

set_same : (reading : Reading) (xs more : List ℕ) → 24 ≤ length xs → TellsLength xs → fields (xs ++ more) ≡ fields xs
    → charset reading (xs ++ more) ≡ charset reading xs
set_same reading xs more long t h = ap (unwrap_or reading.charset) (own_set_same reading.format xs more long t h)

-- ---- records that are written, and octets behind them

module _ (status coded : List ℕ) (fs : List Field) (more : List ℕ) (w : AreWritable status coded fs) where
  abbrev alone : List ℕ
  alone = record_of status coded fs

  fields_same : fields (alone ++ more) ≡ fields alone
  fields_same = fields_before status coded fs more w ∙ sym (fields_written status coded fs w)

  pub year_behind : (format : Format) → year format (alone ++ more) ≡ year format alone
  year_behind format = years_same (alone ++ more) alone fields_same format

  pub line_behind : (reading : Reading) → TellsLength alone → length (alone ++ more) < 2 ^ 32
      → brief reading (alone ++ more) ≡ brief reading alone
  unfolding brief
  line_behind reading t few =
      let set = set_same reading alone more (omega (arith, length_written status coded fs w)) t fields_same in
      rw (is_record_before status coded fs more w few)
      (rw (is_record_written status coded fs w)
      (ap (λ s. joined s [] (pieces reading.format (alone ++ more))) set
      ∙ ap (joined (charset reading alone) []) (same_pieces (alone ++ more) alone fields_same reading.format)))
