-- Whatever the octets of a record are, its lines are safe text.
use Rattle.std.proofs.Common.{◌≡◌, ℕ, zero, suc, ◌/◌, ◌%◌, ◌<◌, Bool, true, false, List, [], ◌∷◌, ◌++◌, take, leb, ltb, eqb, refl, subst, arith}
use Rattle.std.specs.Prelude.{◌&&◌, All, codes, map}
use Rattle.std.specs.Fmt.{decimal, digits, digits_onto, digit_glyph}
use Rattle.std.specs.List.{flat_map, list_all}
use Rattle.std.proofs.lemmas.Bool.{and_parts, leb-true, ltb-true, lt-ltb, cond_both}
use Rattle.std.proofs.lemmas.List.Elements.{All-nil, All-cons, All-append, All-weaker}
use Rattle.std.proofs.lemmas.List.Sums.{AllPass-from_list_all}
use Rattle.zmarc.specs.declared.charset.Charset.{Charset}
use Rattle.zmarc.specs.declared.charset.Charset.TheVariants.{Utf8}
use Rattle.zmarc.specs.declared.format.Reading.{Reading}
use Rattle.zmarc.specs.Briefs.{charset}
use Rattle.zmarc.specs.Charsets.{text}
use Rattle.zmarc.specs.Laws.{IsPrintable}
use Rattle.zmarc.specs.Lines.{is_control, indicators, subfield_text, data_text, field_text, field_line, leader_line, lost_line, lost_lines, lines_in, field_lines, AreSafeLines}
use Rattle.zmarc.specs.Records.{Field, fields, is_record, lost_count}
use Rattle.zmarc.specs.Shown.{IsSafeText}
use Rattle.zmarc.specs.Subfields.{Subfield, subfields}
use Rattle.zmarc.proofs.LawTheory.{ascii_stands}
use Rattle.zmarc.proofs.SafeTheory.{nothing_is_safe, space_is_safe, append_is_safe, text_is_safe}

-- ---- printable ASCII

printable_is_safe : (xs : List ℕ) → All IsPrintable xs → IsSafeText xs
printable_is_safe xs h = subst IsSafeText (ascii_stands Utf8 xs h) (text_is_safe Utf8 xs)

abbrev is_printable : ℕ → Bool
is_printable x = leb 0x20 x && ltb x 0x7F

printable_from : (x : ℕ) → is_printable x ≡ true → IsPrintable x
printable_from x h = let both = and_parts (leb 0x20 x) (ltb x 0x7F) h in
    (leb-true 0x20 x both.0, ltb-true x 0x7F both.1)

literal_is_safe : (xs : List ℕ) → list_all is_printable xs ≡ true → IsSafeText xs
literal_is_safe xs h =
    printable_is_safe xs (All-weaker (λ x. is_printable x ≡ true) IsPrintable printable_from xs
    (AllPass-from_list_all is_printable xs h))

glyph_printable : (n : ℕ) → IsPrintable (digit_glyph false (n % 10))
glyph_printable n =
    let below : n % 10 < 10 = omega arith in
    rw (lt-ltb (n % 10) 10 below) (omega arith, omega arith)

digits_printable : (k n : ℕ) (acc : List ℕ) → All IsPrintable acc → All IsPrintable (digits_onto k 10 false n acc)
digits_printable zero n acc h = h
digits_printable (suc k) n acc h =
    let more = All-cons IsPrintable (digit_glyph false (n % 10)) acc (glyph_printable n) h in
    cond_both (eqb (n / 10) 0) _ _ (All IsPrintable) (λ _. more)
    (λ _. digits_printable k (n / 10) (digit_glyph false (n % 10) ∷ acc) more)

decimal_is_safe : (n : ℕ) → IsSafeText (decimal n)
unfolding digits
decimal_is_safe n = printable_is_safe (decimal n) (digits_printable 64 n [] (All-nil IsPrintable))

-- ---- fields

flat_is_safe : {X : Type 0} (f : X → List ℕ) → ((x : X) → IsSafeText (f x)) → (xs : List X)
    → IsSafeText (flat_map f xs)
flat_is_safe f each [] = nothing_is_safe
flat_is_safe f each (x ∷ xs) = append_is_safe (f x) (flat_map f xs) (each x) (flat_is_safe f each xs)

subfield_is_safe : (set : Charset) (s : Subfield) → IsSafeText (subfield_text set s)
subfield_is_safe set s =
    append_is_safe _ (text set s.octets)
    (append_is_safe _ (codes " ")
    (append_is_safe (codes " $") (text set (s.code ∷ [])) (literal_is_safe (codes " $") refl)
    (text_is_safe set (s.code ∷ []))) space_is_safe)
    (text_is_safe set s.octets)

data_is_safe : (set : Charset) (octets : List ℕ) → IsSafeText (data_text set octets)
data_is_safe set octets =
    append_is_safe (text set (indicators octets)) (flat_map (subfield_text set) (subfields octets))
    (text_is_safe set (indicators octets)) (flat_is_safe (subfield_text set) (subfield_is_safe set) (subfields octets))

behind_tag_is_safe : (set : Charset) (tag octets : List ℕ) → IsSafeText (field_text set tag octets)
behind_tag_is_safe set tag octets =
    cond_both (is_control tag) (text set octets) (data_text set octets) IsSafeText (λ _. text_is_safe set octets)
    (λ _. data_is_safe set octets)

field_is_safe : (set : Charset) (f : Field) → IsSafeText (field_line set f)
field_is_safe set f =
    append_is_safe (text set f.tag ++ codes " ") (field_text set f.tag f.octets)
    (append_is_safe (text set f.tag) (codes " ") (text_is_safe set f.tag) space_is_safe)
    (behind_tag_is_safe set f.tag f.octets)

-- ---- records

all_are_safe : {X : Type 0} (f : X → List ℕ) → ((x : X) → IsSafeText (f x)) → (xs : List X) → All IsSafeText (map f xs)
all_are_safe f each [] = All-nil IsSafeText
all_are_safe f each (x ∷ xs) = All-cons IsSafeText (f x) (map f xs) (each x) (all_are_safe f each xs)

lost_are_safe : (count : ℕ) → All IsSafeText (lost_lines count)
lost_are_safe count =
    cond_both (eqb count 0) [] (lost_line count ∷ []) (All IsSafeText) (λ _. All-nil IsSafeText)
    (λ _. All-cons IsSafeText (lost_line count) []
    (append_is_safe (codes "entries of the directory that tell of no field: ") (decimal count)
    (literal_is_safe (codes "entries of the directory that tell of no field: ") refl) (decimal_is_safe count))
    (All-nil IsSafeText))

lines_are_safe : (set : Charset) (octets : List ℕ) → All IsSafeText (lines_in set octets)
lines_are_safe set octets =
    All-cons IsSafeText (leader_line set octets) _ (text_is_safe set (take 24 octets))
    (All-append IsSafeText (map (field_line set) (fields octets)) (lost_lines (lost_count octets))
    (all_are_safe (field_line set) (field_is_safe set) (fields octets)) (lost_are_safe (lost_count octets)))

each_is_safe : (reading : Reading) (octets : List ℕ) → All IsSafeText (field_lines reading octets)
unfolding field_lines
each_is_safe reading octets =
    cond_both (is_record octets) (lines_in (charset reading octets) octets) [] (All IsSafeText)
    (λ _. lines_are_safe (charset reading octets) octets) (λ _. All-nil IsSafeText)

pub field_lines_are_safe : (reading : Reading) (octets : List ℕ) → AreSafeLines (field_lines reading octets)
field_lines_are_safe reading octets = record { each = each_is_safe reading octets }
