-- Whatever the octets of a record are, what is shown of it is safe text.
use Rattle.std.proofs.Common.{◌≡◌, ◌≢◌, ℕ, ◌+◌, ◌/◌, ◌<◌, ◌≤◌, true, false, cond, not, List, [], ◌∷◌, ◌++◌, length, get_or, ltb, leb, eqb, refl, sym, ap, ◌∙◌, arith, lit<}
use lib.Utf8.{scalar, scalars, encode, encodes, next}
use Rattle.std.specs.Prelude.{◌&&◌, All, map, filter}
use Rattle.std.specs.Int.{is_in_range}
use Rattle.std.proofs.lemmas.Bool.{and_parts, and_from, both_ways, not-true, leb-true, le-leb, ltb-true, cond_both}
use Rattle.std.proofs.lemmas.List.Elements.{All-nil, All-cons, All-append, All-map}
use Rattle.std.proofs.lemmas.Str.{encodes-append, IsUtf8-nil, IsUtf8-append}
use Rattle.unicode_normalization.specs.Forms.{nfc}
use Rattle.zmarc.specs.declared.charset.Charset.{Charset}
use Rattle.zmarc.specs.declared.format.Reading.{Reading}
use Rattle.zmarc.specs.Shown.{is_sort_mark, is_white, is_invisible, is_safe, shown, shown_text, IsSafe, IsSafeOctet, IsSafeText}
use Rattle.zmarc.specs.Charsets.{text, characters}
use Rattle.zmarc.specs.Records.{is_record}
use Rattle.zmarc.specs.Briefs.{charset, pieces, with_piece, joined, brief}

-- ---- characters

outside : (lo hi c : ℕ) → not (is_in_range lo hi c) ≡ true → lo ≤ c → c ≤ hi → ⊥
outside lo hi c h low high =
    both_ways (is_in_range lo hi c) (not-true (is_in_range lo hi c) h)
    (and_from (leb lo c) (leb c hi) (le-leb lo c low) (le-leb c hi high))

-- what is seen is none that is not
apart : (c k : ℕ) → is_invisible c ≡ false → is_invisible k ≡ true → c ≢ k
apart c k seen unseen e = let both : false ≡ true = sym seen ∙ ap is_invisible e ∙ unseen in cc

safe_by : (c : ℕ) → is_safe c ≡ true → IsSafe c
safe_by c h =
    let seen = and_parts
    (scalar c && leb 0x20 c && not (is_in_range 0x7F 0x9F c) && not (is_in_range 0x2028 0x202E c) && not (is_in_range 0x2066 0x2069 c))
    (not (is_invisible c)) h in
    let visible = not-true (is_invisible c) seen.1 in
    let all = and_parts (scalar c && leb 0x20 c && not (is_in_range 0x7F 0x9F c) && not (is_in_range 0x2028 0x202E c))
    (not (is_in_range 0x2066 0x2069 c)) seen.0 in
    let four = and_parts (scalar c && leb 0x20 c && not (is_in_range 0x7F 0x9F c)) (not (is_in_range 0x2028 0x202E c)) all.0 in
    let three = and_parts (scalar c && leb 0x20 c) (not (is_in_range 0x7F 0x9F c)) four.0 in
    let two = and_parts (scalar c) (leb 0x20 c) three.0 in
    record {
      scalar_value = two.0;
      no_control = leb-true 0x20 c two.1;
      no_later_control = outside 0x7F 0x9F c three.1;
      no_separator_or_embedding = outside 0x2028 0x202E c four.1;
      no_isolate = outside 0x2066 0x2069 c all.1;
      no_arabic_letter_mark = apart c 0x061C visible refl;
      no_directional_mark = (apart c 0x200E visible refl, apart c 0x200F visible refl);
      no_zero_width_space = apart c 0x200B visible refl;
      no_byte_order_mark = apart c 0xFEFF visible refl;
    }

safe_shown : (c : ℕ) → IsSafe (shown c)
safe_shown c =
    cond_both (is_white c) 0x20 (cond (is_safe c) c 0xFFFD) IsSafe (λ _. safe_by 0x20 refl)
    (λ _. cond_both (is_safe c) c 0xFFFD IsSafe (λ h. safe_by c h) (λ _. safe_by 0xFFFD refl))

-- ---- octets

high : (b : ℕ) → 128 ≤ b → IsSafeOctet b
high b h = record { no_control = omega arith; no_delete = λ e. omega arith }

low : (c : ℕ) → IsSafe c → c < 128 → IsSafeOctet c
low c s h = record { no_control = s.no_control; no_delete = λ e. s.no_later_control (omega arith) (omega arith) }

encode_safe : (c : ℕ) → IsSafe c → All IsSafeOctet (encode c)
unfolding encode
encode_safe c s =
    let none = All-nil IsSafeOctet in
    let one = λ (b : ℕ) (h : 128 ≤ b). All-cons IsSafeOctet b [] (high b h) none in
    let more = λ (b : ℕ) (bs : List ℕ) (h : 128 ≤ b) (k : All IsSafeOctet bs). All-cons IsSafeOctet b bs (high b h) k in
    let last : All IsSafeOctet (next c ∷ []) = one (next c) (omega arith) in
    let last_two : All IsSafeOctet (next (c / 64) ∷ next c ∷ []) =
    more (next (c / 64)) (next c ∷ []) (omega arith) last in
    let last_three : All IsSafeOctet (next (c / 4096) ∷ next (c / 64) ∷ next c ∷ []) =
    more (next (c / 4096)) (next (c / 64) ∷ next c ∷ []) (omega arith) last_two in
    cond_both (ltb c 128) (c ∷ []) _ (All IsSafeOctet)
    (λ h. All-cons IsSafeOctet c [] (low c s (ltb-true c 128 h)) none)
    (λ _. cond_both (ltb c 2048) _ _ (All IsSafeOctet)
    (λ _. more (192 + c / 64) (next c ∷ []) (omega arith) last)
    (λ _. cond_both (ltb c 65536) _ _ (All IsSafeOctet)
    (λ _. more (224 + c / 4096) (next (c / 64) ∷ next c ∷ []) (omega arith) last_two)
    (λ _. more (240 + c / 262144) (next (c / 4096) ∷ next (c / 64) ∷ next c ∷ []) (omega arith) last_three)))

shown_octets : (cs : List ℕ) → All IsSafeOctet (encodes (map shown cs))
shown_octets [] = All-nil IsSafeOctet
shown_octets (c ∷ cs) =
    All-append IsSafeOctet (encode (shown c)) (encodes (map shown cs)) (encode_safe (shown c) (safe_shown c)) (shown_octets cs)

shown_scalars : (cs : List ℕ) → scalars (map shown cs) ≡ true
shown_scalars [] = refl
shown_scalars (c ∷ cs) = and_from (scalar (shown c)) (scalars (map shown cs)) (safe_shown c).scalar_value (shown_scalars cs)

-- ---- texts

safe_encoded : (cs : List ℕ) → IsSafeText (encodes (map shown cs))
safe_encoded cs = record {
  characters = map shown cs;
  spelled = refl;
  safe = All-map IsSafe shown cs (λ k d h. safe_shown (get_or cs k d));
  utf8 = (map shown cs, (shown_scalars cs, refl));
  plain = shown_octets cs;
}

pub shown_is_safe : (cs : List ℕ) → IsSafeText (shown_text cs)
unfolding shown_text
shown_is_safe cs = safe_encoded (filter (λ c. not (is_sort_mark c)) cs)

pub nothing_is_safe : IsSafeText []
nothing_is_safe = record {
  characters = [];
  spelled = refl;
  safe = All-nil IsSafe;
  utf8 = IsUtf8-nil;
  plain = All-nil IsSafeOctet;
}

pub space_is_safe : IsSafeText (0x20 ∷ [])
unfolding encode
space_is_safe = record {
  characters = 0x20 ∷ [];
  spelled = refl;
  safe = All-cons IsSafe 0x20 [] (safe_by 0x20 refl) (All-nil IsSafe);
  utf8 = (0x20 ∷ [], (refl, refl));
  plain = All-cons IsSafeOctet 0x20 [] (low 0x20 (safe_by 0x20 refl) (lit< tt)) (All-nil IsSafeOctet);
}

pub append_is_safe : (a b : List ℕ) → IsSafeText a → IsSafeText b → IsSafeText (a ++ b)
append_is_safe a b first then = record {
  characters = first.characters ++ then.characters;
  spelled = encodes-append first.characters then.characters ∙ ap (λ l. l ++ encodes then.characters) first.spelled
      ∙ ap (λ l. a ++ l) then.spelled;
  safe = All-append IsSafe first.characters then.characters first.safe then.safe;
  utf8 = IsUtf8-append a b first.utf8 then.utf8;
  plain = All-append IsSafeOctet a b first.plain then.plain;
}

-- ---- lines

pub text_is_safe : (set : Charset) (octets : List ℕ) → IsSafeText (text set octets)
unfolding text
text_is_safe set octets = shown_is_safe (nfc (characters set octets))

piece_is_safe : (line piece : List ℕ) → IsSafeText line → IsSafeText piece → IsSafeText (with_piece line piece)
piece_is_safe line piece first then =
    cond_both (eqb (length line) 0) piece (line ++ 0x20 ∷ piece) IsSafeText (λ _. then)
    (λ _. append_is_safe line (0x20 ∷ piece) first (append_is_safe (0x20 ∷ []) piece space_is_safe then))

pub joined_is_safe : (set : Charset) (line : List ℕ) (found : List (List ℕ)) → IsSafeText line
    → IsSafeText (joined set line found)
unfolding joined
joined_is_safe set line [] first = first
joined_is_safe set line (piece ∷ found) first =
    joined_is_safe set (with_piece line (text set piece)) found
    (piece_is_safe line (text set piece) first (text_is_safe set piece))

pub brief_is_safe : (reading : Reading) (octets : List ℕ) → IsSafeText (brief reading octets)
unfolding brief
brief_is_safe reading octets =
    cond_both (is_record octets) (joined (charset reading octets) [] (pieces reading.format octets)) [] IsSafeText
    (λ _. joined_is_safe (charset reading octets) [] (pieces reading.format octets) nothing_is_safe)
    (λ _. nothing_is_safe)
