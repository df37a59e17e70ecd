-- Texts: the octets of a character, what is shown, and what stands in a style sheet.
use Rattle.std.proofs.Common.{◌≡◌, ◌≢◌, ℕ, ◌+◌, ◌/◌, ◌<◌, ◌≤◌, Bool, true, false, cond, not, Option, Some, None, unwrap_or, List, [], ◌∷◌, ◌++◌, length, get_or, ltb, leb, eqb, refl, sym, ap, ◌∙◌, append_assoc, arith, lit≤}
use lib.Utf8.{scalar, encode, encodes, next}
use Rattle.std.specs.Prelude.{◌&&◌, All, map, filter, codes}
use Rattle.std.specs.Int.{is_in_range}
use Rattle.std.specs.List.{flat_map}
use Rattle.std.specs.Str.{chars}
use Rattle.std.specs.Str.Lossy.{utf8_lossy}
use Rattle.std.proofs.lemmas.Bool.{and_parts, and_from, both_ways, not-true, leb-true, le-leb, ltb-true, cond_both, eqb-true, eqb-false, ne_eqb}
use Rattle.std.proofs.lemmas.List.{append-nil, map-append}
use Rattle.std.proofs.lemmas.List.Concat.{flat_map-append}
use Rattle.std.proofs.lemmas.List.Elements.{All-nil, All-cons, All-append, All-map, All-head, All-tail, filter-append}
use Rattle.std.proofs.lemmas.Str.{encodes-append}
use Rattle.zhtml.specs.Laws.{IsVisible, IsVisibleText}
use Rattle.zhtml.specs.Markup.{sheet}
use Rattle.zhtml.proofs.References.{from_less, from_greater, from_quote, from_apostrophe}
use Rattle.zhtml.specs.Texts.{is_white, is_unseen, is_visible, shown, visible, reference_to, escaped_octet, escaped}

-- ---- the octets of a character

-- each is the character itself, below 128, or at least 128
pub encode_octets : (P : ℕ → Type 0) (c : ℕ) → ((b : ℕ) → 128 ≤ b → P b) → (c < 128 → P c) → All P (encode c)
unfolding encode
encode_octets P c high low =
    let none = All-nil P in
    let more = λ (b : ℕ) (bs : List ℕ) (h : 128 ≤ b) (k : All P bs). All-cons P b bs (high b h) k in
    let last : All P (next c ∷ []) = more (next c) [] (omega arith) none in
    let last_two : All P (next (c / 64) ∷ next c ∷ []) = more (next (c / 64)) (next c ∷ []) (omega arith) last in
    let last_three : All P (next (c / 4096) ∷ next (c / 64) ∷ next c ∷ []) =
    more (next (c / 4096)) (next (c / 64) ∷ next c ∷ []) (omega arith) last_two in
    cond_both (ltb c 128) (c ∷ []) _ (All P) (λ h. All-cons P c [] (low (ltb-true c 128 h)) none)
    (λ _. cond_both (ltb c 2048) _ _ (All P) (λ _. more (192 + c / 64) (next c ∷ []) (omega arith) last)
    (λ _. cond_both (ltb c 65536) _ _ (All P)
    (λ _. more (224 + c / 4096) (next (c / 64) ∷ next c ∷ []) (omega arith) last_two)
    (λ _. more (240 + c / 262144) (next (c / 4096) ∷ next (c / 64) ∷ next c ∷ []) (omega arith) last_three)))

-- ---- octets that stand as they are

-- it is none of the five marks
pub record IsPlain (x : ℕ) : Type 0 where
  pub no_ampersand : x ≢ 0x26
  pub no_less : x ≢ 0x3C
  pub no_greater : x ≢ 0x3E
  pub no_quote : x ≢ 0x22
  pub no_apostrophe : x ≢ 0x27

plain_octet : (x : ℕ) → IsPlain x → escaped_octet x ≡ x ∷ []
plain_octet x p =
    rw (ne_eqb x 0x26 p.no_ampersand, ne_eqb x 0x3C p.no_less, ne_eqb x 0x3E p.no_greater, ne_eqb x 0x22 p.no_quote, ne_eqb x 0x27 p.no_apostrophe) refl

high_is_plain : (b : ℕ) → 128 ≤ b → IsPlain b
high_is_plain b h = record {
  no_ampersand = λ e. omega arith;
  no_less = λ e. omega arith;
  no_greater = λ e. omega arith;
  no_quote = λ e. omega arith;
  no_apostrophe = λ e. omega arith;
}

plain_octets : (octets : List ℕ) → All IsPlain octets → escaped octets ≡ octets
unfolding escaped
plain_octets [] h = refl
plain_octets (x ∷ octets) h =
    rw (plain_octet x (All-head IsPlain x octets h), plain_octets octets (All-tail IsPlain x octets h)) refl

pub plain_char : (c : ℕ) → IsPlain c → escaped (encode c) ≡ encode c
plain_char c p = plain_octets (encode c) (encode_octets IsPlain c high_is_plain (λ _. p))

-- what is pushed for a character
pub escaped_char : (c : ℕ) → unwrap_or (reference_to c) (encode c) ≡ escaped (encode c)
unfolding escaped encode
escaped_char c =
    let P : Option (List ℕ) → Type 0 = λ r. unwrap_or r (encode c) ≡ escaped (encode c) in
    cond_both (eqb c 0x26) (Some (codes "&amp;")) (from_less c) P (λ h. rw (eqb-true c 0x26 h) refl)
    (λ a. cond_both (eqb c 0x3C) (Some (codes "&lt;")) (from_greater c) P (λ h. rw (eqb-true c 0x3C h) refl)
    (λ b. cond_both (eqb c 0x3E) (Some (codes "&gt;")) (from_quote c) P (λ h. rw (eqb-true c 0x3E h) refl)
    (λ d. cond_both (eqb c 0x22) (Some (codes "&quot;")) (from_apostrophe c) P (λ h. rw (eqb-true c 0x22 h) refl)
    (λ e. cond_both (eqb c 0x27) (Some (codes "&#39;")) None P (λ h. rw (eqb-true c 0x27 h) refl)
    (λ f. sym (plain_char c (record {
      no_ampersand = eqb-false c 0x26 a;
      no_less = eqb-false c 0x3C b;
      no_greater = eqb-false c 0x3E d;
      no_quote = eqb-false c 0x22 e;
      no_apostrophe = eqb-false c 0x27 f;
    })))))))

pub escaped_append : (xs ys : List ℕ) → escaped (xs ++ ys) ≡ escaped xs ++ escaped ys
unfolding escaped
escaped_append xs ys = flat_map-append escaped_octet xs ys

-- one character more of a text
pub escaped_more : (cs : List ℕ) (c : ℕ)
    → escaped (encodes (map shown (cs ++ c ∷ []))) ≡ escaped (encodes (map shown cs)) ++ escaped (encode (shown c))
escaped_more cs c =
    ap (λ l. escaped (encodes l)) (map-append shown cs (c ∷ []))
    ∙ ap escaped (encodes-append (map shown cs) (shown c ∷ []))
    ∙ escaped_append (encodes (map shown cs)) (encodes (shown c ∷ []))
    ∙ ap (λ l. escaped (encodes (map shown cs)) ++ escaped l) (append-nil (encode (shown c)))

pub put_more : (line now next cs : List ℕ) (c s : ℕ) → s ≡ shown c
    → now ≡ line ++ escaped (encodes (map shown cs)) → next ≡ now ++ unwrap_or (reference_to s) (encode s)
    → next ≡ line ++ escaped (encodes (map shown (cs ++ c ∷ [])))
put_more line now next cs c s is so_far grown =
    grown ∙ ap (λ l. l ++ unwrap_or (reference_to s) (encode s)) so_far
    ∙ append_assoc line (escaped (encodes (map shown cs))) (unwrap_or (reference_to s) (encode s))
    ∙ ap (λ l. line ++ (escaped (encodes (map shown cs)) ++ l)) (escaped_char s ∙ ap (λ x. escaped (encode x)) is)
    ∙ ap (λ l. line ++ l) (sym (escaped_more cs c))

-- ---- style sheets

abbrev pub kept : List ℕ → List ℕ
kept cs = filter (λ c. not (eqb c 0x3C)) cs

pub kept_more : (cs : List ℕ) (c : ℕ)
    → encodes (kept (cs ++ c ∷ [])) ≡ encodes (kept cs) ++ encodes (kept (c ∷ []))
kept_more cs c =
    ap encodes (filter-append (λ x. not (eqb x 0x3C)) cs (c ∷ [])) ∙ encodes-append (kept cs) (kept (c ∷ []))

pub sheet_more : (line now next cs : List ℕ) (c : ℕ)
    → now ≡ line ++ encodes (kept cs) → next ≡ now ++ encodes (kept (c ∷ []))
    → next ≡ line ++ encodes (kept (cs ++ c ∷ []))
sheet_more line now next cs c so_far grown =
    grown ∙ ap (λ l. l ++ encodes (kept (c ∷ []))) so_far
    ∙ append_assoc line (encodes (kept cs)) (encodes (kept (c ∷ []))) ∙ ap (λ l. line ++ l) (sym (kept_more cs c))

kept_octets : (cs : List ℕ) → All (λ x. x ≢ 0x3C) (encodes (kept cs))
kept_octets [] = All-nil (λ x. x ≢ 0x3C)
kept_octets (c ∷ cs) =
    let P : ℕ → Type 0 = λ x. x ≢ 0x3C in
    let Q : List ℕ → Type 0 = λ l. All P (encodes l) in
    cond_both (not (eqb c 0x3C)) (c ∷ kept cs) (kept cs) Q
    (λ h. All-append P (encode c) (encodes (kept cs))
    (encode_octets P c (λ b k e. omega arith) (λ _. eqb-false c 0x3C (not-true (eqb c 0x3C) h))) (kept_octets cs))
    (λ _. kept_octets cs)

pub sheet_is_sound : (octets : List ℕ) → All (λ x. x ≢ 0x3C) (sheet octets)
unfolding sheet
sheet_is_sound octets = kept_octets (chars octets)

-- ---- visible characters

outside : (lo hi c : ℕ) → not (is_in_range lo hi c) ≡ true → lo ≤ c → c ≤ hi → ⊥
outside lo hi c h low high =
    both_ways (is_in_range lo hi c) (not-true (is_in_range lo hi c) h)
    (and_from (leb lo c) (leb c hi) (le-leb lo c low) (le-leb c hi high))

-- what is seen is none that is not
apart : (c k : ℕ) → is_unseen c ≡ false → is_unseen k ≡ true → c ≢ k
apart c k seen unseen e = let both : false ≡ true = sym seen ∙ ap is_unseen e ∙ unseen in cc

visible_by : (c : ℕ) → is_visible c ≡ true → IsVisible c
visible_by c h =
    let seen = and_parts
    (scalar c && leb 0x20 c && not (is_in_range 0x7F 0x9F c) && not (is_in_range 0x2028 0x202E c) && not (is_in_range 0x2066 0x2069 c))
    (not (is_unseen c)) h in
    let visible = not-true (is_unseen c) seen.1 in
    let all = and_parts (scalar c && leb 0x20 c && not (is_in_range 0x7F 0x9F c) && not (is_in_range 0x2028 0x202E c))
    (not (is_in_range 0x2066 0x2069 c)) seen.0 in
    let four = and_parts (scalar c && leb 0x20 c && not (is_in_range 0x7F 0x9F c)) (not (is_in_range 0x2028 0x202E c)) all.0 in
    let three = and_parts (scalar c && leb 0x20 c) (not (is_in_range 0x7F 0x9F c)) four.0 in
    let two = and_parts (scalar c) (leb 0x20 c) three.0 in
    record {
      scalar_value = two.0;
      no_control = leb-true 0x20 c two.1;
      no_later_control = outside 0x7F 0x9F c three.1;
      no_separator_or_embedding = outside 0x2028 0x202E c four.1;
      no_isolate = outside 0x2066 0x2069 c all.1;
      no_arabic_letter_mark = apart c 0x061C visible refl;
      no_directional_mark = (apart c 0x200E visible refl, apart c 0x200F visible refl);
      no_zero_width_space = apart c 0x200B visible refl;
      no_byte_order_mark = apart c 0xFEFF visible refl;
    }

shown_is_visible : (c : ℕ) → IsVisible (shown c)
shown_is_visible c =
    cond_both (is_white c) 0x20 (cond (is_visible c) c 0xFFFD) IsVisible (λ _. visible_by 0x20 refl)
    (λ _. cond_both (is_visible c) c 0xFFFD IsVisible (λ h. visible_by c h) (λ _. visible_by 0xFFFD refl))

pub text_is_visible : (octets : List ℕ) → IsVisibleText (visible octets)
unfolding visible
text_is_visible octets = record {
  characters = map shown (chars (utf8_lossy octets));
  spelled = refl;
  visible = All-map IsVisible shown (chars (utf8_lossy octets)) (λ k d h. shown_is_visible (get_or (chars (utf8_lossy octets)) k d));
}
