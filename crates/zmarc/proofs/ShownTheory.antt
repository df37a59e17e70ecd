-- What is shown of lists of characters, one after the other.
use Rattle.std.proofs.Common.{◌≡◌, ℕ, Bool, true, false, cond, not, ◌+◌, ◌<◌, List, [], ◌∷◌, ◌++◌, length, take, get_or, refl, sym, ap, ◌∙◌, append_assoc}
use Rattle.std.specs.Prelude.{map, filter}
use Rattle.std.specs.Char.{encode_utf8}
use Rattle.std.specs.Str.{encode_utf8_all, IsCharBoundary}
use Rattle.std.proofs.lemmas.List.{append-nil, take_more}
use Rattle.std.proofs.lemmas.Str.{IsCharBoundary-at_seam}
use Rattle.std.proofs.Math.Seq.{take-append_seam}
use Rattle.zmarc.specs.Shown.{is_sort_mark, shown, shown_text}
use Rattle.zmarc.proofs.SafeTheory.{shown_is_safe}

pub shown_text_nil : shown_text [] ≡ []
unfolding shown_text
shown_text_nil = refl

pub shown_text_mark : (c : ℕ) → is_sort_mark c ≡ true → shown_text (c ∷ []) ≡ []
unfolding shown_text
shown_text_mark c is = rw is refl

pub shown_text_one : (c : ℕ) → is_sort_mark c ≡ false → shown_text (c ∷ []) ≡ encode_utf8 (shown c)
unfolding shown_text
shown_text_one c is = rw is (append-nil (encode_utf8 (shown c)))

abbrev kept : List ℕ → List ℕ
kept cs = filter (λ c. not (is_sort_mark c)) cs

kept_append : (b : Bool) (c : ℕ) (xs ys both : List ℕ)
    → encode_utf8_all (map shown both) ≡ encode_utf8_all (map shown xs) ++ encode_utf8_all (map shown ys)
    → encode_utf8_all (map shown (cond b (c ∷ both) both))
    ≡ encode_utf8_all (map shown (cond b (c ∷ xs) xs)) ++ encode_utf8_all (map shown ys)
kept_append true c xs ys both h =
    ap (λ l. encode_utf8 (shown c) ++ l) h
    ∙ sym (append_assoc (encode_utf8 (shown c)) (encode_utf8_all (map shown xs)) (encode_utf8_all (map shown ys)))
kept_append false c xs ys both h = h

pub shown_text_append : (xs ys : List ℕ) → shown_text (xs ++ ys) ≡ shown_text xs ++ shown_text ys
unfolding shown_text
shown_text_append [] ys = refl
shown_text_append (x ∷ xs) ys =
    kept_append (not (is_sort_mark x)) x (kept xs) (kept ys) (kept (xs ++ ys)) (shown_text_append xs ys)

-- one character more is shown
pub shown_more : (cs : List ℕ) (i c : ℕ) (line next : List ℕ) → i < length cs → get_or cs i c ≡ c
    → (now : List ℕ) → now ≡ line ++ shown_text (take i cs) → next ≡ now ++ shown_text (c ∷ [])
    → next ≡ line ++ shown_text (take (i + 1) cs)
shown_more cs i c line next h is now so_far grown =
    grown ∙ ap (λ l. l ++ shown_text (c ∷ [])) so_far
    ∙ append_assoc line (shown_text (take i cs)) (shown_text (c ∷ []))
    ∙ ap (λ l. line ++ l) (sym (shown_text_append (take i cs) (c ∷ [])))
    ∙ ap (λ x. line ++ shown_text (take i cs ++ x ∷ [])) (sym is)
    ∙ ap (λ l. line ++ shown_text l) (sym (take_more cs i c h))

-- ---- what is cut off again

-- a line may be cut where characters begin that are shown
pub may_cut : (line next cs : List ℕ) (n : ℕ) → next ≡ line ++ shown_text cs → n ≡ length line → IsCharBoundary next n
may_cut line next cs n grown is =
    rw is (IsCharBoundary-at_seam next line (shown_text cs) grown (shown_is_safe cs).utf8)

pub cut_back : (line next cs : List ℕ) (n : ℕ) → next ≡ line ++ shown_text cs → n ≡ length line → take n next ≡ line
cut_back line next cs n grown is =
    ap (λ l. take n l) grown ∙ ap (λ k. take k (line ++ shown_text cs)) is ∙ take-append_seam line (shown_text cs)
