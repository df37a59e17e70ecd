-- The widths of texts that are cut, of texts that are filled up with spaces, and of rows in parts.
use Rattle.std.proofs.Common.{◌≡◌, ℕ, zero, suc, ◌+◌, ◌-◌, ◌≤◌, true, false, List, [], ◌∷◌, ◌++◌, leb, refl, sym, ap, ◌∙◌, arith}
use Rattle.std.proofs.lemmas.List.Elements.{All-replicate}
use Rattle.std.proofs.lemmas.Str.Ascii.{IsAscii-from_all}
use Rattle.std.specs.Prelude.{◌<◌, fold, max}
use Rattle.std.specs.Int.{is_in_range}
use Rattle.std.specs.List.{list_all}
use Rattle.std.specs.Str.{IsUtf8, chars}
use Rattle.std.proofs.lemmas.Bool.{leb-true, cond_both}
use Rattle.std.proofs.lemmas.List.{length-replicate}
use Rattle.std.proofs.lemmas.List.Sums.{fold-append}
use Rattle.std.proofs.lemmas.Str.{chars-append, chars-IsAscii}
use Rattle.unicode_width.specs.Width.{str_width}
use Rattle.unicode_width.proofs.Computing.{unicode_width}
use Rattle.unicode_width.proofs.Rules.{is_simple, str_width-append_simple, str_width-printable}
use Rattle.zknow.specs.declared.tables.keys.RowKey.{RowKey}
use Rattle.zknow_titles.specs.declared.rows.Widths.{Widths}
use Rattle.zknow_titles.specs.Columns.{width, ellipsis, cut, widest_cut, clipped, spaces, padded}
use Rattle.zknow_titles.specs.Parts.{widest, WidthsLaw}
use Rattle.zknow_titles.specs.Rows.{position_width, name_width, wider, widths}

-- ---- texts that are cut

ellipsis_width : width ellipsis ≡ 1
unfolding unicode_width
ellipsis_width = refl

widest_cut_width : (most room : ℕ) (cs : List ℕ) → 1 ≤ most → width (widest_cut most room cs) ≤ most
widest_cut_width most zero cs h = omega (arith, ellipsis_width)
widest_cut_width most (suc room) cs h =
    cond_both (leb (width (cut (suc room) cs)) most) (cut (suc room) cs) (widest_cut most room cs)
    (λ t. width t ≤ most) (λ e. leb-true (width (cut (suc room) cs)) most e) (λ _. widest_cut_width most room cs h)

-- a clipped text takes at most so many columns
pub clipped_width : (most : ℕ) (t : List ℕ) → 1 ≤ most → width (clipped most t) ≤ most
unfolding clipped
clipped_width most t h =
    cond_both (leb (width t) most) t (widest_cut most (most - 1) (chars t)) (λ s. width s ≤ most)
    (λ e. leb-true (width t) most e) (λ _. widest_cut_width most (most - 1) (chars t) h)

-- ---- spaces

spaces_simple : (n : ℕ) → list_all is_simple (spaces n) ≡ true
spaces_simple zero = refl
spaces_simple (suc n) = spaces_simple n

spaces_printable : (n : ℕ) → list_all (is_in_range 0x20 0x7E) (spaces n) ≡ true
spaces_printable zero = refl
spaces_printable (suc n) = spaces_printable n

spaces_chars : (n : ℕ) → chars (spaces n) ≡ spaces n
spaces_chars n =
    chars-IsAscii (spaces n) (IsAscii-from_all (spaces n) (All-replicate (λ b. b < 128) n 0x20 (omega arith)))

spaces_width : (n : ℕ) → str_width false (spaces n) ≡ n
spaces_width n = str_width-printable false (spaces n) (spaces_printable n) ∙ length-replicate n 0x20

-- a text behind which spaces stand takes one column more for each
behind_width : (n : ℕ) (t : List ℕ) → IsUtf8 t → width (t ++ spaces n) ≡ width t + n
behind_width n t u =
    ap (str_width false) (chars-append t (spaces n) u ∙ ap (λ cs. chars t ++ cs) (spaces_chars n))
    ∙ str_width-append_simple false (chars t) (spaces n) (spaces_simple n) ∙ ap (λ k. width t + k) (spaces_width n)

-- a text that is filled up to so many columns takes just those, if it is no wider
pub padded_width : (columns : ℕ) (t : List ℕ) → IsUtf8 t → width t ≤ columns → width (padded columns t) ≡ columns
padded_width columns t u h =
    let whole = behind_width (columns - width t) t u in
    omega (arith, whole)

-- ---- rows in parts

max_assoc : (a b c : ℕ) → max (max a b) c ≡ max a (max b c)
max_assoc a b c = omega arith

max_none : (a : ℕ) → max a 0 ≡ a
max_none a = omega arith

-- both widths of a row
abbrev both : ℕ → ℕ → Widths
both position name = record { position = position; name = name }

-- the columns of rows behind others are at least those
widths_behind : (shown : List (List ℕ)) (w v : Widths) (rows : List RowKey)
    → fold (wider shown) (widest w v) rows ≡ widest w (fold (wider shown) v rows)
widths_behind shown w v [] = refl
widths_behind shown w v (k ∷ rows) =
    let p = position_width k in
    let n = name_width shown k in
    ap (λ u. fold (wider shown) u rows)
    (ap (λ q. both q (max (max w.name v.name) n)) (max_assoc w.position v.position p)
    ∙ ap (λ q. both (max w.position (max v.position p)) q) (max_assoc w.name v.name n))
    ∙ widths_behind shown w (wider shown v k) rows

-- the columns of rows are those of their parts
pub widths_append : WidthsLaw
widths_append shown xs ys =
    let none = both 0 0 in
    let w = widths shown xs in
    let same : widest w none ≡ w = ap (λ q. both q (max w.name 0)) (max_none w.position) ∙ ap (λ q. both w.position q)
    (max_none w.name) in
    fold-append (wider shown) none xs ys ∙ sym (ap (λ u. fold (wider shown) u ys) same)
    ∙ widths_behind shown w none ys
