-- Years and lines, one step after the other.
use Rattle.std.proofs.Common.{◌≡◌, ℕ, ◌+◌, ◌<◌, ◌≤◌, Option, Some, None, List, ◌∷◌, length, drop, get_or, sym, ap, ◌∙◌}
use Rattle.std.specs.Borrow.{Bor}
use Rattle.std.specs.Option.{option_or}
use Rattle.std.proofs.lemmas.List.{drop_more, drop_all}
use Rattle.zmarc.specs.declared.charset.Charset.{Charset}
use Rattle.zmarc.specs.Charsets.{text}
use Rattle.zmarc.specs.References.{behind_each}
use Rattle.zmarc.specs.Briefs.{joined, with_piece}
use Rattle.zmarc.specs.Subfields.{first_given}
use Rattle.zmarc.specs.Years.{four_digits, first_year, first_four_digits}

-- ---- years

pub no_digits : (octets : List ℕ) (at : ℕ) → length octets ≤ at → four_digits (drop at octets) ≡ None
unfolding four_digits
no_digits octets at h = ap four_digits (drop_all at octets h)

pub later_year : (octets : List ℕ) (at : ℕ) → at < length octets → four_digits (drop at octets) ≡ None
    → first_year (drop at octets) ≡ first_year (drop (at + 1) octets)
unfolding first_year
later_year octets at h none =
    let next = drop_more octets at 0 h in
    let here : four_digits (get_or octets at 0 ∷ drop (at + 1) octets) ≡ None = ap four_digits (sym next) ∙ none in
    ap first_four_digits next ∙ ap (λ o. option_or o (first_four_digits (drop (at + 1) octets))) here

-- ---- fields

pub given_now : (of : List ℕ → Option (List ℕ)) (found : List (Bor (List ℕ))) (i : ℕ) (d : Bor (List ℕ)) (x : List ℕ)
    → i < length found → of (get_or found i d).now ≡ Some x → first_given of (behind_each (drop i found)) ≡ Some x
given_now of found i d x h is =
    ap (λ l. first_given of (behind_each l)) (drop_more found i d h)
    ∙ ap (λ o. option_or o (first_given of (behind_each (drop (i + 1) found)))) is

pub given_later : (of : List ℕ → Option (List ℕ)) (found : List (Bor (List ℕ))) (i : ℕ) (d : Bor (List ℕ))
    → i < length found → of (get_or found i d).now ≡ None
    → first_given of (behind_each (drop i found)) ≡ first_given of (behind_each (drop (i + 1) found))
given_later of found i d h is =
    ap (λ l. first_given of (behind_each l)) (drop_more found i d h)
    ∙ ap (λ o. option_or o (first_given of (behind_each (drop (i + 1) found)))) is

pub given_end : (of : List ℕ → Option (List ℕ)) (found : List (Bor (List ℕ))) (i : ℕ) → length found ≤ i
    → first_given of (behind_each (drop i found)) ≡ None
given_end of found i h = ap (λ l. first_given of (behind_each l)) (drop_all i found h)

-- ---- pieces

pub joined_next : (set : Charset) (line next : List ℕ) (found : List (Bor (List ℕ))) (i : ℕ) (d : Bor (List ℕ))
    → i < length found → next ≡ with_piece line (text set (get_or found i d).now)
    → joined set next (behind_each (drop (i + 1) found)) ≡ joined set line (behind_each (drop i found))
unfolding joined
joined_next set line next found i d h grown =
    ap (λ l. joined set l (behind_each (drop (i + 1) found))) grown
    ∙ sym (ap (λ l. joined set line (behind_each l)) (drop_more found i d h))

pub joined_end : (set : Charset) (line : List ℕ) (found : List (Bor (List ℕ))) (i : ℕ) → length found ≤ i
    → joined set line (behind_each (drop i found)) ≡ line
unfolding joined
joined_end set line found i h = ap (λ l. joined set line (behind_each l)) (drop_all i found h)
