-- One element of a saved file: it has octets, and octets begin with at most one.
use Rattle.std.proofs.Common.{◌≡◌, ◌≢◌, ◌<◌, ℕ, List, ◌++◌, length, Option, Some, None, refl, sym, ap, subst, ◌∙◌, arith}
use Rattle.std.proofs.lemmas.List.{append_cancel_left}
use Rattle.zber.specs.Elements.{Element, height}
use Rattle.zber.specs.Canonical.{canonical, IsLawful}
use Rattle.zasn.specs.Place.{Place}
use Rattle.zber.proofs.CanonicalLemmas.{canonical_is_spelling}
use Rattle.zber.proofs.OneSpelling.{one_spelling}
use Rattle.zber.proofs.ScanSteps.{spells_some}
use Rattle.zknow.specs.Encodings.{encoding, canonical_or_empty}
use Rattle.zknow.specs.Saved.Saved.{IsElement, IsWithinLimits}
use Rattle.zknow.specs.Saved.Loaded.{HasFrontValue}

module _ {A : Type 0} (p : Place A) where
  pub element_some : (x : A) (s : List ℕ) → IsElement p x s → 0 < length s
  element_some x s e = spells_some e.message.spelled

  same_value : (x y : A) (m n : Element) → p.writes x m → p.writes y n → m ≡ n → x ≡ y
  same_value x y m n sx sy same =
      let of_x = p.finds x m sx in
      let of_y = p.finds y n sy in
      (cc)

  pub one_element : (x y : A) (s t a b : List ℕ) → IsElement p x s → IsElement p y t → s ++ a ≡ t ++ b → (x ≡ y) × (s ≡ t)
  one_element x y s t a b ex ey same =
      let one = one_spelling a b ex.message.spelled ey.message.spelled same in
      (same_value x y ex.node ey.node ex.says ey.says one.0, one.1)

  -- and then what follows is the same
  pub same_rest : (x y : A) (s t a b : List ℕ) → IsElement p x s → IsElement p y t → s ++ a ≡ t ++ b → a ≡ b
  same_rest x y s t a b ex ey same =
      let one = one_element x y s t a b ex ey same in
      append_cancel_left t a b (ap (λ l. l ++ a) (sym one.1) ∙ same)

  module _ (x : A) (lawful : (n : Element) → p.spelling x ≡ Some n → IsLawful n) (octets spelling rest : List ℕ) (begins : HasFrontValue p x octets spelling rest) where
    -- where the octets begin with the canonical element, that is their element
    canonical_spelling : (o : Option Element) → p.spelling x ≡ o → (after : List ℕ) → octets ≡ encoding p x ++ after → spelling ≡ encoding p x
    canonical_spelling None is after front = absurd (p.none x is begins.element.node begins.element.says)
    canonical_spelling (Some n) is after front =
        let spelled = canonical_is_spelling (height n) n (lawful n is) (omega arith) in
        let written : encoding p x ≡ canonical n = ap canonical_or_empty is in
        let lined : spelling ++ rest ≡ canonical n ++ after = sym begins.cut ∙ front ∙ ap (λ l. l ++ after) written in
        (one_spelling rest after begins.element.message.spelled spelled lined).1 ∙ sym written

    pub canonical_front : (after : List ℕ) → octets ≡ encoding p x ++ after → IsWithinLimits p x
    canonical_front after front = subst (IsElement p x) (canonical_spelling (p.spelling x) refl after front) begins.element

    pub odd_front : ((after : List ℕ) → octets ≡ encoding p x ++ after → ⊥) → spelling ≢ encoding p x
    odd_front never same = never rest (begins.cut ∙ ap (λ l. l ++ rest) same)
