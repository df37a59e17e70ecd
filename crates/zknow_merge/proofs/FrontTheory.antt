-- What octets show of an element does not change when more octets come after them.
use Rattle.std.proofs.Common.{◌≡◌, ◌≤◌, ℕ, zero, suc, List, [], ◌∷◌, ◌++◌, length, take, drop, Some, None, refl, sym, ap, subst, ◌∙◌, arith, append_assoc, take-append-drop}
use Rattle.std.specs.Prelude.{Err}
use Rattle.std.proofs.Math.Seq.{take-append_seam}
use Rattle.zber.specs.Elements.{Element}
use Rattle.zasn_tables.specs.Place.{Place}
use Rattle.zknow.specs.Saved.Saved.{longest}
use Rattle.zknow.specs.Saved.Fronts.{IsFrontElement, IsNoncanonical}
use Rattle.zknow.proofs.SavedTheory.FrontElements.{no_front}
use Rattle.zknow_merge.specs.declared.front.FrontError.{FrontError}
use Rattle.zknow_merge.specs.declared.front.FrontError.TheVariants.{NoValue, NotCanonical, Unfinished, Memory}
use Rattle.zknow_merge.specs.Fronts.{IsNodeResult, IsValueResult, IsFrontFault}

pub front_stays : (octets more : List ℕ) (n : Element) → IsFrontElement octets (Some n) → IsFrontElement (octets ++ more) (Some n)
front_stays octets more n front =
    let b = front.1 in (
      front.0 ++ more,
      record {
        message = b.message;
        is = b.is;
        cut = ap (λ (l : List ℕ). l ++ more) b.cut ∙ append_assoc b.message front.0 more;
      },
    )

-- ---- windows

module _ (octets window : List ℕ) (size : ℕ) (is : window ≡ take size octets) where
  behind_window : window ++ drop size octets ≡ octets
  behind_window = ap (λ (l : List ℕ). l ++ drop size octets) is ∙ take-append-drop size octets

  pub whole_of_window : (n : Element) → IsFrontElement window (Some n) → IsFrontElement octets (Some n)
  whole_of_window n front =
      subst (λ (l : List ℕ). IsFrontElement l (Some n)) behind_window (front_stays window (drop size octets) n front)

  pub fault_of_window : ((more : List ℕ) → IsFrontElement (window ++ more) None) → (more : List ℕ) → IsFrontElement (octets ++ more) None
  fault_of_window none more =
      subst (λ (l : List ℕ). IsFrontElement l None)
      (sym (append_assoc window (drop size octets) more) ∙ ap (λ (l : List ℕ). l ++ more) behind_window)
      (none (drop size octets ++ more))

front_kept : (size : ℕ) (front rest : List ℕ) → length front ≤ size → (r : List ℕ) × (take size (front ++ rest) ≡ front ++ r)
front_kept size [] rest within = (take size rest, refl)
front_kept zero (x ∷ front) rest within = absurd (omega (arith, within))
front_kept (suc size) (x ∷ front) rest within =
    let kept = front_kept size front rest (omega (arith, within)) in
    (kept.0, ap (λ (l : List ℕ). x ∷ l) kept.1)

-- where as many octets as an element may have show none, more of them show none
pub long_none : (octets more : List ℕ) → longest ≤ length octets → IsFrontElement octets None → IsFrontElement (octets ++ more) None
long_none octets more long none n rest begins =
    let within : length begins.message ≤ length octets = omega (arith, begins.is.within, long) in
    let kept = front_kept (length octets) begins.message rest within in
    none n kept.0 (record {
      message = begins.message;
      is = begins.is;
      cut = sym (take-append_seam octets more) ∙ ap (take (length octets)) begins.cut ∙ kept.1;
    })

-- ---- values

module _ {A : Type 0} (p : Place A) (octets : List ℕ) where
  pub odd_stays : IsNoncanonical p octets → (more : List ℕ) → IsNoncanonical p (octets ++ more)
  odd_stays h more = record {
    value = h.value;
    spelling = h.spelling;
    rest = h.rest ++ more;
    begins = record {
      cut = ap (λ (l : List ℕ). l ++ more) h.begins.cut ∙ append_assoc h.spelling h.rest more;
      element = h.begins.element;
    };
    odd = h.odd;
  }

  pub node_fault : (e : FrontError) → IsNodeResult octets (Err e) → IsFrontFault p octets e
  node_fault NoValue h = λ more. no_front p (octets ++ more) (h more)
  node_fault NotCanonical h = absurd h
  node_fault Unfinished h = no_front p octets h
  node_fault Memory h = tt

  pub value_fault : (e : FrontError) → IsValueResult p octets (Err e) → IsFrontFault p octets e
  value_fault NoValue h = h
  value_fault NotCanonical h = absurd h
  value_fault Unfinished h = absurd h
  value_fault Memory h = tt
